use Rattle.turns.proofs.Lives.{keeps_promise}
use Rattle.turns.proofs.promise.promise_is_kept.Goals as goal

pub returns : goal.returns
returns g c = keeps_promise g.S.Machine.system g.S.Machine.owed
