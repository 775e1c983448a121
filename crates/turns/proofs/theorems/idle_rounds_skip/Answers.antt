use Rattle.turns.proofs.Idle.{idle_rounds}
use Rattle.turns.proofs.theorems.idle_rounds_skip.Goals as goal

pub returns : goal.returns
returns g c = idle_rounds _
