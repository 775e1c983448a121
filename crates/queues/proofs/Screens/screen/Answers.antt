use Rattle.std.proofs.Common.{refl}
use Rattle.queues.specs.Screens.{screen_of}
use Rattle.queues.proofs.Screens.screen.Goals as goal

pub returns : goal.returns
unfolding screen_of
returns c = refl
