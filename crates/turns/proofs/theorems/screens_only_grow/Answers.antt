use Rattle.turns.proofs.Screens.{stays_shown}
use Rattle.turns.proofs.theorems.screens_only_grow.Goals as goal

pub returns : goal.returns
returns g c = stays_shown _
