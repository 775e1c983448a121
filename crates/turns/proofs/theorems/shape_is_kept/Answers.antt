use Rattle.turns.proofs.Within.{keeps_shape}
use Rattle.turns.proofs.theorems.shape_is_kept.Goals as goal

pub returns : goal.returns
returns g c = keeps_shape _
