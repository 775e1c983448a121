use Rattle.turns.proofs.Pipes.{in_order}
use Rattle.turns.proofs.theorems.pipes_are_in_order.Goals as goal

pub returns : goal.returns
returns g c = in_order _
