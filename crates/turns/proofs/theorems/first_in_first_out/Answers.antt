use Rattle.turns.proofs.Pipes.{first_in_first_out}
use Rattle.turns.proofs.theorems.first_in_first_out.Goals as goal

pub returns : goal.returns
returns g c = first_in_first_out _
