use Rattle.turns.proofs.Rows.{sure_is_past}
use Rattle.turns.proofs.theorems.sure_is_past.Goals as goal

pub returns : goal.returns
returns g c = sure_is_past _
