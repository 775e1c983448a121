use Rattle.turns.proofs.Rows.{ends_with_first}
use Rattle.turns.proofs.theorems.ends_with_first.Goals as goal

pub returns : goal.returns
returns g c = ends_with_first _
