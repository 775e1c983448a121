use Rattle.turns.proofs.Rows.{in_parts}
use Rattle.turns.proofs.theorems.rows_come_in_parts.Goals as goal

pub returns : goal.returns
returns g c = in_parts _
