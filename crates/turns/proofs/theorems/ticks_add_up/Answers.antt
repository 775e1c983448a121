use Rattle.turns.proofs.Rows.{tick_by_tick}
use Rattle.turns.proofs.theorems.ticks_add_up.Goals as goal

pub returns : goal.returns
returns g c = tick_by_tick _
