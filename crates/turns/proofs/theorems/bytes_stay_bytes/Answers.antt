use Rattle.turns.proofs.Within.{keeps_bytes}
use Rattle.turns.proofs.theorems.bytes_stay_bytes.Goals as goal

pub returns : goal.returns
returns g c = keeps_bytes _
