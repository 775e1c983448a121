use Rattle.turns.proofs.Others.{apart}
use Rattle.turns.proofs.theorems.processes_are_apart.Goals as goal

pub returns : goal.returns
returns g c = apart _
