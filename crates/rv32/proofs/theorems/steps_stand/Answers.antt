use Rattle.rv32.proofs.Stepping.{steps}
use Rattle.rv32.proofs.theorems.steps_stand.Goals as goal

pub returns : goal.returns
returns c = steps
