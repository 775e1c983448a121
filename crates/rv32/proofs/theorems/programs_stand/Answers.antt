use Rattle.rv32.proofs.Computed.{hello_shows, stray_ends}
use Rattle.rv32.proofs.theorems.programs_stand.Goals as goal

pub returns : goal.returns
returns c = (hello_shows, stray_ends)
