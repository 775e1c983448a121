use Rattle.turns.proofs.Files.{by_handle}
use Rattle.turns.proofs.theorems.files_change_by_handle.Goals as goal

pub returns : goal.returns
returns g c = by_handle _
