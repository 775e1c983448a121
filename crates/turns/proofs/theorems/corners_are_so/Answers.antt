use Rattle.turns.proofs.Computed.{corners}
use Rattle.turns.proofs.theorems.corners_are_so.Goals as goal

pub returns : goal.returns
returns c = corners
