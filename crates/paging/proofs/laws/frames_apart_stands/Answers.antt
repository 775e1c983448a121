use Rattle.paging.proofs.Standing.{frames_apart}
use Rattle.paging.proofs.laws.frames_apart_stands.Goals as goal

pub returns : goal.returns
returns c = frames_apart
