use Rattle.paging.proofs.Standing.{free_frames}
use Rattle.paging.proofs.laws.free_frames_stands.Goals as goal

pub returns : goal.returns
returns c = free_frames
