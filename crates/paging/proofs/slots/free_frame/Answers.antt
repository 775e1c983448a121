use Rattle.paging.specs.Tables.{free_at}
use Rattle.paging.proofs.slots.free_frame.Goals as goal

pub returns : goal.returns
unfolding free_at
returns c = c.read.ensures
