use Rattle.std.proofs.Common.{rules}
use Rattle.paging.specs.Tables.{frame_of}
use Rattle.paging.proofs.tables.frame.Goals as goal

pub returns : goal.returns
unfolding frame_of
returns c = search rules
