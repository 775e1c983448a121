use Rattle.std.proofs.Common.{rules}
use Rattle.paging.specs.Tables.{entry_of}
use Rattle.paging.proofs.tables.entry.Goals as goal

pub returns : goal.returns
unfolding entry_of
returns c = record { value = c.read.ensures; fits = search rules }
