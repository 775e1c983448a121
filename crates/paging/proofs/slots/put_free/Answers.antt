use Rattle.std.proofs.Common.{arith}
use Rattle.paging.specs.Tables.Slot.{free}
use Rattle.paging.proofs.Slotting.{slotted}
use Rattle.paging.proofs.slots.put_free.Goals as goal

pub returns : goal.returns
returns c = rw c.write.ensures.row (slotted c.args.frames.now (free c.args.k) c.args.n _ (omega arith) c.requires.tops c.requires.stack (omega arith) c.requires.long)
