use Rattle.std.proofs.Common.{arith}
use Rattle.paging.specs.Tables.Slot.{page}
use Rattle.paging.proofs.Slotting.{slotted}
use Rattle.paging.proofs.slots.put_page.Goals as goal

pub returns : goal.returns
returns c =
    rw c.write.ensures.row
    (slotted c.args.frames.now (page c.args.p c.args.i) c.args.n _ (omega arith) c.requires.tops (c.requires.process, c.requires.page) (omega arith) c.requires.long)
