use Rattle.std.proofs.Common.{arith}
use Rattle.disc.proofs.Images.{filed_at}
use Rattle.disc.proofs.format.put_file.Goals as goal

pub returns-clause-others : goal.returns-clause-others
returns-clause-others c =
    let l = c.copy_at-at.ensures.low in
    let w = c.copy_at-at.ensures.within in
    let fit = c.args.plan.fit in
    (filed_at c.args.image.now c.write.new.row c.copy_from_slice.new.self c.args.bytes.now c.copy_at-at.result _ _ c.args.f _
    c.copy_at-at.ensures.value c.write.ensures.row c.write.ensures.read c.copy_from_slice.ensures.after (omega arith) (omega arith) (omega arith) (omega arith)).2
