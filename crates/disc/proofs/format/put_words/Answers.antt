use Rattle.std.proofs.Common.{refl, arith}
use Rattle.disc.proofs.Images.{words_more}
use Rattle.disc.proofs.format.put_words.Goals as goal

pub loop-i-preserved : goal.loop-i-preserved
loop-i-preserved c =
    rw c.write.ensures.row
    (words_more c.loop-i.image c.args.image.now c.args.words.now c.loop-i.i _ (omega arith) (let t = c.type_inv.words c.loop-i.i in omega arith) refl c.loop-i.invariant.0
    c.loop-i.invariant.1)
