use Rattle.std.proofs.Common.{◌∙◌, ap, length, arith}
use Rattle.disc.proofs.Images.{name_other, sizes_are, word_same}
use Rattle.disc.proofs.format.put_sizes.Goals as goal

pub returns-clause-sizes : goal.returns-clause-sizes
returns-clause-sizes c =
    let four = ap length c.copy_from_slice.ensures.after in
    sizes_are _ c.args.z
    (λ k l. word_same c.put_words.new.image _ _ (λ i u v. name_other c.put_words.new.image _ i (omega arith) (omega arith)) ∙ c.put_words.ensures.each k l)
