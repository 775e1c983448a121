use Rattle.std.proofs.Common.{map, vec_items}
use Rattle.turns.specs.declared.vocabulary.Sizes.{Sizes}
use Rattle.disc.specs.Format.{Laid}
use Rattle.disc.specs.Plans.{shape}
use Rattle.disc.proofs.format.put_files.Given as goal

abbrev pub invariant-loop-f : goal.invariant-loop-f
invariant-loop-f l = (z : Sizes) → Laid z (shape l.plan) (map vec_items l.files) 0 l.initial.image → Laid z (shape l.plan) (map vec_items l.files) l.f l.image
