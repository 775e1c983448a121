use Rattle.disc.specs.Check.{sizes_in}
use Rattle.disc.proofs.Verdicts.{sizes_first}
use Rattle.disc.proofs.check.sizes_of.Goals as goal

pub returns : goal.returns
unfolding sizes_in
returns c =
    rw (
      sizes_first c.args.disc.now c.requires.within,
      c.read.ensures,
      c.read-2.ensures,
      c.read-3.ensures,
      c.read-4.ensures,
      c.read-5.ensures,
      c.read-6.ensures,
      c.read-7.ensures,
      c.read-8.ensures,
      c.read-9.ensures,
      c.read-10.ensures,
    )
