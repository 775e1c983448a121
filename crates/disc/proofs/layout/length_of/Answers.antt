use Rattle.std.proofs.Common.{sym, ◌∙◌, arith, rules}
use Rattle.disc.proofs.Places.{length_bytes}
use Rattle.disc.proofs.layout.length_of.Goals as goal

pub returns : goal.returns
returns c = record { value = c.read.ensures ∙ sym (length_bytes c.args.head.now c.args.f c.requires.lengths (omega arith)); within = search rules }
