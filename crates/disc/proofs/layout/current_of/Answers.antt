use Rattle.std.proofs.Common.{sym, rules}
use Rattle.disc.proofs.Places.{current_byte}
use Rattle.disc.proofs.layout.current_of.Goals as goal

pub returns : goal.returns
returns c = record { value = sym (current_byte c.args.disc.now c.requires.within); two = search rules }
