use Rattle.std.proofs.Common.{◌+◌, ◌/◌, ◌%◌, ◌^◌, get_or, sym, ◌∙◌, arith}
use Rattle.std.proofs.lemmas.Nat.{and_mask}
use Rattle.disc.proofs.Places.{copy_byte}
use Rattle.disc.proofs.layout.copy_of.Goals as goal

pub returns : goal.returns
returns c =
    let e = and_mask (get_or c.args.head.now (512 + c.args.j / 8) 0 / 2 ^ (c.args.j % 8)) 1 in
    record { two = omega arith; value = e ∙ sym (copy_byte c.args.head.now c.args.j c.requires.bits) }
