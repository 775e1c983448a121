use Rattle.std.proofs.Common.{◌/◌, ◌^◌, ◌<◌, arith}
use lib.Bits.{and_mask}
use Rattle.std.proofs.lemmas.Nat.{one_shl}
use Rattle.instructions.proofs.fields.bits.Goals as goal

pub returns : goal.returns
returns c = let a = c.args in let h : a.count < 32 = omega arith in
    rw (one_shl a.count 32 h) (and_mask (a.word / 2 ^ a.from) a.count)
