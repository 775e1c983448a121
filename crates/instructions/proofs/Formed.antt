-- What it takes for an instruction to be well-formed, as facts about numbers.
use Rattle.std.proofs.Common.{◌≡◌, ℕ, ◌-◌, ◌%◌, ◌<◌, true, ℤ, pos, negsuc, ◌≤ℤ◌, ◌<ℤ◌, refl, arith}
use Rattle.std.proofs.lemmas.Int.{ints}
use Rattle.instructions.specs.declared.instruction.Operation.{Operation}
use Rattle.instructions.specs.declared.instruction.Operation.TheVariants.{Add, Sub, Sll, Slt, Sltu, Xor, Srl, Sra, Or, And}
use Rattle.instructions.specs.declared.instruction.Instruction.{Instruction}
use Rattle.instructions.specs.declared.instruction.Instruction.TheVariants.{Lui, Auipc, Jal, Jalr, Branch, Load, Store, OpImm, Op, Fence, Ecall}
use Rattle.instructions.specs.Fields.{word_of}
use Rattle.instructions.specs.Encode.{formed}

-- from - h to h - 1
abbrev pub Within : ℕ → ℤ → Type 0
Within h z = (negsuc (h - 1) ≤ℤ z) × (z <ℤ pos h)

abbrev pub Even : ℤ → Type 0
Even z = word_of z % 2 ≡ 0

abbrev pub Amount : ℤ → Type 0
Amount z = (pos 0 ≤ℤ z) × (z <ℤ pos 32)

abbrev pub Fits : Operation → ℤ → Type 0
Fits Add z = Within 2048 z
Fits Sub z = ⊥
Fits Sll z = Amount z
Fits Slt z = Within 2048 z
Fits Sltu z = Within 2048 z
Fits Xor z = Within 2048 z
Fits Srl z = Amount z
Fits Sra z = Amount z
Fits Or z = Within 2048 z
Fits And z = Within 2048 z

abbrev pub Formed : Instruction → Type 0
Formed (Lui rd imm) = (rd < 32) × (imm % 4096 ≡ 0)
Formed (Auipc rd imm) = (rd < 32) × (imm % 4096 ≡ 0)
Formed (Jal rd z) = (rd < 32) × Within 1048576 z × Even z
Formed (Jalr rd rs1 z) = (rd < 32) × (rs1 < 32) × Within 2048 z
Formed (Branch t rs1 rs2 z) = (rs1 < 32) × (rs2 < 32) × Within 4096 z × Even z
Formed (Load width rd rs1 z) = (rd < 32) × (rs1 < 32) × Within 2048 z
Formed (Store width rs1 rs2 z) = (rs1 < 32) × (rs2 < 32) × Within 2048 z
Formed (OpImm o rd rs1 z) = (rd < 32) × (rs1 < 32) × Fits o z
Formed (Op o rd rs1 rs2) = (rd < 32) × (rs1 < 32) × (rs2 < 32)
Formed (Fence fm pred succ rd rs1) = (fm < 16) × (pred < 16) × (succ < 16) × (rd < 32) × (rs1 < 32)
Formed Ecall = Unit {0}

pub formed_true : (i : Instruction) → formed i ≡ true → Formed i
formed_true i h = grind (arith, ints)

pub true_formed : (i : Instruction) → Formed i → formed i ≡ true
true_formed (Lui rd imm) f = grind arith
true_formed (Auipc rd imm) f = grind arith
true_formed (Jal rd z) f = grind (arith, ints)
true_formed (Jalr rd rs1 z) f = grind (arith, ints)
true_formed (Branch t rs1 rs2 z) f = grind (arith, ints)
true_formed (Load width rd rs1 z) f = grind (arith, ints)
true_formed (Store width rs1 rs2 z) f = grind (arith, ints)
true_formed (OpImm o rd rs1 z) f = grind (arith, ints)
true_formed (Op o rd rs1 rs2) f = grind arith
true_formed (Fence fm pred succ rd rs1) f = grind arith
true_formed Ecall f = refl
