-- What the operations compute, and when the conditions hold, on words of 32 bits: numbers below 2 ^ 32. Assumes nothing: these are definitions.
use Rattle.std.specs.Prelude.{ℕ, ◌+◌, ◌-◌, ◌*◌, ◌/◌, ◌%◌, ◌^◌, Bool, if◌then◌else◌, not, ℤ, ◌==◌, bit_and, bit_or, bit_xor, int_lt, nat_lt}
use Rattle.std.specs.Int.Signed.{shr_z}
use Rattle.instructions.specs.declared.instruction.Operation.{Operation}
use Rattle.instructions.specs.declared.instruction.Operation.TheVariants.{Add, Sub, Sll, Slt, Sltu, Xor, Srl, Sra, Or, And}
use Rattle.instructions.specs.declared.instruction.Condition.{Condition}
use Rattle.instructions.specs.declared.instruction.Condition.TheVariants.{Eq, Ne, Lt, Ge, Ltu, Geu}
use Rattle.instructions.specs.Fields.{signed_of, word_of}

-- the number that a word stands for in two's complement
abbrev pub signed : ℕ → ℤ
signed x = signed_of 2147483648 x

-- what an operation makes of two words; a shift takes the low five bits of the second, and SRA rounds down
abbrev pub computed : Operation → ℕ → ℕ → ℕ
computed Add x y = (x + y) % 2 ^ 32
computed Sub x y = (x + (2 ^ 32 - y)) % 2 ^ 32
computed Sll x y = x * 2 ^ (y % 32) % 2 ^ 32
computed Slt x y = if int_lt (signed x) (signed y) then 1 else 0
computed Sltu x y = if nat_lt x y then 1 else 0
computed Xor x y = bit_xor x y
computed Srl x y = x / 2 ^ (y % 32)
computed Sra x y = word_of (shr_z (signed x) (2 ^ (y % 32)))
computed Or x y = bit_or x y
computed And x y = bit_and x y

-- whether a branch on two words is taken
abbrev pub holds_of : Condition → ℕ → ℕ → Bool
holds_of Eq x y = x == y
holds_of Ne x y = not (x == y)
holds_of Lt x y = int_lt (signed x) (signed y)
holds_of Ge x y = not (int_lt (signed x) (signed y))
holds_of Ltu x y = nat_lt x y
holds_of Geu x y = not (nat_lt x y)
