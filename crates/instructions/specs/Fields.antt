-- The fields of an instruction word, as the instruction formats of the specification have them: bits a to b of w are w / 2 ^ a % 2 ^ (b - a + 1). Assumes
-- nothing: these are definitions.
use Rattle.std.specs.Prelude.{ℕ, ◌+◌, ◌*◌, ◌/◌, ◌%◌, if◌then◌else◌, ℤ, pos, ◌-ℤ◌, nat_lt}
use Rattle.std.proofs.Common.{of_z}
use Rattle.std.specs.Int.{w32}

-- bits 0 to 6
abbrev pub opcode_of : ℕ → ℕ
opcode_of w = w % 128

-- bits 7 to 11
abbrev pub rd_of : ℕ → ℕ
rd_of w = w / 128 % 32

-- bits 12 to 14
abbrev pub funct3_of : ℕ → ℕ
funct3_of w = w / 4096 % 8

-- bits 15 to 19
abbrev pub rs1_of : ℕ → ℕ
rs1_of w = w / 32768 % 32

-- bits 20 to 24
abbrev pub rs2_of : ℕ → ℕ
rs2_of w = w / 1048576 % 32

-- bits 25 to 31
abbrev pub funct7_of : ℕ → ℕ
funct7_of w = w / 33554432

-- of FENCE: the mode in bits 28 to 31, the predecessors in 24 to 27, the successors in 20 to 23
abbrev pub fm_of : ℕ → ℕ
fm_of w = w / 268435456 % 16

abbrev pub pred_of : ℕ → ℕ
pred_of w = w / 16777216 % 16

abbrev pub succ_of : ℕ → ℕ
succ_of w = w / 1048576 % 16

-- the number that bits below 2 * h stand for in two's complement
abbrev pub signed_of : ℕ → ℕ → ℤ
signed_of h x = if nat_lt x h then pos x else pos x -ℤ pos (2 * h)

-- the word that stands for a number in two's complement: the number modulo 2 ^ 32
abbrev pub word_of : ℤ → ℕ
word_of z = of_z w32 z

-- U: bits 12 to 31 in place
abbrev pub upper_of : ℕ → ℕ
upper_of w = w / 4096 * 4096

-- I: bits 20 to 31
abbrev pub imm_i : ℕ → ℤ
imm_i w = signed_of 2048 (w / 1048576)

-- S: imm[11:5] in bits 25 to 31, imm[4:0] in bits 7 to 11
abbrev pub bits_s : ℕ → ℕ
bits_s w = w / 33554432 * 32 + w / 128 % 32

abbrev pub imm_s : ℕ → ℤ
imm_s w = signed_of 2048 (bits_s w)

-- B: imm[12] in bit 31, imm[11] in bit 7, imm[10:5] in bits 25 to 30, imm[4:1] in bits 8 to 11
abbrev pub bits_b : ℕ → ℕ
bits_b w = w / 2147483648 * 4096 + w / 128 % 2 * 2048 + w / 33554432 % 64 * 32 + w / 256 % 16 * 2

abbrev pub imm_b : ℕ → ℤ
imm_b w = signed_of 4096 (bits_b w)

-- J: imm[20] in bit 31, imm[19:12] in bits 12 to 19, imm[11] in bit 20, imm[10:1] in bits 21 to 30
abbrev pub bits_j : ℕ → ℕ
bits_j w = w / 2147483648 * 1048576 + w / 4096 % 256 * 4096 + w / 1048576 % 2 * 2048 + w / 2097152 % 1024 * 2

abbrev pub imm_j : ℕ → ℤ
imm_j w = signed_of 1048576 (bits_j w)
