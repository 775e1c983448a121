-- The word of an instruction, and which instructions have one. Assumes nothing: these are definitions.
use Rattle.std.specs.Prelude.{◌≡◌, ℕ, ◌+◌, ◌*◌, ◌/◌, ◌%◌, ◌^◌, ◌<◌, Bool, true, false, if◌then◌else◌, ◌&&◌, ℤ, pos, neg_ℤ, Some, None, Option, ◌==◌, int_le, int_lt, nat_lt}
use Rattle.instructions.specs.declared.instruction.Operation.{Operation}
use Rattle.instructions.specs.declared.instruction.Operation.TheVariants.{Add, Sub, Sll, Slt, Sltu, Xor, Srl, Sra, Or, And}
use Rattle.instructions.specs.declared.instruction.Condition.{Condition}
use Rattle.instructions.specs.declared.instruction.Condition.TheVariants.{Eq, Ne, Lt, Ge, Ltu, Geu}
use Rattle.instructions.specs.declared.instruction.LoadWidth.{LoadWidth}
use Rattle.instructions.specs.declared.instruction.LoadWidth.TheVariants as L
use Rattle.instructions.specs.declared.instruction.StoreWidth.{StoreWidth}
use Rattle.instructions.specs.declared.instruction.StoreWidth.TheVariants as S
use Rattle.instructions.specs.declared.instruction.Instruction.{Instruction}
use Rattle.instructions.specs.declared.instruction.Instruction.TheVariants.{Lui, Auipc, Jal, Jalr, Branch, Load, Store, OpImm, Op, Fence, Ecall}
use Rattle.instructions.specs.Fields.{word_of}
use Rattle.instructions.specs.Decode.{decode_of}

-- from low on, below high
abbrev pub between : ℤ → ℤ → ℤ → Bool
between low high z = int_le low z && int_lt z high

-- a number of 12 bits in two's complement
abbrev pub short : ℤ → Bool
short z = between (neg_ℤ (pos 2048)) (pos 2048) z

abbrev pub even : ℤ → Bool
even z = word_of z % 2 == 0

-- the immediates that an operation takes: there is none for SUB, and a shift is by less than 32
abbrev pub immediate_fits : Operation → ℤ → Bool
immediate_fits Add z = short z
immediate_fits Sub z = false
immediate_fits Sll z = between (pos 0) (pos 32) z
immediate_fits Slt z = short z
immediate_fits Sltu z = short z
immediate_fits Xor z = short z
immediate_fits Srl z = between (pos 0) (pos 32) z
immediate_fits Sra z = between (pos 0) (pos 32) z
immediate_fits Or z = short z
immediate_fits And z = short z

-- an instruction is well-formed: there are 32 registers, and each number fits its field
abbrev pub formed : Instruction → Bool
formed (Lui rd imm) = nat_lt rd 32 && imm % 4096 == 0
formed (Auipc rd imm) = nat_lt rd 32 && imm % 4096 == 0
formed (Jal rd z) = nat_lt rd 32 && (between (neg_ℤ (pos 1048576)) (pos 1048576) z && even z)
formed (Jalr rd rs1 z) = nat_lt rd 32 && (nat_lt rs1 32 && short z)
formed (Branch t rs1 rs2 z) = nat_lt rs1 32 && (nat_lt rs2 32 && (between (neg_ℤ (pos 4096)) (pos 4096) z && even z))
formed (Load width rd rs1 z) = nat_lt rd 32 && (nat_lt rs1 32 && short z)
formed (Store width rs1 rs2 z) = nat_lt rs1 32 && (nat_lt rs2 32 && short z)
formed (OpImm o rd rs1 z) = nat_lt rd 32 && (nat_lt rs1 32 && immediate_fits o z)
formed (Op o rd rs1 rs2) = nat_lt rd 32 && (nat_lt rs1 32 && nat_lt rs2 32)
formed (Fence fm pred succ rd rs1) = nat_lt fm 16 && (nat_lt pred 16 && (nat_lt succ 16 && (nat_lt rd 32 && nat_lt rs1 32)))
formed Ecall = true

-- funct3 and funct7
abbrev pub condition_code : Condition → ℕ
condition_code Eq = 0
condition_code Ne = 1
condition_code Lt = 4
condition_code Ge = 5
condition_code Ltu = 6
condition_code Geu = 7

abbrev pub load_code : LoadWidth → ℕ
load_code L.Byte = 0
load_code L.Half = 1
load_code L.Word = 2
load_code L.ByteUnsigned = 4
load_code L.HalfUnsigned = 5

abbrev pub store_code : StoreWidth → ℕ
store_code S.Byte = 0
store_code S.Half = 1
store_code S.Word = 2

abbrev pub operation_code : Operation → ℕ
operation_code Add = 0
operation_code Sub = 0
operation_code Sll = 1
operation_code Slt = 2
operation_code Sltu = 3
operation_code Xor = 4
operation_code Srl = 5
operation_code Sra = 5
operation_code Or = 6
operation_code And = 7

abbrev pub operation_high : Operation → ℕ
operation_high Add = 0
operation_high Sub = 0x20
operation_high Sll = 0
operation_high Slt = 0
operation_high Sltu = 0
operation_high Xor = 0
operation_high Srl = 0
operation_high Sra = 0x20
operation_high Or = 0
operation_high And = 0

abbrev pub shifts : Operation → Bool
shifts Add = false
shifts Sub = false
shifts Sll = true
shifts Slt = false
shifts Sltu = false
shifts Xor = false
shifts Srl = true
shifts Sra = true
shifts Or = false
shifts And = false

-- funct7, rs2, rs1, funct3, rd, opcode, from the high bits down
abbrev pub packed : ℕ → ℕ → ℕ → ℕ → ℕ → ℕ → ℕ
packed f7 rs2 rs1 f3 rd op = f7 * 33554432 + rs2 * 1048576 + rs1 * 32768 + f3 * 4096 + rd * 128 + op

-- a number modulo n, which divides 2 ^ 32
abbrev pub low : ℤ → ℕ → ℕ
low z n = word_of z % n

-- the formats: an immediate is spread over the fields as the decoding has it
abbrev pub packed_i : ℤ → ℕ → ℕ → ℕ → ℕ → ℕ
packed_i z rs1 f3 rd op = packed (low z 4096 / 32) (low z 32) rs1 f3 rd op

abbrev pub packed_s : ℤ → ℕ → ℕ → ℕ → ℕ → ℕ
packed_s z rs2 rs1 f3 op = packed (low z 4096 / 32) rs2 rs1 f3 (low z 32) op

abbrev pub packed_b : ℤ → ℕ → ℕ → ℕ → ℕ → ℕ
packed_b z rs2 rs1 f3 op = packed (low z 8192 / 4096 * 64 + low z 2048 / 32) rs2 rs1 f3 (low z 32 / 2 * 2 + low z 4096 / 2048) op

abbrev pub packed_u : ℕ → ℕ → ℕ → ℕ
packed_u imm rd op = imm / 4096 * 4096 + rd * 128 + op

abbrev pub packed_j : ℤ → ℕ → ℕ → ℕ
packed_j z rd op = low z 2097152 / 1048576 * 2147483648 + low z 2048 / 2 * 2097152 + low z 4096 / 2048 * 1048576 + low z 1048576 / 4096 * 4096 + rd * 128 + op

-- the word of a well-formed instruction
abbrev pub encoded : Instruction → ℕ
encoded (Lui rd imm) = packed_u imm rd 0x37
encoded (Auipc rd imm) = packed_u imm rd 0x17
encoded (Jal rd z) = packed_j z rd 0x6f
encoded (Jalr rd rs1 z) = packed_i z rs1 0 rd 0x67
encoded (Branch t rs1 rs2 z) = packed_b z rs2 rs1 (condition_code t) 0x63
encoded (Load width rd rs1 z) = packed_i z rs1 (load_code width) rd 0x03
encoded (Store width rs1 rs2 z) = packed_s z rs2 rs1 (store_code width) 0x23
encoded (OpImm o rd rs1 z) = if shifts o then packed (operation_high o) (low z 32) rs1 (operation_code o) rd 0x13 else packed_i z rs1 (operation_code o) rd 0x13
encoded (Op o rd rs1 rs2) = packed (operation_high o) rs2 rs1 (operation_code o) rd 0x33
encoded (Fence fm pred succ rd rs1) = packed_i (pos (fm * 256 + pred * 16 + succ)) rs1 0 rd 0x0f
encoded Ecall = 0x73

-- the word of an instruction; none if it is not well-formed
abbrev pub encode_of : Instruction → Option ℕ
encode_of i = if formed i then Some (encoded i) else None

-- Decoding and encoding are inverse to one another: an instruction has the word w if and only if w decodes to it
abbrev pub Inverse : Option ℕ → Instruction → Type 0
Inverse r i = ((w : ℕ) → r ≡ Some w → decode_of w ≡ Some i) × ((w : ℕ) → w < 2 ^ 32 → decode_of w ≡ Some i → r ≡ Some w)
