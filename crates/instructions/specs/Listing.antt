-- How instructions are written: the standard mnemonics, and the registers by the names of the calling convention. Assumes nothing: these are definitions.
use Rattle.std.specs.Prelude.{ℕ, ◌/◌, List, [], ◌∷◌, ◌++◌, ℤ, codes, decimal, slice_index_or}
use Rattle.std.specs.Fmt.{signed_decimal}
use Rattle.instructions.specs.declared.instruction.Operation.{Operation}
use Rattle.instructions.specs.declared.instruction.Operation.TheVariants.{Add, Sub, Sll, Slt, Sltu, Xor, Srl, Sra, Or, And}
use Rattle.instructions.specs.declared.instruction.Condition.{Condition}
use Rattle.instructions.specs.declared.instruction.Condition.TheVariants.{Eq, Ne, Lt, Ge, Ltu, Geu}
use Rattle.instructions.specs.declared.instruction.LoadWidth.{LoadWidth}
use Rattle.instructions.specs.declared.instruction.LoadWidth.TheVariants as L
use Rattle.instructions.specs.declared.instruction.StoreWidth.{StoreWidth}
use Rattle.instructions.specs.declared.instruction.StoreWidth.TheVariants as S
use Rattle.instructions.specs.declared.instruction.Instruction.{Instruction}
use Rattle.instructions.specs.declared.instruction.Instruction.TheVariants.{Lui, Auipc, Jal, Jalr, Branch, Load, Store, OpImm, Op, Fence, Ecall}

-- the names of the 32 registers, from register 0 on
abbrev pub register_names : List (List ℕ)
register_names = codes "zero" ∷ codes "ra" ∷ codes "sp" ∷ codes "gp" ∷ codes "tp" ∷ codes "t0" ∷ codes "t1" ∷ codes "t2"
    ∷ codes "s0" ∷ codes "s1" ∷ codes "a0" ∷ codes "a1" ∷ codes "a2" ∷ codes "a3" ∷ codes "a4" ∷ codes "a5"
    ∷ codes "a6" ∷ codes "a7" ∷ codes "s2" ∷ codes "s3" ∷ codes "s4" ∷ codes "s5" ∷ codes "s6" ∷ codes "s7"
    ∷ codes "s8" ∷ codes "s9" ∷ codes "s10" ∷ codes "s11" ∷ codes "t3" ∷ codes "t4" ∷ codes "t5" ∷ codes "t6" ∷ []

-- the name of a register; what is no register is a question mark
abbrev pub name_of : ℕ → List ℕ
name_of r = slice_index_or register_names r (codes "?")

-- the mnemonic of an operation on two registers
abbrev pub operation_name : Operation → List ℕ
operation_name Add = codes "add"
operation_name Sub = codes "sub"
operation_name Sll = codes "sll"
operation_name Slt = codes "slt"
operation_name Sltu = codes "sltu"
operation_name Xor = codes "xor"
operation_name Srl = codes "srl"
operation_name Sra = codes "sra"
operation_name Or = codes "or"
operation_name And = codes "and"

-- the mnemonic of an operation on a register and an immediate
abbrev pub immediate_name : Operation → List ℕ
immediate_name Add = codes "addi"
immediate_name Sub = codes "subi"
immediate_name Sll = codes "slli"
immediate_name Slt = codes "slti"
immediate_name Sltu = codes "sltiu"
immediate_name Xor = codes "xori"
immediate_name Srl = codes "srli"
immediate_name Sra = codes "srai"
immediate_name Or = codes "ori"
immediate_name And = codes "andi"

abbrev pub condition_name : Condition → List ℕ
condition_name Eq = codes "beq"
condition_name Ne = codes "bne"
condition_name Lt = codes "blt"
condition_name Ge = codes "bge"
condition_name Ltu = codes "bltu"
condition_name Geu = codes "bgeu"

abbrev pub load_name : LoadWidth → List ℕ
load_name L.Byte = codes "lb"
load_name L.Half = codes "lh"
load_name L.Word = codes "lw"
load_name L.ByteUnsigned = codes "lbu"
load_name L.HalfUnsigned = codes "lhu"

abbrev pub store_name : StoreWidth → List ℕ
store_name S.Byte = codes "sb"
store_name S.Half = codes "sh"
store_name S.Word = codes "sw"

-- what a fence orders, in four bits: input, output, reads, writes
abbrev pub order_names : List (List ℕ)
order_names = codes "0" ∷ codes "w" ∷ codes "r" ∷ codes "rw" ∷ codes "o" ∷ codes "ow" ∷ codes "or" ∷ codes "orw"
    ∷ codes "i" ∷ codes "iw" ∷ codes "ir" ∷ codes "irw" ∷ codes "io" ∷ codes "iow" ∷ codes "ior" ∷ codes "iorw" ∷ []

abbrev pub order_name : ℕ → List ℕ
order_name n = slice_index_or order_names n (codes "?")

-- two operands, three operands, and one in memory at an offset from a register
abbrev pub two : List ℕ → List ℕ → List ℕ
two a b = a ++ (codes ", " ++ b)

abbrev pub three : List ℕ → List ℕ → List ℕ → List ℕ
three a b c = a ++ (codes ", " ++ two b c)

abbrev pub at : List ℕ → ℤ → ℕ → List ℕ
at a z r = a ++ (codes ", " ++ (signed_decimal z ++ (codes "(" ++ (name_of r ++ codes ")"))))

-- an instruction as it is written; LUI and AUIPC with the 20 bits of their field, a fence without the fields that mean nothing
abbrev pub written : Instruction → List ℕ
written (Lui rd imm) = codes "lui" ++ (codes " " ++ two (name_of rd) (decimal (imm / 4096)))
written (Auipc rd imm) = codes "auipc" ++ (codes " " ++ two (name_of rd) (decimal (imm / 4096)))
written (Jal rd z) = codes "jal " ++ two (name_of rd) (signed_decimal z)
written (Jalr rd rs1 z) = codes "jalr" ++ (codes " " ++ at (name_of rd) z rs1)
written (Branch t rs1 rs2 z) = condition_name t ++ (codes " " ++ three (name_of rs1) (name_of rs2) (signed_decimal z))
written (Load width rd rs1 z) = load_name width ++ (codes " " ++ at (name_of rd) z rs1)
written (Store width rs1 rs2 z) = store_name width ++ (codes " " ++ at (name_of rs2) z rs1)
written (OpImm o rd rs1 z) = immediate_name o ++ (codes " " ++ three (name_of rd) (name_of rs1) (signed_decimal z))
written (Op o rd rs1 rs2) = operation_name o ++ (codes " " ++ three (name_of rd) (name_of rs1) (name_of rs2))
written (Fence fm pred succ rd rs1) = codes "fence " ++ two (order_name pred) (order_name succ)
written Ecall = codes "ecall"
