-- What each instruction does to the registers, and what it leaves to be done. Assumes nothing: these are definitions.
use Rattle.std.specs.Prelude.{◌≡◌, ℕ, ◌+◌, ◌*◌, ◌/◌, ◌%◌, ◌^◌, ◌<◌, if◌then◌else◌, replicate, ℤ, Some, None, Option, IfSome, ◌==◌, slice_index, slice_set}
use Rattle.turns.specs.declared.vocabulary.Call.{Call}
use Rattle.turns.specs.declared.vocabulary.Call.TheVariants as C
use Rattle.instructions.specs.declared.instruction.Instruction.{Instruction}
use Rattle.instructions.specs.declared.instruction.Instruction.TheVariants.{Lui, Auipc, Jal, Jalr, Branch, Load, Store, OpImm, Op, Fence, Ecall}
use Rattle.rv32.specs.declared.cpu.Cpu.{Cpu}
use Rattle.rv32.specs.declared.cpu.Effect.{Effect}
use Rattle.rv32.specs.declared.cpu.Effect.TheVariants as E
use Rattle.instructions.specs.Fields.{word_of}
use Rattle.rv32.specs.Compute.{computed, holds_of}
use Rattle.instructions.specs.Decode.{decode_of}

-- what register n holds; register 0 is 0
abbrev pub reg_of : Cpu → ℕ → ℕ
reg_of c n = if n == 0 then 0 else slice_index c.regs n

-- register n is set; register 0 stays
abbrev pub with_reg : Cpu → ℕ → ℕ → Cpu
with_reg c n v = if n == 0 then c else record c { regs = slice_set c.regs n v }

abbrev pub with_pc : Cpu → ℕ → Cpu
with_pc c p = record c { pc = p }

-- the address of the next instruction
abbrev pub next_pc : Cpu → ℕ
next_pc c = (c.pc + 4) % 2 ^ 32

-- on to the next instruction
abbrev pub stepped : Cpu → Cpu
stepped c = with_pc c (next_pc c)

-- rd is set, and on to the next instruction
abbrev pub finished : Cpu → ℕ → ℕ → Cpu
finished c rd v = with_pc (with_reg c rd v) (next_pc c)

-- the word a + z
abbrev pub moved : ℕ → ℤ → ℕ
moved a z = (a + word_of z) % 2 ^ 32

-- a jump, with the address of the next instruction put into rd; wrong if the target is no multiple of 4
abbrev pub jumped : Cpu → ℕ → ℕ → Option Effect × Cpu
jumped c rd target = if target % 4 == 0 then (Some E.Quiet, with_pc (with_reg c rd (next_pc c)) target) else (None, c)

-- the call of a number and its arguments
abbrev pub call_of : ℕ → ℕ → ℕ → ℕ → Call
call_of n a b c =
    if n == 0 then C.Leave a
    else (if n == 1 then C.Fork
    else (if n == 2 then C.Wait
    else (if n == 3 then C.Exec a
    else (if n == 4 then C.Open a
    else (if n == 5 then C.Close a
    else (if n == 6 then C.Copy a b
    else (if n == 7 then C.Pipe a
    else (if n == 8 then C.Read a b c
    else (if n == 9 then C.Write a b c
    else (if n == 10 then C.Save
    else (if n == 11 then C.End a else C.Unknown)))))))))))

-- the call that the registers hold: its number in x17, its arguments in x10, x11, x12
abbrev pub call_in : Cpu → Call
call_in c = call_of (reg_of c 17) (reg_of c 10) (reg_of c 11) (reg_of c 12)

-- an instruction carried out: what is left to do, unless it is wrong, and the registers. After a call they are as before, until it is answered
abbrev pub executed : Instruction → Cpu → Option Effect × Cpu
executed (Lui rd imm) c = (Some E.Quiet, finished c rd imm)
executed (Auipc rd imm) c = (Some E.Quiet, finished c rd ((c.pc + imm) % 2 ^ 32))
executed (Jal rd z) c = jumped c rd (moved c.pc z)
executed (Jalr rd rs1 z) c = jumped c rd (moved (reg_of c rs1) z / 2 * 2)
executed (Branch t rs1 rs2 z) c = if holds_of t (reg_of c rs1) (reg_of c rs2) then jumped c 0 (moved c.pc z) else (Some E.Quiet, stepped c)
executed (Load width rd rs1 z) c = (Some (E.Load width rd (moved (reg_of c rs1) z)), c)
executed (Store width rs1 rs2 z) c = (Some (E.Store width (moved (reg_of c rs1) z) (reg_of c rs2)), stepped c)
executed (OpImm o rd rs1 z) c = (Some E.Quiet, finished c rd (computed o (reg_of c rs1) (word_of z)))
executed (Op o rd rs1 rs2) c = (Some E.Quiet, finished c rd (computed o (reg_of c rs1) (reg_of c rs2)))
executed (Fence fm pred succ rd rs1) c = (Some E.Quiet, stepped c)
executed Ecall c = (Some (E.Call (call_in c)), c)

-- what is no instruction is wrong
abbrev pub obeyed : Option Instruction → Cpu → Option Effect × Cpu
obeyed None c = (None, c)
obeyed (Some i) c = executed i c

-- a word carried out: the meaning of the instruction that it decodes to
abbrev pub performed : ℕ → Cpu → Option Effect × Cpu
performed w c = obeyed (decode_of w) c

-- the registers of a process that begins with n bytes of memory: its stack ends where the memory does
abbrev pub fresh : ℕ → Cpu
fresh n = record { regs = slice_set (replicate 32 0) 2 n; pc = 0 }

-- the answer of a call goes to x10
abbrev pub answered : Cpu → ℕ → Cpu
answered c v = finished c 10 v

-- the register that a load is for is one
abbrev pub SoundEffect : Effect → Type 0
SoundEffect E.Quiet = Unit {0}
SoundEffect (E.Load width rd a) = rd < 32
SoundEffect (E.Store width a v) = Unit {0}
SoundEffect (E.Call call) = Unit {0}

-- a process that calls waits with the registers that it had
abbrev pub Waits : Effect → Cpu → Cpu → Type 0
Waits E.Quiet c d = Unit {0}
Waits (E.Load width rd a) c d = Unit {0}
Waits (E.Store width a v) c d = Unit {0}
Waits (E.Call call) c d = d ≡ c

-- What an instruction does is what was meant, an effect and the registers. The register that a load is for is one, a process that calls waits with the registers
-- that it had, and a pc that was a multiple of 4 is one
pub record Does (meant : Option Effect × Cpu) (effect : Option Effect) (c d : Cpu) : Type 0 where
  pub value : effect ≡ meant.0
  pub after : d ≡ meant.1
  pub sound : IfSome effect SoundEffect
  pub waits : IfSome effect (λ e. Waits e c d)
  pub aligned : c.pc % 4 ≡ 0 → d.pc % 4 ≡ 0
