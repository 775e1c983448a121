-- What the instruction at hand does in a memory that is a row of bytes: the core of the world. Assumes nothing: these are definitions.
use Rattle.std.specs.Prelude.{◌≡◌, ℕ, ◌+◌, ◌%◌, ◌≤◌, Bool, if◌then◌else◌, ◌&&◌, List, [], ◌∷◌, length, Some, None, Option, ◌==◌, nat_le, slice_index}
use Rattle.octets.specs.Words.{half_at, word_at, half_bytes, word_bytes}
use Rattle.turns.specs.Core.{Act, Core}
use Rattle.turns.specs.Core.Act.{quiet, store, asks, wrong}
use Rattle.instructions.specs.declared.instruction.LoadWidth.{LoadWidth}
use Rattle.instructions.specs.declared.instruction.LoadWidth.TheVariants as L
use Rattle.instructions.specs.declared.instruction.StoreWidth.{StoreWidth}
use Rattle.instructions.specs.declared.instruction.StoreWidth.TheVariants as S
use Rattle.rv32.specs.declared.cpu.Cpu.{Cpu}
use Rattle.rv32.specs.declared.cpu.Effect.{Effect}
use Rattle.rv32.specs.declared.cpu.Effect.TheVariants as E
use Rattle.rv32.specs.declared.cpu.Action.{Action}
use Rattle.rv32.specs.declared.cpu.Action.TheVariants as A
use Rattle.instructions.specs.Fields.{signed_of, word_of}
use Rattle.rv32.specs.Execute.{performed, finished, fresh, answered}

-- how many bytes are loaded
abbrev pub load_size : LoadWidth → ℕ
load_size L.Byte = 1
load_size L.Half = 2
load_size L.Word = 4
load_size L.ByteUnsigned = 1
load_size L.HalfUnsigned = 2

-- the word that is loaded from address a
abbrev pub loaded : LoadWidth → List ℕ → ℕ → ℕ
loaded L.Byte m a = word_of (signed_of 128 (slice_index m a))
loaded L.Half m a = word_of (signed_of 32768 (half_at m a))
loaded L.Word m a = word_at m a
loaded L.ByteUnsigned m a = slice_index m a
loaded L.HalfUnsigned m a = half_at m a

-- how many bytes are stored
abbrev pub store_size : StoreWidth → ℕ
store_size S.Byte = 1
store_size S.Half = 2
store_size S.Word = 4

-- the bytes that are stored
abbrev pub stored : StoreWidth → ℕ → List ℕ
stored S.Byte v = v % 256 ∷ []
stored S.Half v = half_bytes v
stored S.Word v = word_bytes v

-- n bytes at address a meet a memory of size bytes: the address is a multiple of n, and none of them lies beyond the memory's end
abbrev pub meets : ℕ → ℕ → ℕ → Bool
meets size a n = a % n == 0 && nat_le (a + n) size

-- what is left to do when the registers are done with, done in a memory
unfoldable pub completed : List ℕ → Effect → Cpu → Act Cpu
completed m E.Quiet c = quiet c
completed m (E.Load width rd a) c = if meets (length m) a (load_size width) then quiet (finished c rd (loaded width m a)) else wrong
completed m (E.Store width a v) c = if meets (length m) a (store_size width) then store a (stored width v) c else wrong
completed m (E.Call call) c = asks call

-- the same of an instruction that may be wrong
unfoldable pub effected : List ℕ → Option Effect × Cpu → Act Cpu
effected m e = elim e.0 [ None ↦ wrong | Some effect ↦ completed m effect e.1 ]

-- the word at the pc is fetched and carried out; a pc that does not meet the memory is wrong
unfoldable pub act_of : Cpu → List ℕ → Act Cpu
act_of c m = if meets (length m) c.pc 4 then effected m (performed (word_at m c.pc) c) else wrong

-- the core of the world
abbrev pub core : Core Cpu
core = record { fresh = fresh; act = act_of; answered = answered }

-- what the code hands back, and the registers that it leaves, as what the instruction does
abbrev pub shown : Option Action → Cpu → Act Cpu
shown None c = wrong
shown (Some A.Quiet) c = quiet c
shown (Some (A.Store width a v)) c = store a (stored width v) c
shown (Some (A.Call call)) c = asks call

-- a process that calls waits with the registers that it had
abbrev pub Rests : Action → Cpu → Cpu → Type 0
Rests A.Quiet c d = Unit {0}
Rests (A.Store width a v) c d = Unit {0}
Rests (A.Call call) c d = d ≡ c

-- a store meets a memory of size bytes
abbrev pub Meets : Action → ℕ → Type 0
Meets A.Quiet size = Unit {0}
Meets (A.Store width a v) size = (a % store_size width ≡ 0) × (a + store_size width ≤ size)
Meets (A.Call call) size = Unit {0}
