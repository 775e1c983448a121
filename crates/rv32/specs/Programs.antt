-- Two programs on the blackboard: what they show, and when.
use Rattle.std.specs.Prelude.{◌≡◌, ℕ, ◌-◌, List, [], ◌∷◌, ◌++◌, length, replicate, pos}
use Rattle.octets.specs.Words.{word_bytes}
use Rattle.turns.specs.declared.vocabulary.Sizes.{Sizes}
use Rattle.turns.specs.declared.vocabulary.State.TheVariants.{Left}
use Rattle.turns.specs.World.{World, process, begin, run, ticks}
use Rattle.rv32.specs.declared.cpu.Cpu.{Cpu}
use Rattle.instructions.specs.declared.instruction.Operation.TheVariants.{Add}
use Rattle.instructions.specs.declared.instruction.StoreWidth.TheVariants.{Word}
use Rattle.instructions.specs.declared.instruction.Instruction.{Instruction}
use Rattle.instructions.specs.declared.instruction.Instruction.TheVariants.{Lui, Store, OpImm, Ecall}
use Rattle.instructions.specs.Encode.{encoded}
use Rattle.rv32.specs.Act.{core}

-- a small machine
unfoldable pub sizes : Sizes
sizes = record { processes = 2; opens = 4; pipes = 1; handles = 5; memory = 4096; pipe = 4; file = 256; files = 1; screens = 1; turn = 8 }

-- the bytes of a program
unfoldable pub bytes_of : List Instruction → List ℕ
bytes_of [] = []
bytes_of (i ∷ is) = word_bytes (encoded i) ++ bytes_of is

-- li r, n
unfoldable pub li : ℕ → ℕ → Instruction
li r n = OpImm Add r 0 (pos n)

-- a program, and a text at address a behind it
unfoldable pub with_text : List Instruction → ℕ → List ℕ → List ℕ
with_text is a text = bytes_of is ++ (replicate (a - length (bytes_of is)) 0 ++ text)

-- "hi" and the end of the line
unfoldable pub hi : List ℕ
hi = 104 ∷ 105 ∷ 10 ∷ []

-- write 1 128 3, leave 0
unfoldable pub hello : List ℕ
hello = with_text (li 10 1 ∷ li 11 128 ∷ li 12 3 ∷ li 17 9 ∷ Ecall ∷ li 10 0 ∷ li 17 0 ∷ Ecall ∷ []) 128 hi

-- a store at 4,096, where the memory ends
unfoldable pub stray : List ℕ
stray = bytes_of (Lui 5 4096 ∷ Store Word 5 0 (pos 0) ∷ [])

-- the world after n ticks from a start with this program
unfoldable pub after : List ℕ → ℕ → World Cpu
after program n = run core sizes (begin core sizes (program ∷ [])) (ticks n)

-- the program's call writes in the fifth tick, and it leaves in the eighth
abbrev pub HelloShows : Type 0
HelloShows = ((after hello 4).shown ≡ [] ∷ []) × ((after hello 5).shown ≡ hi ∷ []) × ((process core (after hello 8) 0).state ≡ Left 0)

-- a store beyond the memory ends the process
abbrev pub StrayEnds : Type 0
StrayEnds = ((after stray 2).shown ≡ [] ∷ []) × ((process core (after stray 2) 0).state ≡ Left 255)
