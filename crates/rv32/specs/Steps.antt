-- How an instruction is carried out in steps by one who does not hold the memory as a row of bytes: fetch the word, execute it, then load and finish, or store.
use Rattle.std.specs.Prelude.{◌≡◌, ℕ, ◌+◌, ◌%◌, ◌<◌, ◌≤◌, ◌⊎◌, List, length, Some, None, Option, ◌≢◌}
use Rattle.octets.specs.Words.{word_at}
use Rattle.turns.specs.declared.vocabulary.Call.{Call}
use Rattle.turns.specs.Core.Act.{quiet, store, asks, wrong}
use Rattle.instructions.specs.declared.instruction.LoadWidth.{LoadWidth}
use Rattle.instructions.specs.declared.instruction.StoreWidth.{StoreWidth}
use Rattle.rv32.specs.declared.cpu.Cpu.{Cpu}
use Rattle.rv32.specs.declared.cpu.Effect.{Effect}
use Rattle.rv32.specs.declared.cpu.Effect.TheVariants as E
use Rattle.rv32.specs.Execute.{performed, finished}
use Rattle.rv32.specs.Act.{load_size, loaded, store_size, stored, effected, core}

-- n bytes at address a do not meet a memory of size bytes
abbrev pub Misses : ℕ → ℕ → ℕ → Type 0
Misses size a n = (a % n ≢ 0) ⊎ (size < a + n)

pub record Steps : Type 0 where
  -- a pc whose word does not meet the memory is wrong
  pub no_fetch : (c : Cpu) (m : List ℕ) → Misses (length m) c.pc 4 → core.act c m ≡ wrong
  -- else, where execute answers e for the word at the pc and leaves the registers d, the effect of e is left to do
  pub fetch : (c d : Cpu) (m : List ℕ) (w : ℕ) (e : Option Effect) → c.pc % 4 ≡ 0 → c.pc + 4 ≤ length m → w ≡ word_at m c.pc
      → e ≡ (performed w c).0 → d ≡ (performed w c).1 → core.act c m ≡ effected m (e, d)
  -- nothing, a call, a wrong instruction
  pub nothing : (c : Cpu) (m : List ℕ) → effected m (Some E.Quiet, c) ≡ quiet c
  pub call : (c : Cpu) (m : List ℕ) (a : Call) → effected m (Some (E.Call a), c) ≡ asks a
  pub no_word : (c : Cpu) (m : List ℕ) → effected m (None, c) ≡ wrong
  -- a load that does not meet the memory is wrong; one that does ends with the word that is there
  pub no_load : (c : Cpu) (m : List ℕ) (width : LoadWidth) (rd a : ℕ) → Misses (length m) a (load_size width) → effected m (Some (E.Load width rd a), c) ≡ wrong
  pub load : (c : Cpu) (m : List ℕ) (width : LoadWidth) (rd a : ℕ) → a % load_size width ≡ 0 → a + load_size width ≤ length m
      → effected m (Some (E.Load width rd a), c) ≡ quiet (finished c rd (loaded width m a))
  -- a store that does not meet the memory is wrong; one that does puts its bytes there
  pub no_store : (c : Cpu) (m : List ℕ) (width : StoreWidth) (a v : ℕ) → Misses (length m) a (store_size width) → effected m (Some (E.Store width a v), c) ≡ wrong
  pub puts : (c : Cpu) (m : List ℕ) (width : StoreWidth) (a v : ℕ) → a % store_size width ≡ 0 → a + store_size width ≤ length m
      → effected m (Some (E.Store width a v), c) ≡ store a (stored width v) c
