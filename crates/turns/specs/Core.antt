-- What the world has to know of a core. Assumes nothing: these are definitions.
use Rattle.std.specs.Prelude.{ℕ, List}
use Rattle.turns.specs.declared.vocabulary.Call.{Call}

-- What the instruction at hand does, seen from outside the core: registers change; bytes go to an address and registers change; a call is made, whose answer
-- the process waits for; or it is no instruction, or one that may not be done
pub data Act (Cpu : Type 0) : Type 0 where
  quiet : Cpu → Act Cpu
  store : ℕ → List ℕ → Cpu → Act Cpu
  asks : Call → Act Cpu
  wrong : Act Cpu

-- A core, by what its registers hold: those of a process that begins with so many bytes of memory; what the instruction at hand does, which may look at
-- all of the process's memory; and how a process goes on with the answer of its call
pub record Core (Cpu : Type 0) : Type 0 where
  pub fresh : ℕ → Cpu
  pub act : Cpu → List ℕ → Act Cpu
  pub answered : Cpu → ℕ → Cpu
