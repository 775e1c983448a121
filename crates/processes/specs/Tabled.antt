-- What tables say of the world. Assumes nothing: these are definitions.
use Rattle.std.specs.Prelude.{◌≡◌, ℕ, ◌<◌, true, [], length, None, slice_index_or, if◌then◌else◌, ◌==◌}
use Rattle.turns.specs.World.{World, Done, process, opened, closed, is_running}
use Rattle.turns.specs.World as W
use Rattle.turns.specs.declared.vocabulary.Sizes.{Sizes}
use Rattle.turns.specs.declared.vocabulary.State.{State}
use Rattle.turns.specs.declared.vocabulary.State.TheVariants.{Free}
use Rattle.turns.specs.declared.vocabulary.End.TheVariants.{Nothing}
use Rattle.turns.specs.declared.vocabulary.OpenThing.{OpenThing}
use Rattle.turns.specs.declared.vocabulary.Outcome.{Outcome}
use Rattle.rv32.specs.declared.cpu.Cpu.{Cpu}
use Rattle.rv32.specs.Act.{core}
use Rattle.processes.specs.declared.Process.{Process}
use Rattle.processes.specs.declared.Tables.{Tables}

-- worlds of this core
abbrev pub Worlds : Type 0
Worlds = World Cpu

-- what is read past the last place, and past the last open thing
abbrev pub blank : Process
blank = record { state = Free; parent = 0; cpu = record { regs = []; pc = 0 }; handles = [] }

abbrev pub shut : OpenThing
shut = record { end = Nothing; at = 0 }

-- who is in place p
abbrev pub place : Tables → ℕ → Process
place t p = slice_index_or t.processes p blank

-- the open thing k
abbrev pub thing : Tables → ℕ → OpenThing
thing t k = slice_index_or t.opens k shut

-- process q of the tables is process v of the world, but for its memory, of which tables say nothing. Only a process that runs has registers
pub record Same (z : Sizes) (q : Process) (v : W.Process Cpu) : Type 0 where
  pub state : q.state ≡ v.state
  pub parent : q.parent ≡ v.parent
  pub cpu : is_running q.state ≡ true → q.cpu ≡ v.cpu
  pub handles : (h : ℕ) → slice_index_or q.handles h None ≡ slice_index_or v.handles h None
  pub count : is_running q.state ≡ true → length v.handles ≡ z.handles

-- the tables are those of world w: each place, each open thing, and the turn. Of files, pipes, keys and screens they say nothing
pub record Tabled (t : Tables) (w : Worlds) : Type 0 where
  pub places : length w.processes ≡ t.sizes.processes
  pub each : (p : ℕ) → Same t.sizes (place t p) (process core w p)
  pub ends : length w.opens ≡ t.sizes.opens
  pub opens : (k : ℕ) → thing t k ≡ opened w k
  pub turn : t.turn ≡ w.turn
  pub used : t.used ≡ w.used

-- somebody runs in place p. It is a fact in clauses and no type of its own, since it changes with the tables
abbrev pub RunsAt : Tables → ℕ → Type 0
RunsAt t p = (p < t.sizes.processes) × (is_running (place t p).state ≡ true)

-- a call has left these tables and this outcome
pub record Came (t : Tables) (o : Outcome) (d : Done Cpu) : Type 0 where
  pub outcome : o ≡ d.outcome
  pub tabled : Tabled t d.world

-- the sizes are as they were, and so is who is in which state
pub record Kept (t u : Tables) : Type 0 where
  pub sizes : u.sizes ≡ t.sizes
  pub states : (q : ℕ) → (place u q).state ≡ (place t q).state

-- and where the tables t are those of a world, the tables u are those of what f makes of it
pub record Follows (t u : Tables) (f : Worlds → Worlds) : Type 0 where
  pub kept : Kept t u
  pub tabled : (w : Worlds) → Tabled t w → Tabled u (f w)

-- the same, but that the state in place p is s now
pub record FollowsIn (t u : Tables) (p : ℕ) (s : State) (f : Worlds → Worlds) : Type 0 where
  pub sizes : u.sizes ≡ t.sizes
  pub states : (q : ℕ) → (place u q).state ≡ (if q == p then s else (place t q).state)
  pub tabled : (w : Worlds) → Tabled t w → Tabled u (f w)
