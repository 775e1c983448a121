-- What holds of tables and their worlds, over the rows of which tables are made, whatever these hold. Assumes nothing: these are definitions and statements; that
-- they hold is what the contract of laws::tables_stand says.
use Rattle.std.specs.Prelude.{◌≡◌, ℕ, ◌<◌, true, List, length, Some, None, slice_index_or}
use Rattle.turns.specs.World.{process, opened, in_use, is_running, with_process, with_memory, with_pipe, with_file, with_keys, with_shown}
use Rattle.turns.specs.declared.vocabulary.Sizes.{Sizes}
use Rattle.turns.specs.declared.vocabulary.OpenThing.{OpenThing}
use Rattle.rv32.specs.Act.{core}
use Rattle.processes.specs.declared.Process.{Process}
use Rattle.processes.specs.declared.Tables.{Tables}
use Rattle.processes.specs.Tabled.{Tabled, Same, Worlds, blank, shut}

-- the rows of tables: the sizes, the places, the open things, whose turn it is, and how much of it is over
pub record Rows : Type 0 where
  pub sizes : Sizes
  pub processes : List Process
  pub opens : List OpenThing
  pub turn : ℕ
  pub used : ℕ

abbrev pub rows_of : Tables → Rows
rows_of t = record { sizes = t.sizes; processes = t.processes; opens = t.opens; turn = t.turn; used = t.used }

-- they are those of world w, as Tabled says it of tables
pub record RowsOf (t : Rows) (w : Worlds) : Type 0 where
  pub places : length w.processes ≡ t.sizes.processes
  pub each : (p : ℕ) → Same t.sizes (slice_index_or t.processes p blank) (process core w p)
  pub ends : length w.opens ≡ t.sizes.opens
  pub opens : (k : ℕ) → slice_index_or t.opens k shut ≡ opened w k
  pub turn : t.turn ≡ w.turn
  pub used : t.used ≡ w.used

-- of tables it is the same
abbrev pub SameOfTables : Type 0
SameOfTables = (t : Tables) (w : Worlds) → (Tabled t w → RowsOf (rows_of t) w) × (RowsOf (rows_of t) w → Tabled t w)

-- whatever the memory of a process holds
abbrev pub BlindToMemory : Type 0
BlindToMemory = (t : Rows) (w : Worlds) (p : ℕ) (m : List ℕ) → RowsOf t w → RowsOf t (with_process w p (with_memory (process core w p) m))

-- whatever pipes, files, keys and screens hold
abbrev pub BlindToOthers : Type 0
BlindToOthers =
    (t : Rows) (w : Worlds) (i : ℕ) (bs : List ℕ) → RowsOf t w →
    RowsOf t (with_pipe w i bs) × RowsOf t (with_file w i bs) × RowsOf t (with_keys w i bs) × RowsOf t (with_shown w i bs)

-- what a handle of a running process leads to is in use
abbrev pub HandlesLead : Type 0
HandlesLead =
    (t : Rows) (w : Worlds) (p h k : ℕ) → RowsOf t w → p < t.sizes.processes → is_running (slice_index_or t.processes p blank).state ≡ true →
    slice_index_or (slice_index_or t.processes p blank).handles h None ≡ Some k → in_use core w k ≡ true
