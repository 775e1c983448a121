-- What holds of the world, whatever the core and whatever the programs. Each is a statement over the type of a core's registers; its proof is owed by the
-- function of src/ whose contract names it. Assumes nothing.
use Rattle.std.specs.Prelude.{◌≡◌, ℕ, zero, suc, ◌*◌, ◌%◌, ◌<◌, ◌≤◌, true, false, ◌≢◌, ◌⊎◌, List, [], ◌∷◌, ◌++◌, length, take, Some}
use Rattle.octets.specs.Rows.{Bytes}
use Rattle.turns.specs.Core.{Core, asks, store}
use Rattle.turns.specs.World.{World, Process, run, begin, event, process, runs_in, opened, pipe_of, file_of, keys_of, shown_on, handle_of, end_of, ticks, instruction, does}
use Rattle.turns.specs.Ranges.{Fits}
use Rattle.turns.specs.Happens.{made, sure, Flow, Flows, pipe_in_use, StaysInUse}
use Rattle.turns.specs.declared.vocabulary.Sizes.{Sizes}
use Rattle.turns.specs.declared.vocabulary.End.{End}
use Rattle.turns.specs.declared.vocabulary.End.TheVariants.{Nothing, Screen, File, WriteEnd, ReadEnd}
use Rattle.turns.specs.declared.vocabulary.Outcome.TheVariants.{Stays}
use Rattle.turns.specs.declared.vocabulary.Event.{Event}
use Rattle.turns.specs.declared.vocabulary.Event.TheVariants.{Tick, Key}

-- a world that comes about: from files that fit, by a row of events
unfoldable pub Comes : {Cpu : Type 0} → Core Cpu → Sizes → World Cpu → Type 0
Comes core z w = (fs : List (List ℕ)) × (es : List Event) × Fits z fs × (run core z (begin core z fs) es ≡ w)

-- ROWS OF EVENTS

-- what is on a screen stays, and more comes behind it
abbrev pub StaysShown : Type 0 → Type 0
StaysShown Cpu = (core : Core Cpu) (z : Sizes) (w : World Cpu) (t : ℕ) (es : List Event) → (bs : List ℕ) × (shown_on (run core z w es) t ≡ shown_on w t ++ bs)

-- what is sure lies never in the future
abbrev pub SureIsPast : Type 0 → Type 0
SureIsPast Cpu = (core : Core Cpu) (z : Sizes) (w : World Cpu) (es : List Event) → sure core z w es ≤ length es

-- a row of events in one part or in two is the same
abbrev pub InParts : Type 0 → Type 0
InParts Cpu = (core : Core Cpu) (z : Sizes) (w : World Cpu) (es fs : List Event) → run core z w (es ++ fs) ≡ run core z (run core z w es) fs

-- n times the same
unfoldable pub repeated : {A : Type 0} → ℕ → (A → A) → A → A
repeated zero f a = a
repeated (suc n) f a = repeated n f (f a)

-- n ticks are n times one tick
abbrev pub TickByTick : Type 0 → Type 0
TickByTick Cpu = (core : Core Cpu) (z : Sizes) (w : World Cpu) (n : ℕ) → run core z w (ticks n) ≡ repeated n (λ v. event core z v Tick) w

-- once process 0 does not run, ticks do nothing
abbrev pub EndsWithFirst : Type 0 → Type 0
EndsWithFirst Cpu = (core : Core Cpu) (z : Sizes) (w : World Cpu) (n : ℕ) → runs_in core w 0 ≡ false → run core z w (ticks n) ≡ w

-- a tick can change nothing but whose turn it is: nobody is in the place, or its process makes a call that stays
abbrev pub OnlyWaits : {Cpu : Type 0} → Core Cpu → Sizes → World Cpu → Type 0
OnlyWaits core z w = (runs_in core w w.turn ≡ false) ⊎ ((c : _) × (instruction core w ≡ asks c) × ((does core z w w.turn c).outcome ≡ Stays))

-- a round of places in which every place only waits changes nothing; so n ticks from there are n modulo the number of places
abbrev pub IdleRounds : Type 0 → Type 0
IdleRounds Cpu =
    (core : Core Cpu) (z : Sizes) (w : World Cpu) → w.used ≡ 0 → w.turn < z.processes → ((k : ℕ) → k < z.processes → OnlyWaits core z (run core z w (ticks k))) →
    (run core z w (ticks z.processes) ≡ w) × ((n : ℕ) → run core z w (ticks n) ≡ run core z w (ticks (n % z.processes)))

-- WHO CHANGES WHAT

-- what others may not touch of a process: all but who its parent is
pub record Untouched {Cpu : Type 0} (before after : Process Cpu) : Type 0 where
  pub state : after.state ≡ before.state
  pub cpu : after.cpu ≡ before.cpu
  pub memory : after.memory ≡ before.memory
  pub handles : after.handles ≡ before.handles

-- nobody's memory, registers, handles or state change by somebody else's instruction, or by a key, as long as it runs
abbrev pub Apart : Type 0 → Type 0
Apart Cpu =
    (core : Core Cpu) (z : Sizes) (w : World Cpu) (q : ℕ) (e : Event) → (e ≡ Tick → q ≢ w.turn) → runs_in core w q ≡ true →
    Untouched (process core w q) (process core (event core z w e) q)

-- a file changes only in a tick of a running process that has a handle on it
abbrev pub ByHandle : Type 0 → Type 0
ByHandle Cpu =
    (core : Core Cpu) (z : Sizes) (w : World Cpu) (f : ℕ) (e : Event) →
    (file_of (event core z w e) f ≡ file_of w f) ⊎ ((h : ℕ) × (e ≡ Tick) × (runs_in core w 0 ≡ true) × (runs_in core w w.turn ≡ true) × (end_of core w w.turn h ≡ File f))

-- an event leaves a pipe in use as it was, takes a front out of it for a reader, or puts a writer's bytes behind it
abbrev pub InOrder : Type 0 → Type 0
InOrder Cpu =
    (core : Core Cpu) (z : Sizes) (w : World Cpu) (j : ℕ) (e : Event) → j < length w.pipes → pipe_in_use core w j ≡ true →
    (out : List ℕ) × (into : List ℕ) × Flow core z w (event core z w e) j (made core w e) out into

-- over a row of events: what was there at first, followed by all that came in, is all that went out, followed by what is there
abbrev pub FirstInFirstOut : Type 0 → Type 0
FirstInFirstOut Cpu =
    (core : Core Cpu) (z : Sizes) (w : World Cpu) (j : ℕ) (es : List Event) → j < length w.pipes → StaysInUse core z w j es →
    (outs : List ℕ) × (intos : List ℕ) × Flows core z j w es outs intos × (pipe_of w j ++ intos ≡ outs ++ pipe_of (run core z w es) j)

-- TURNS

unfoldable pub count_ticks : List Event → ℕ
count_ticks [] = 0
count_ticks (Tick ∷ es) = suc (count_ticks es)
count_ticks (Key t b ∷ es) = count_ticks es

-- While process 0 runs each place has its turn again, after at least one tick and within processes × turn of them, in every row with so many ticks, keys
-- between them or not
abbrev pub TurnComes : Type 0 → Type 0
TurnComes Cpu =
    (core : Core Cpu) (z : Sizes) (w : World Cpu) (p : ℕ) (es : List Event) → Comes core z w → p < z.processes → z.processes * z.turn ≤ count_ticks es →
    runs_in core (run core z w es) 0 ≡ true →
    (n : ℕ) × (1 ≤ count_ticks (take n es)) × (count_ticks (take n es) ≤ z.processes * z.turn) × ((run core z w (take n es)).turn ≡ p)

-- WORLDS THAT COME ABOUT

-- an end that there is
unfoldable pub Real : Sizes → End → Type 0
Real z Nothing = ⊥
Real z (Screen t) = t < z.screens
Real z (File f) = f < z.files
Real z (WriteEnd j) = j < z.pipes
Real z (ReadEnd j) = j < z.pipes

-- all tables have the lengths of the sizes, every handle in use leads to an open thing that is something, and everything keeps within its size
pub record Shaped {Cpu : Type 0} (core : Core Cpu) (z : Sizes) (w : World Cpu) : Type 0 where
  pub processes : length w.processes ≡ z.processes
  pub opens : length w.opens ≡ z.opens
  pub pipes : length w.pipes ≡ z.pipes
  pub files : length w.files ≡ z.files
  pub keys : length w.keys ≡ z.screens
  pub shown : length w.shown ≡ z.screens
  pub turn : w.turn < z.processes
  pub used : w.used < z.turn
  pub memory : (p : ℕ) → runs_in core w p ≡ true → length (process core w p).memory ≡ z.memory
  pub handles : (p : ℕ) → runs_in core w p ≡ true → length (process core w p).handles ≡ z.handles
  pub leads : (p h k : ℕ) → runs_in core w p ≡ true → handle_of core w p h ≡ Some k → (k < z.opens) × Real z (opened w k).end
  pub places : (k : ℕ) → (opened w k).at ≤ z.file
  pub file : (f : ℕ) → length (file_of w f) ≤ z.file
  pub pipe : (j : ℕ) → length (pipe_of w j) ≤ z.pipe
  pub key : (t : ℕ) → length (keys_of w t) ≤ z.pipe

abbrev pub KeepsShape : Type 0 → Type 0
KeepsShape Cpu = (core : Core Cpu) (z : Sizes) (w : World Cpu) → Comes core z w → Shaped core z w

-- every number in it is a byte
pub record AllBytes {Cpu : Type 0} (core : Core Cpu) (w : World Cpu) : Type 0 where
  pub memory : (p : ℕ) → Bytes (process core w p).memory
  pub files : (f : ℕ) → Bytes (file_of w f)
  pub pipes : (j : ℕ) → Bytes (pipe_of w j)
  pub keys : (t : ℕ) → Bytes (keys_of w t)
  pub shown : (t : ℕ) → Bytes (shown_on w t)

-- a core that stores bytes
abbrev pub StoresBytes : {Cpu : Type 0} → Core Cpu → Type 0
StoresBytes {Cpu} core = (c : Cpu) (m : List ℕ) (a : ℕ) (bs : List ℕ) (d : Cpu) → core.act c m ≡ store a bs d → Bytes bs

abbrev pub KeepsBytes : Type 0 → Type 0
KeepsBytes Cpu = (core : Core Cpu) (z : Sizes) (w : World Cpu) → StoresBytes core → Comes core z w → AllBytes core w
