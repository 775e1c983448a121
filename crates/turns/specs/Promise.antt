-- What the machine promises: in every row of lives that power cuts end, each screen shows what the world shows. Assumes nothing: these are definitions and
-- statements.
use Rattle.std.specs.Prelude.{◌≡◌, ℕ, zero, suc, ◌-◌, ◌≤◌, false, ◌⊎◌, List, [], ◌∷◌, length, take, slice_set}
use Rattle.octets.specs.Rows.{Bytes}
use Rattle.turns.specs.Core.{Core}
use Rattle.turns.specs.World.{World, process, run, begin, event}
use Rattle.turns.specs.Ranges.{Fits}
use Rattle.turns.specs.Happens.{sure, saves}
use Rattle.turns.specs.Theorems.{count_ticks}
use Rattle.turns.specs.declared.vocabulary.Sizes.{Sizes}
use Rattle.turns.specs.declared.vocabulary.State.{State}
use Rattle.turns.specs.declared.vocabulary.Event.{Event}

-- BLOCKS AND CUTS

-- Writes to a disc, which is a row of blocks, go out one after the other
unfoldable pub written : List (List ℕ) → List (ℕ × List ℕ) → List (List ℕ)
written d [] = d
written d (w ∷ ws) = written (slice_set d w.0 w.1) ws

-- After a power cut the first m of them are done, the block of the next holds anything, and the others are not done
unfoldable pub torn : List (List ℕ) → List (ℕ × List ℕ) → ℕ → List ℕ → List (List ℕ)
torn d [] m anything = d
torn d (w ∷ ws) zero anything = slice_set d w.0 anything
torn d (w ∷ ws) (suc m) anything = torn (slice_set d w.0 w.1) ws m anything

-- a power cut, as the world outside chooses it: how many writes are done, and the 512 bytes that the block of the next holds
pub record Cut : Type 0 where
  pub done : ℕ
  pub block : List ℕ
  pub whole : length block ≡ 512
  pub bytes : Bytes block

-- LIVES

-- A life, from a start to a power cut or the end: its events, what each screen shows at its end, how many ticks there were, and the state of process 0
pub record Life : Type 0 where
  pub events : List Event
  pub shown : List (List ℕ)
  pub ticks : ℕ
  pub first : State

-- all events but the last
abbrev pub but_last : List Event → List Event
but_last es = take (length es - 1) es

module _ {Cpu : Type 0} (core : Core Cpu) where
  -- the world after these events of a life that began with these files
  unfoldable pub after : Sizes → List (List ℕ) → List Event → World Cpu
  after z fs es = run core z (begin core z fs) es

  -- a life as the world has it
  unfoldable pub life_of : Sizes → List (List ℕ) → List Event → Life
  life_of z fs es = record { events = es; shown = (after z fs es).shown; ticks = count_ticks es; first = (process core (after z fs es) 0).state }

  -- The files gs are those of one moment of a life: not before what was sure after its events us, and not after its events es
  pub record Moment (z : Sizes) (fs : List (List ℕ)) (us es : List Event) (gs : List (List ℕ)) : Type 0 where
    pub j : ℕ
    pub kept : sure core z (begin core z fs) us ≤ j
    pub past : j ≤ length es
    pub files : gs ≡ (after z fs (take j es)).files

  -- One life after another, from files to files. A life that a power cut ends leaves the files of one of its moments, not before its last save; a save that is
  -- its very last event may not count, since the cut may have met it. A life that just ends leaves those of a moment not before its last save, whichever it was
  pub data Lives (z : Sizes) : List (List ℕ) → List Life → List (List ℕ) → Type 0 where
    none : (fs : List (List ℕ)) → Lives z fs [] fs
    ends : (fs gs : List (List ℕ)) (es : List Event) → Moment z fs es es gs → Lives z fs (life_of z fs es ∷ []) gs
    cut : (fs gs hs : List (List ℕ)) (es : List Event) (rest : List Life) → Moment z fs (but_last es) es gs → Lives z gs rest hs → Lives z fs (life_of z fs es ∷ rest) hs

-- A SYSTEM BY WHAT ITS FUNCTIONS' CONTRACTS SAY

-- S is the type of its states
pub record System (Cpu S : Type 0) : Type 1 where
  pub core : Core Cpu
  -- a disc of these sizes is taken, and holds these files
  pub holds : Sizes → List (List ℕ) → List (List ℕ) → Type 0
  -- from this disc it comes up as this
  pub starts : Sizes → List (List ℕ) → S → Type 0
  -- an event takes it from this state to that
  pub happens : Sizes → S → Event → S → Type 0
  -- what its screens show, and the state of its process 0
  pub shows : S → List (List ℕ)
  pub first : S → State
  -- its disc, and what its last event wrote, or its start
  pub disc : S → List (List ℕ)
  pub writes : S → List (ℕ × List ℕ)
  -- it is like this world
  pub like : Sizes → S → World Cpu → Type 0

module _ {Cpu S : Type 0} (y : System Cpu S) where
  -- a life of the system
  unfoldable pub life_in : List Event → S → Life
  life_in es s = record { events = es; shown = y.shows s; ticks = count_ticks es; first = y.first s }

  -- from s by events to u; b is the disc before the last of them, or before the start if there are none
  pub data Goes (z : Sizes) : List (List ℕ) → S → List Event → List (List ℕ) → S → Type 0 where
    nothing : (d : List (List ℕ)) (s : S) → Goes z d s [] d s
    onward : (d b : List (List ℕ)) (s t u : S) (e : Event) (es : List Event) → y.happens z s e t → Goes z (y.disc s) t es b u → Goes z d s (e ∷ es) b u

  -- what a cut leaves in the last event of a life, or in its start: the disc before it, with its writes torn
  unfoldable pub cut_short : List (List ℕ) → S → Cut → List (List ℕ)
  cut_short b u c = torn b (y.writes u) c.done c.block

  -- one life of the system after another, from disc to disc
  pub data Row (z : Sizes) : List (List ℕ) → List Life → List (List ℕ) → Type 0 where
    none : (d : List (List ℕ)) → Row z d [] d
    ends : (d b : List (List ℕ)) (s u : S) (es : List Event) → y.starts z d s → Goes z d s es b u → Row z d (life_in es u ∷ []) (y.disc u)
    cut : (d b e : List (List ℕ)) (s u : S) (es : List Event) (rest : List Life) → y.starts z d s → Goes z d s es b u → (c : Cut) → Row z (cut_short b u c) rest e →
        Row z d (life_in es u ∷ rest) e

  -- WHAT A START AND ONE EVENT OWE
  pub record Owed : Type 0 where
    -- it comes up like the world at its start, and the disc holds the files that it held, also if a cut meets it
    pub start_like : (z : Sizes) (d fs : List (List ℕ)) (s : S) → y.holds z d fs → y.starts z d s → y.like z s (begin y.core z fs)
    pub start_disc : (z : Sizes) (d fs : List (List ℕ)) (s : S) → y.holds z d fs → y.starts z d s → y.holds z (y.disc s) fs
    pub start_cut : (z : Sizes) (d fs : List (List ℕ)) (s : S) (c : Cut) → y.holds z d fs → y.starts z d s → y.holds z (cut_short d s c) fs
    -- an event does what it does in the world
    pub event_like : (z : Sizes) (s t : S) (w : World Cpu) (e : Event) → y.like z s w → y.happens z s e t → y.like z t (event y.core z w e)
    -- the disc then holds the files that it held, if it was no save, or those of the world
    pub event_disc : (z : Sizes) (s t : S) (w : World Cpu) (fs : List (List ℕ)) (e : Event) → y.like z s w → y.holds z (y.disc s) fs → y.happens z s e t →
        (y.holds z (y.disc t) fs × (saves y.core w e ≡ false)) ⊎ y.holds z (y.disc t) (event y.core z w e).files
    -- and if a cut meets it, one or the other
    pub event_cut : (z : Sizes) (s t : S) (w : World Cpu) (fs : List (List ℕ)) (e : Event) (c : Cut) → y.like z s w → y.holds z (y.disc s) fs → y.happens z s e t →
        y.holds z (cut_short (y.disc s) t c) fs ⊎ y.holds z (cut_short (y.disc s) t c) (event y.core z w e).files
    -- what can be seen is what the world has
    pub same_shown : (z : Sizes) (s : S) (w : World Cpu) → y.like z s w → y.shows s ≡ w.shown
    pub same_first : (z : Sizes) (s : S) (w : World Cpu) → y.like z s w → y.first s ≡ (process y.core w 0).state

  -- THE MAIN PROMISE: every row of the system's lives from a disc that is taken is a row of the world's lives from its files, and the disc that is left is taken
  abbrev pub KeepsPromise : Type 0
  KeepsPromise = (z : Sizes) (d e fs : List (List ℕ)) (ls : List Life) → y.holds z d fs → Row z d ls e → (gs : List (List ℕ)) × y.holds z e gs × Lives y.core z fs ls gs

-- A SYSTEM BY FUNCTIONS

pub record Functions (Cpu S : Type 0) : Type 1 where
  pub core : Core Cpu
  pub holds : Sizes → List (List ℕ) → List (List ℕ) → Type 0
  pub start : Sizes → List (List ℕ) → S
  pub happens : Sizes → S → Event → S
  pub shows : S → List (List ℕ)
  pub first : S → State
  pub disc : S → List (List ℕ)
  pub writes : S → List (ℕ × List ℕ)
  pub like : Sizes → S → World Cpu → Type 0

-- it is a system by what its functions leave
abbrev pub system_of : {Cpu S : Type 0} → Functions Cpu S → System Cpu S
system_of f =
    record {
      core = f.core;
      holds = f.holds;
      starts = λ z d s. s ≡ f.start z d;
      happens = λ z s e t. t ≡ f.happens z s e;
      shows = f.shows;
      first = f.first;
      disc = f.disc;
      writes = f.writes;
      like = f.like;
    }

module _ {Cpu S : Type 0} (f : Functions Cpu S) where
  -- the system after a row of events, with the disc before the last of them
  unfoldable pub goes : Sizes → List (List ℕ) → S → List Event → List (List ℕ) × S
  goes z d s [] = (d, s)
  goes z d s (e ∷ es) = goes z (f.disc s) (f.happens z s e) es

  -- what a cut leaves of a life
  unfoldable pub left_by : Sizes → List (List ℕ) → List Event → Cut → List (List ℕ)
  left_by z d es c = cut_short (system_of f) (goes z d (f.start z d) es).0 (goes z d (f.start z d) es).1 c

  -- the lives of the system, one after another, each ended by a cut
  unfoldable pub lives_in : Sizes → List (List ℕ) → List (List Event × Cut) → List Life
  lives_in z d [] = []
  lives_in z d (l ∷ ls) = life_in (system_of f) l.0 (goes z d (f.start z d) l.0).1 ∷ lives_in z (left_by z d l.0 l.1) ls

  -- in every row of lives it shows what the world shows
  abbrev pub SameShown : Type 0
  SameShown = (z : Sizes) (d fs : List (List ℕ)) (ls : List (List Event × Cut)) → f.holds z d fs → (gs : List (List ℕ)) × Lives f.core z fs (lives_in z d ls) gs

  -- what a cut leaves is a disc that is taken
  abbrev pub ComesUp : Type 0
  ComesUp = (z : Sizes) (d fs : List (List ℕ)) (es : List Event) (c : Cut) → f.holds z d fs → (gs : List (List ℕ)) × f.holds z (left_by z d es c) gs

  -- the disc changes by writes only
  abbrev pub ByWrites : Type 0
  ByWrites =
      ((z : Sizes) (d : List (List ℕ)) → f.disc (f.start z d) ≡ written d (f.writes (f.start z d)))
      × ((z : Sizes) (s : S) (e : Event) → f.disc (f.happens z s e) ≡ written (f.disc s) (f.writes (f.happens z s e)))

  -- and for every list of files that fits there is a disc
  abbrev pub HoldsAll : Type 0
  HoldsAll = (z : Sizes) (fs : List (List ℕ)) → Fits z fs → (d : List (List ℕ)) × f.holds z d fs
