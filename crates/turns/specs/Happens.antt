-- What happens in an event: which call is made, whether it saves, what goes through a pipe. Assumes nothing: these are definitions.
use Rattle.std.specs.Prelude.{◌≡◌, ℕ, suc, min, Bool, true, false, ◌&&◌, ◌||◌, List, [], ◌∷◌, ◌++◌, length, Some, None, Option}
use Rattle.octets.specs.Rows.{pick}
use Rattle.turns.specs.Core.{Core, Act, quiet, store, asks, wrong}
use Rattle.turns.specs.World.{World, process, runs_in, instruction, event, readers, writers, pipe_of, end_of, in_memory, fitting}
use Rattle.turns.specs.declared.vocabulary.Sizes.{Sizes}
use Rattle.turns.specs.declared.vocabulary.End.TheVariants.{WriteEnd, ReadEnd}
use Rattle.turns.specs.declared.vocabulary.Call.{Call}
use Rattle.turns.specs.declared.vocabulary.Call.TheVariants as call
use Rattle.turns.specs.declared.vocabulary.Event.{Event}
use Rattle.turns.specs.declared.vocabulary.Event.TheVariants.{Tick, Key}

-- the call of an instruction, if it is one
unfoldable pub asked : {Cpu : Type 0} → Act Cpu → Option Call
asked (quiet c) = None
asked (store a bs c) = None
asked (asks c) = Some c
asked wrong = None

unfoldable pub is_save : Call → Bool
is_save (call.Leave n) = false
is_save call.Fork = false
is_save call.Wait = false
is_save (call.Exec f) = false
is_save (call.Open f) = false
is_save (call.Close h) = false
is_save (call.Copy h g) = false
is_save (call.Pipe a) = false
is_save (call.Read h a n) = false
is_save (call.Write h a n) = false
is_save call.Save = true
is_save (call.End h) = false
is_save call.Unknown = false

unfoldable pub is_some_save : Option Call → Bool
is_some_save None = false
is_some_save (Some c) = is_save c

module _ {Cpu : Type 0} (core : Core Cpu) where
  -- the call that is made in an event, if one is: by the process whose turn it is
  unfoldable pub made : World Cpu → Event → Option Call
  made w Tick = pick (runs_in core w 0 && runs_in core w w.turn) (asked (instruction core w)) None
  made w (Key t b) = None

  -- in this event the files are saved
  unfoldable pub saves : World Cpu → Event → Bool
  saves w e = is_some_save (made w e)

  -- How many events there had been when files were last saved, after these events behind n earlier ones; it was s before
  unfoldable pub sure_after : Sizes → World Cpu → ℕ → ℕ → List Event → ℕ
  sure_after z w n s [] = s
  sure_after z w n s (e ∷ es) = sure_after z (event core z w e) (suc n) (pick (saves w e) (suc n) s) es

  -- how many of these events there had been when files were last saved; 0 if they never were
  unfoldable pub sure : Sizes → World Cpu → List Event → ℕ
  sure z w es = sure_after z w 0 0 es

  -- From world w to world v process p read bs from pipe j: they were in front, as many as it asked for or as there were; they came to the address that it
  -- gave; and it goes on with their number as the answer
  pub record Took (w v : World Cpu) (p j : ℕ) (c : Option Call) (bs : List ℕ) : Type 0 where
    pub handle : ℕ
    pub address : ℕ
    pub wanted : ℕ
    pub called : c ≡ Some (call.Read handle address wanted)
    pub end : end_of core w p handle ≡ ReadEnd j
    pub front : pipe_of w j ≡ bs ++ pipe_of v j
    pub count : length bs ≡ min wanted (length (pipe_of w j))
    pub arrived : in_memory core v p address (length bs) ≡ bs
    pub answer : (process core v p).cpu ≡ core.answered (process core w p).cpu (length bs)

  -- From world w to world v process p wrote bs into pipe j: they are the front of what it gave, as many as fitted; they are behind what was there; and it goes
  -- on with their number as the answer
  pub record Gave (z : Sizes) (w v : World Cpu) (p j : ℕ) (c : Option Call) (bs : List ℕ) : Type 0 where
    pub handle : ℕ
    pub address : ℕ
    pub offered : ℕ
    pub called : c ≡ Some (call.Write handle address offered)
    pub end : end_of core w p handle ≡ WriteEnd j
    pub fitted : bs ≡ fitting z w j (in_memory core w p address offered)
    pub behind : pipe_of v j ≡ pipe_of w j ++ bs
    pub answer : (process core v p).cpu ≡ core.answered (process core w p).cpu (length bs)

  -- what goes out of pipe j and what comes into it from world w to world v, if the process whose turn it is makes this call
  pub data Flow (z : Sizes) (w v : World Cpu) (j : ℕ) (c : Option Call) : List ℕ → List ℕ → Type 0 where
    still : pipe_of v j ≡ pipe_of w j → Flow z w v j c [] []
    took : (bs : List ℕ) → Took w v w.turn j c bs → Flow z w v j c bs []
    gave : (bs : List ℕ) → Gave z w v w.turn j c bs → Flow z w v j c [] bs

  -- the same over a row of events: all that went out, all that came in
  pub data Flows (z : Sizes) (j : ℕ) : World Cpu → List Event → List ℕ → List ℕ → Type 0 where
    none : (w : World Cpu) → Flows z j w [] [] []
    more : (w : World Cpu) (e : Event) (es : List Event) (out into outs intos : List ℕ) → Flow z w (event core z w e) j (made w e) out into → Flows z j (event core z w e) es outs intos →
        Flows z j w (e ∷ es) (out ++ outs) (into ++ intos)

  -- somebody can write into the pipe or read from it
  unfoldable pub pipe_in_use : World Cpu → ℕ → Bool
  pipe_in_use w j = writers core w j || readers core w j

  -- it stays in use: before each of these events somebody can
  unfoldable pub StaysInUse : Sizes → World Cpu → ℕ → List Event → Type 0
  StaysInUse z w j [] = Unit {0}
  StaysInUse z w j (e ∷ es) = (pipe_in_use w j ≡ true) × StaysInUse z (event core z w e) j es
