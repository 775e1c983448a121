-- What becomes of screens. Assumes nothing.
use Rattle.std.proofs.Common.{◌≡◌, ℕ, List, [], ◌++◌, get_or, set, sym, refl, ap, ◌∙◌}
use Rattle.octets.proofs.Tests.{get_or_set_by}
use Rattle.turns.specs.Core.{Core}
use Rattle.turns.specs.World.{World, event}
use Rattle.turns.specs.World.{with_process, with_processes, with_open, with_pipe, with_file, with_keys, with_shown, with_turn, into_memory, orphaned, leaves, shown_on}
use Rattle.turns.specs.declared.vocabulary.Sizes.{Sizes}
use Rattle.turns.specs.declared.vocabulary.Event.{Event}
use Rattle.turns.proofs.Step.{Ways, event_by, run_by}
use Rattle.std.proofs.lemmas.List.{append-nil, append_assoc}
use Rattle.turns.specs.Theorems.{StaysShown}

-- what the screens of a world become in an event: bytes come behind those of one screen
pub data Showed {Cpu : Type 0} (w : World Cpu) : List (List ℕ) → Type 0 where
  same : Showed w w.shown
  more : (t : ℕ) (bs : List ℕ) → Showed w (set w.shown t (shown_on w t ++ bs))

-- one row goes on as another
abbrev GoesOn : List ℕ → List ℕ → Type 0
GoesOn xs ys = (bs : List ℕ) × (ys ≡ xs ++ bs)

goes_further : (xs ys us : List ℕ) → GoesOn xs ys → GoesOn ys us → GoesOn xs us
goes_further xs ys us a b = (a.0 ++ b.0, b.1 ∙ ap (λ l. l ++ b.0) a.1 ∙ append_assoc xs a.0 b.0)

module _ {Cpu : Type 0} (core : Core Cpu) where
  ways : (z : Sizes) (w : World Cpu) (p : ℕ) → Ways core (λ v. Showed w v.shown) z w p
  unfolding with_process with_processes with_open with_pipe with_file with_keys with_shown into_memory leaves orphaned
  ways z w p =
      record {
        here = same;
        placed = λ v i q n h. h;
        opens = λ v k o n h. h;
        keyed = λ v t n e h. h;
        left = λ n. same;
        taken = λ h a j n e l. same;
        given = λ h a j n e r. same;
        emptied = λ v e l h. h;
        shown = λ h t a n e. more t _;
        written = λ h f k a n e q l. same;
        ended = λ h f n e. same;
      }

  showed : (z : Sizes) (w : World Cpu) (e : Event) → Showed w (event core z w e).shown
  unfolding with_turn with_keys
  showed z w e = event_by core (λ v. Showed w v.shown) z w same (λ _ _. ways z w w.turn) (λ v t u h. h) (λ t b _ _. same) e

  goes_step : (w : World Cpu) (ss : List (List ℕ)) (t : ℕ) → Showed w ss → GoesOn (shown_on w t) (get_or ss t [])
  goes_step w _ t same = ([], sym (append-nil _))
  goes_step w _ t (more u bs) = get_or_set_by (GoesOn (shown_on w t)) w.shown u t _ [] (λ e. rw e (bs, refl)) ([], sym (append-nil _))

pub stays_shown : (Cpu : Type 0) → StaysShown Cpu
stays_shown Cpu core z w t es =
    run_by core (λ v. GoesOn (shown_on w t) (shown_on v t)) z (λ v e h. goes_further _ _ _ h (goes_step core v _ t (showed core z v e))) w es ([], sym (append-nil _))
