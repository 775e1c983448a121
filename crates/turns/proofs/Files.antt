-- What becomes of files. Assumes nothing.
use Rattle.std.proofs.Common.{◌≡◌, ℕ, true, ◌⊎◌, List, [], get_or, set, sym, refl, ap, ◌∙◌, inl, inr}
use Rattle.octets.proofs.Tests.{get_or_set_by}
use Rattle.turns.specs.Core.{Core}
use Rattle.turns.specs.World.{World, runs_in, event}
use Rattle.turns.specs.World.{with_process, with_processes, with_open, with_pipe, with_file, with_keys, with_shown, with_turn, into_memory, orphaned, leaves, file_of, end_of}
use Rattle.turns.specs.declared.vocabulary.Sizes.{Sizes}
use Rattle.turns.specs.declared.vocabulary.Event.{Event}
use Rattle.turns.specs.declared.vocabulary.Event.TheVariants.{Tick, Key}
use Rattle.turns.proofs.Step.{Ways, key_by, event_by}
use Rattle.turns.specs.Theorems.{ByHandle}
use Rattle.turns.specs.declared.vocabulary.End.TheVariants.{File}

module _ {Cpu : Type 0} (core : Core Cpu) where
  -- the file is as it was, or it was changed through a handle of the process whose turn it is
  abbrev pub Kept : World Cpu → ℕ → Event → List ℕ → Type 0
  Kept w f e x = (x ≡ file_of w f) ⊎ ((h : ℕ) × (e ≡ Tick) × (runs_in core w 0 ≡ true) × (runs_in core w w.turn ≡ true) × (end_of core w w.turn h ≡ File f))

  module _ (z : Sizes) (w : World Cpu) (f : ℕ) (r : runs_in core w 0 ≡ true) (t : runs_in core w w.turn ≡ true) where
    changed : (h g : ℕ) (bs : List ℕ) → end_of core w w.turn h ≡ File g → Kept w f Tick (get_or (set w.files g bs) f [])
    changed h g bs e = get_or_set_by (Kept w f Tick) w.files g f bs [] (λ q. inr (h, refl, r, t, e ∙ ap File (sym q))) (inl refl)

    ways : Ways core (λ v. Kept w f Tick (file_of v f)) z w w.turn
    unfolding with_process with_processes with_open with_pipe with_file with_keys with_shown into_memory leaves orphaned
    ways =
        record {
          here = inl refl;
          placed = λ v i q n h. h;
          opens = λ v k o n h. h;
          keyed = λ v t n e h. h;
          left = λ n. inl refl;
          taken = λ h a j n e l. inl refl;
          given = λ h a j n e r. inl refl;
          emptied = λ v e l h. h;
          shown = λ h t a n e. inl refl;
          written = λ h g k a n e q l. changed h g _ e;
          ended = λ h g n e. changed h g _ e;
        }

  kept : (z : Sizes) (w : World Cpu) (f : ℕ) (e : Event) → Kept w f e (file_of (event core z w e) f)
  unfolding with_turn with_keys
  kept z w f Tick = event_by core (λ v. Kept w f Tick (file_of v f)) z w (inl refl) (λ r t. ways z w f r t) (λ v t u h. h) (λ t b _ _. inl refl) Tick
  kept z w f (Key t b) = key_by core (λ v. Kept w f (Key t b) (file_of v f)) z w t b (inl refl) (λ _ _. inl refl)

pub by_handle : (Cpu : Type 0) → ByHandle Cpu
by_handle Cpu core z w f e = kept core z w f e
