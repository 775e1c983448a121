-- Processes that run are left alone by others. Assumes nothing.
use Rattle.std.proofs.Common.{◌≡◌, ℕ, zero, suc, true, false, ◌&&◌, ◌≢◌, List, [], ◌∷◌, map, get_or, set, sym, refl, subst}
use Rattle.octets.proofs.Tests.{get_or_set_by}
use Rattle.turns.specs.Core.{Core}
use Rattle.turns.specs.World.{World, Process, process, nobody, runs_in, event}
use Rattle.turns.specs.World.{with_process, with_processes, with_open, with_pipe, with_file, with_keys, with_shown, with_turn, with_parent, into_memory, orphaned, leaves}
use Rattle.turns.specs.declared.vocabulary.Sizes.{Sizes}
use Rattle.turns.specs.declared.vocabulary.Event.TheVariants.{Tick, Key}
use Rattle.turns.proofs.Step.{Ways, New, ticked, stored, filled, handled, piped, begun, born, reaped, key_by, event_by}
use Rattle.std.proofs.lemmas.Bool.{both_ways, and_parts}
use Rattle.octets.proofs.Lowest.{lowest_holds}
use Rattle.turns.specs.World.{is_free, is_running, is_left, free_process, left_child, is_child, without_parent}
use Rattle.turns.specs.Theorems.{Apart, Untouched}
use Rattle.turns.specs.declared.vocabulary.State.{State}
use Rattle.turns.specs.declared.vocabulary.State.TheVariants.{Free, Runs, Left}

-- a place is free, runs or has left, and only one of them
runs_not_free : (s : State) → is_free s ≡ true → is_running s ≡ true → ⊥
unfolding is_free is_running
runs_not_free Free a b = both_ways false refl b
runs_not_free Runs a b = both_ways false refl a
runs_not_free (Left n) a b = both_ways false refl a

runs_not_left : (s : State) → is_left s ≡ true → is_running s ≡ true → ⊥
unfolding is_left is_running
runs_not_left Free a b = both_ways false refl a
runs_not_left Runs a b = both_ways false refl a
runs_not_left (Left n) a b = both_ways false refl b

untouched : {Cpu : Type 0} (q : Process Cpu) → Untouched q q
untouched q = record { state = refl; cpu = refl; memory = refl; handles = refl }

module _ {Cpu : Type 0} (core : Core Cpu) where
  -- a place that p's doing changes is its own, or not one in which somebody runs
  pub not_placed : (z : Sizes) (w v : World Cpu) (p q i : ℕ) (x : Process Cpu) → q ≢ p → runs_in core w q ≡ true → New core z w p v i x → q ≡ i → ⊥
  unfolding runs_in free_process left_child
  not_placed z w v p q _ _ n r (ticked c) e = n e
  not_placed z w v p q _ _ n r (stored a bs c s l) e = n e
  not_placed z w v p q _ _ n r (filled a bs s l) e = n e
  not_placed z w v p q _ _ n r (handled h o k) e = n e
  not_placed z w v p q _ _ n r (piped h g k l a x y b c d i j) e = n e
  not_placed z w v p q _ _ n r (begun f) e = n e
  not_placed z w v p q _ _ n r (born l) e = runs_not_free _ (rw (sym e) at (lowest_holds (λ i. is_free (process core w i).state) z.processes l)) r
  not_placed z w v p q _ _ n r (reaped l) e =
      let h : (is_child core w p (left_child core z w p) && is_left (process core w (left_child core z w p)).state) ≡ true =
      lowest_holds (λ i. is_child core w p i && is_left (process core w i).state) z.processes l in
      runs_not_left _ (subst (λ i. is_left (process core w i).state ≡ true) (sym e) (and_parts (is_child core w p (left_child core z w p)) (is_left (process core w (left_child core z w p)).state) h).1) r

  -- who loses a parent keeps all else
  pub orphans : (p : ℕ) (qs : List (Process Cpu)) (q : ℕ) → Untouched (get_or qs q (nobody core)) (get_or (map (without_parent p) qs) q (nobody core))
  unfolding without_parent with_parent
  orphans p [] q = untouched _
  orphans p (x ∷ qs) zero = record { state = refl; cpu = refl; memory = refl; handles = refl }
  orphans p (x ∷ qs) (suc q) = orphans p qs q

  module _ (z : Sizes) (w : World Cpu) (q : ℕ) (n : q ≢ w.turn) (r : runs_in core w q ≡ true) where
    -- the place q of other processes is as it was
    abbrev Same : List (Process Cpu) → Type 0
    Same qs = Untouched (process core w q) (get_or qs q (nobody core))

    here : Same w.processes
    unfolding process
    here = untouched _

    elsewhere : (i : ℕ) (x : Process Cpu) (qs : List (Process Cpu)) → (q ≡ i → ⊥) → Same qs → Same (set qs i x)
    elsewhere i x qs m h = get_or_set_by (Untouched (process core w q)) qs i q x (nobody core) (λ e. absurd (m e)) h

    ways : Ways core (λ v. Same v.processes) z w w.turn
    unfolding with_process with_processes with_open with_pipe with_file with_keys with_shown into_memory leaves orphaned process
    ways =
        record {
          here = here;
          placed = λ v i x m h. elsewhere i x v.processes (not_placed z w v w.turn q i x n r m) h;
          opens = λ v k o m h. h;
          keyed = λ v t m e h. h;
          left = λ m. elsewhere w.turn _ _ n (orphans w.turn w.processes q);
          taken = λ h a j m e l. elsewhere w.turn _ w.processes n here;
          given = λ h a j m e l. here;
          emptied = λ v e l h. h;
          shown = λ h t a m e. here;
          written = λ h f k a m e o l. here;
          ended = λ h f m e. here;
        }

    alone : Same (event core z w Tick).processes
    unfolding with_turn with_keys
    alone = event_by core (λ v. Same v.processes) z w here (λ _ _. ways) (λ v t u h. h) (λ t b _ _. here) Tick

  untyped : (z : Sizes) (w : World Cpu) (q t b : ℕ) → Untouched (process core w q) (process core (event core z w (Key t b)) q)
  unfolding with_keys process
  untyped z w q t b = key_by core (λ v. Untouched (process core w q) (process core v q)) z w t b (untouched _) (λ _ _. untouched _)

pub apart : (Cpu : Type 0) → Apart Cpu
unfolding process
apart Cpu core z w q Tick n r = alone core z w q (n refl) r
apart Cpu core z w q (Key t b) n r = untyped core z w q t b
