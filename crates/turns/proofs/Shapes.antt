-- Worlds keep their shape: tables, memories and handles are as long as the sizes say. Assumes nothing.
use Rattle.std.proofs.Common.{◌≡◌, ℕ, zero, suc, ◌+◌, ◌-◌, ◌≤◌, true, false, List, [], ◌∷◌, map, length, get_or, refl, ap, ◌∙◌, subst, arith}
use Rattle.octets.specs.Rows.{over}
use Rattle.octets.proofs.Tests.{get_or_set_by, get_or_all}
use Rattle.turns.specs.Core.{Core}
use Rattle.turns.specs.World.{World, Process, process, nobody, runs_in, event}
use Rattle.turns.specs.World.{with_process, with_processes, with_open, with_pipe, with_file, with_keys, with_shown, with_turn, with_cpu, with_memory, with_handles, into_memory, orphaned, leaves, file_of}
use Rattle.turns.specs.declared.vocabulary.Sizes.{Sizes}
use Rattle.turns.specs.declared.vocabulary.Event.{Event}
use Rattle.turns.proofs.Step.{Ways, New, ticked, stored, filled, handled, piped, begun, born, reaped, event_by, comes_by}
use Rattle.std.proofs.lemmas.List.{length-set, length-map, length-take, length-append, length-drop, length-replicate}
use Rattle.std.proofs.lemmas.Bool.{both_ways}
use Rattle.octets.proofs.Over.{length_over}
use Rattle.turns.specs.World.{is_running, loaded, begin}
use Rattle.turns.specs.Ranges.{Fits}
use Rattle.turns.specs.Theorems.{Comes}
use Rattle.turns.proofs.Others.{orphans}

-- all tables have the lengths of the sizes
pub record Tables {Cpu : Type 0} (z : Sizes) (w : World Cpu) : Type 0 where
  pub processes : length w.processes ≡ z.processes
  pub opens : length w.opens ≡ z.opens
  pub pipes : length w.pipes ≡ z.pipes
  pub files : length w.files ≡ z.files
  pub keys : length w.keys ≡ z.screens
  pub shown : length w.shown ≡ z.screens

pub length_loaded : (z : Sizes) (bs : List ℕ) → length (loaded z bs) ≡ z.memory
unfolding loaded over
length_loaded z bs = simp (length-take, length-append, length-drop, length-replicate) (omega arith)

module _ {Cpu : Type 0} (core : Core Cpu) where
  module _ (z : Sizes) (w : World Cpu) (p : ℕ) (s : Tables z w) where
    pub table_ways : Ways core (Tables z) z w p
    unfolding with_process with_processes with_open with_pipe with_file with_keys with_shown into_memory leaves orphaned
    table_ways =
        record {
          here = s;
          placed = λ v i q n h. record { processes = length-set _ _ _ ∙ h.processes; opens = h.opens; pipes = h.pipes; files = h.files; keys = h.keys; shown = h.shown };
          opens = λ v k o n h. record { processes = h.processes; opens = length-set _ _ _ ∙ h.opens; pipes = h.pipes; files = h.files; keys = h.keys; shown = h.shown };
          keyed = λ v t n e h. record { processes = h.processes; opens = h.opens; pipes = h.pipes; files = h.files; keys = length-set _ _ _ ∙ h.keys; shown = h.shown };
          left = λ n. record { processes = length-set _ _ _ ∙ length-map _ _ ∙ s.processes; opens = s.opens; pipes = s.pipes; files = s.files; keys = s.keys; shown = s.shown };
          taken = λ h a j n e l. record { processes = length-set _ _ _ ∙ s.processes; opens = s.opens; pipes = length-set _ _ _ ∙ s.pipes; files = s.files; keys = s.keys; shown = s.shown };
          given = λ h a j n e r. record { processes = s.processes; opens = s.opens; pipes = length-set _ _ _ ∙ s.pipes; files = s.files; keys = s.keys; shown = s.shown };
          emptied = λ v e l h. record { processes = h.processes; opens = h.opens; pipes = length-set _ _ _ ∙ h.pipes; files = h.files; keys = h.keys; shown = h.shown };
          shown = λ h t a n e. record { processes = s.processes; opens = s.opens; pipes = s.pipes; files = s.files; keys = s.keys; shown = length-set _ _ _ ∙ s.shown };
          written = λ h f k a n e q l. record { processes = s.processes; opens = s.opens; pipes = s.pipes; files = length-set _ _ _ ∙ s.files; keys = s.keys; shown = s.shown };
          ended = λ h f n e. record { processes = s.processes; opens = s.opens; pipes = s.pipes; files = length-set _ _ _ ∙ s.files; keys = s.keys; shown = s.shown };
        }

  pub table_step : (z : Sizes) (w : World Cpu) (e : Event) → Tables z w → Tables z (event core z w e)
  unfolding with_turn with_keys
  table_step z w e s =
      event_by core (Tables z) z w s (λ _ _. table_ways z w w.turn s)
      (λ v t u h. record { processes = h.processes; opens = h.opens; pipes = h.pipes; files = h.files; keys = h.keys; shown = h.shown })
      (λ t b _ _. record { processes = s.processes; opens = s.opens; pipes = s.pipes; files = s.files; keys = length-set _ _ _ ∙ s.keys; shown = s.shown }) e

  pub table_start : (z : Sizes) (fs : List (List ℕ)) → Fits z fs → Tables z (begin core z fs)
  unfolding begin
  table_start z fs f =
      record {
        processes = simp length-replicate (omega (arith, f.sizes.processes));
        opens = simp length-replicate (omega (arith, f.sizes.opens));
        pipes = length-replicate _ _;
        files = f.count;
        keys = length-replicate _ _;
        shown = length-replicate _ _;
      }

  pub tables : (z : Sizes) (w : World Cpu) → Comes core z w → Tables z w
  tables z w c = comes_by core (Tables z) z (table_start z) (table_step z) w c

  -- a process that runs has all of its memory and its handles
  abbrev pub Whole : Sizes → Process Cpu → Type 0
  Whole z x = is_running x.state ≡ true → (length x.memory ≡ z.memory) × (length x.handles ≡ z.handles)

  abbrev pub AllWhole : Sizes → World Cpu → Type 0
  AllWhole z w = (q : ℕ) → Whole z (process core w q)

  whole_nobody : (z : Sizes) → Whole z (nobody core)
  unfolding nobody is_running
  whole_nobody z r = absurd (both_ways false refl r)

  module _ (z : Sizes) (w : World Cpu) (p : ℕ) (s : AllWhole z w) (r : runs_in core w p ≡ true) where
    mine : (length (process core w p).memory ≡ z.memory) × (length (process core w p).handles ≡ z.handles)
    unfolding runs_in
    mine = s p r

    fits_over : (a : ℕ) (bs : List ℕ) → a + length bs ≤ z.memory → length (over (process core w p).memory a bs) ≡ z.memory
    fits_over a bs l = length_over _ a bs (omega (arith, mine.0)) ∙ mine.0

    whole_new : (v : World Cpu) (i : ℕ) (x : Process Cpu) → AllWhole z v → New core z w p v i x → Whole z x
    unfolding with_cpu with_memory with_handles
    whole_new v _ _ h (ticked c) = h p
    whole_new v _ _ h (stored a bs c e l) = λ _. (fits_over a bs l, mine.1)
    whole_new v _ _ h (filled a bs e l) = λ _. (fits_over a bs l, mine.1)
    whole_new v _ _ h (handled k o e) = λ _. (mine.0, length-set _ k o ∙ mine.1)
    whole_new v _ _ h (piped k g m n a x y b c l i j) = λ _. (fits_over a (x ∷ y ∷ []) l, length-set _ g _ ∙ length-set _ k _ ∙ mine.1)
    whole_new v _ _ h (begun f) = λ _. (length_loaded z (file_of w f), mine.1)
    whole_new v _ _ h (born l) = λ _. mine
    whole_new v _ _ h (reaped l) = whole_nobody z

    set_whole : (v : World Cpu) (i : ℕ) (x : Process Cpu) → Whole z x → AllWhole z v → AllWhole z (with_process v i x)
    unfolding process with_process
    set_whole v i x g h q = get_or_set_by (Whole z) v.processes i q x _ (λ _. g) (h q)

    left_whole : (n : ℕ) → AllWhole z (leaves core w p n).world
    unfolding process with_process with_processes leaves orphaned is_running
    left_whole n q =
        get_or_set_by (Whole z) (map _ w.processes) p q _ _ (λ _ t. absurd (both_ways false refl t))
        (let o = orphans core p w.processes q in λ t. let g = s q (subst (λ x. is_running x ≡ true) o.state t) in (ap length o.memory ∙ g.0, ap length o.handles ∙ g.1))

    whole_ways : Ways core (AllWhole z) z w p
    unfolding with_open with_pipe with_file with_keys with_shown into_memory process with_memory
    whole_ways =
        record {
          here = s;
          placed = λ v i x n h. set_whole v i x (whole_new v i x h n) h;
          opens = λ v k o n h. h;
          keyed = λ v t n e h. h;
          left = left_whole;
          taken = λ h a j n e l. set_whole w p _ (λ _. (fits_over a _ l, mine.1)) s;
          given = λ h a j n e t. s;
          emptied = λ v e l h. h;
          shown = λ h t a n e. s;
          written = λ h f k a n e q l. s;
          ended = λ h f n e. s;
        }

  whole_step : (z : Sizes) (w : World Cpu) (e : Event) → AllWhole z w → AllWhole z (event core z w e)
  unfolding with_turn with_keys process
  whole_step z w e s = event_by core (AllWhole z) z w s (λ _ t. whole_ways z w w.turn s t) (λ v t u h. h) (λ t b _ _. s) e

  whole_start : (z : Sizes) (fs : List (List ℕ)) → Fits z fs → AllWhole z (begin core z fs)
  unfolding begin process
  whole_start z fs f zero = λ _. (length_loaded z (get_or fs 0 []), simp length-replicate (omega (arith, f.sizes.handles)))
  whole_start z fs f (suc q) = rw (get_or_all (z.processes - 1) q (nobody core)) (whole_nobody z)

  pub whole : (z : Sizes) (w : World Cpu) → Comes core z w → AllWhole z w
  whole z w c = comes_by core (AllWhole z) z (whole_start z) (whole_step z) w c
