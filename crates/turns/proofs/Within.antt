-- Everything keeps within its size, and all is bytes. Assumes nothing.
use Rattle.std.proofs.Common.{◌≡◌, ℕ, zero, suc, ◌-◌, ◌%◌, ◌<◌, ◌≤◌, List, [], ◌∷◌, map, length, get_or, set, replicate, sym, subst, inl, inr, arith}
use Rattle.octets.proofs.Tests.{get_or_set_by, get_or_all}
use Rattle.turns.specs.Core.{Core}
use Rattle.turns.specs.World.{World, Process, process, nobody, runs_in, event}
use Rattle.turns.specs.World.{with_process, with_processes, with_open, with_pipe, with_file, with_keys, with_shown, with_turn, with_cpu, with_memory, with_handles, into_memory, orphaned, leaves, pipe_of, file_of, keys_of}
use Rattle.turns.specs.declared.vocabulary.Sizes.{Sizes}
use Rattle.turns.specs.declared.vocabulary.Event.{Event}
use Rattle.turns.proofs.Step.{Ways, New, ticked, stored, filled, handled, piped, begun, born, reaped, event_by, comes_by}
use Rattle.std.proofs.lemmas.List.{length-take, length-append, length-drop}
use Rattle.octets.specs.Rows.{Bytes}
use Rattle.octets.proofs.Over.{length_over_le, bytes_take, bytes_drop, bytes_append, bytes_over, bytes_zeros}
use Rattle.turns.specs.World.{opened, closed, loaded, begin, in_memory}
use Rattle.turns.specs.Ranges.{InRange, Fits}
use Rattle.turns.specs.Theorems.{Comes, KeepsShape, AllBytes, StoresBytes, KeepsBytes}
use Rattle.turns.specs.declared.vocabulary.OpenThing.{OpenThing}
use Rattle.turns.proofs.Step.{Source, from_file, from_keys, from_pipe, Opened, made, went}
use Rattle.turns.proofs.Others.{orphans}
use Rattle.turns.proofs.Shapes.{tables, whole}
use Rattle.turns.proofs.Holds.{held}
use Rattle.turns.proofs.Turns.{in_turn}

-- files, pipes, keys and the places of open things keep within their sizes
pub record Within {Cpu : Type 0} (z : Sizes) (w : World Cpu) : Type 0 where
  pub places : (k : ℕ) → (opened w k).at ≤ z.file
  pub file : (f : ℕ) → length (file_of w f) ≤ z.file
  pub pipe : (j : ℕ) → length (pipe_of w j) ≤ z.pipe
  pub key : (t : ℕ) → length (keys_of w t) ≤ z.pipe

-- a row in a table of rows that all keep within n
row_set : (xs : List (List ℕ)) (i k n : ℕ) (x : List ℕ) → length x ≤ n → ((k : ℕ) → length (get_or xs k []) ≤ n) → length (get_or (set xs i x) k []) ≤ n
row_set xs i k n x l h = get_or_set_by (λ (y : List ℕ). length y ≤ n) xs i k x [] (λ _. l) (h k)

bytes_set : (xs : List (List ℕ)) (i k : ℕ) (x : List ℕ) → Bytes x → ((k : ℕ) → Bytes (get_or xs k [])) → Bytes (get_or (set xs i x) k [])
bytes_set xs i k x b h = get_or_set_by Bytes xs i k x [] (λ _. b) (h k)

no_bytes : Bytes []
no_bytes k = omega arith

bytes_loaded : (z : Sizes) (bs : List ℕ) → Bytes bs → Bytes (loaded z bs)
unfolding loaded
bytes_loaded z bs b = bytes_take z.memory _ (bytes_over (replicate z.memory 0) 0 bs (bytes_zeros z.memory) b)

two_bytes : (x y : ℕ) → x < 256 → y < 256 → Bytes (x ∷ y ∷ [])
two_bytes x y a b zero = a
two_bytes x y a b (suc zero) = b
two_bytes x y a b (suc (suc k)) = omega arith

module _ {Cpu : Type 0} (core : Core Cpu) where
  module _ (z : Sizes) (w : World Cpu) (p : ℕ) (s : Within z w) where
    place_open : (v : World Cpu) (k : ℕ) (o : OpenThing) → Opened core z w v k o → Within z v → o.at ≤ z.file
    unfolding opened
    place_open v _ _ (made k e b) g = omega arith
    place_open v _ _ (went k f n e same (inl b)) g = omega (arith, g.places k)
    place_open v _ _ (went k f n e same (inr (inl b))) g = let q : (get_or v.opens k closed).at ≡ (get_or w.opens k closed).at = rw same in omega (arith, s.file f, q)
    place_open v _ _ (went k f n e same (inr (inr b))) g = let q : (get_or v.opens k closed).at ≡ (get_or w.opens k closed).at = rw same in omega (arith, q)

    within_opens : (v : World Cpu) (k : ℕ) (o : OpenThing) → Opened core z w v k o → Within z v → Within z (with_open v k o)
    unfolding with_open opened
    within_opens v k o n g = record {
      places = λ i. get_or_set_by (λ (x : OpenThing). x.at ≤ z.file) v.opens k i o _ (λ _. place_open v k o n g) (g.places i);
      file = g.file;
      pipe = g.pipe;
      key = g.key;
    }

    within_ways : Ways core (Within z) z w p
    unfolding with_process with_processes with_pipe with_file with_keys with_shown into_memory leaves orphaned opened
    within_ways =
        record {
          here = s;
          placed = λ v i q n g. record { places = g.places; file = g.file; pipe = g.pipe; key = g.key };
          opens = within_opens;
          keyed = λ v t n e g. record { places = g.places; file = g.file; pipe = g.pipe; key = λ k. row_set v.keys t k z.pipe _ (rw length-drop (omega (arith, s.key t))) g.key };
          left = λ n. record { places = s.places; file = s.file; pipe = s.pipe; key = s.key };
          taken = λ h a j n e l. record { places = s.places; file = s.file; pipe = λ k. row_set w.pipes j k z.pipe _ (rw length-drop (omega (arith, s.pipe j))) s.pipe; key = s.key };
          given = λ h a j n e r. record { places = s.places; file = s.file; pipe = λ k. row_set w.pipes j k z.pipe _ (simp (length-append, length-take) (omega (arith, s.pipe j))) s.pipe; key = s.key };
          emptied = λ v e l g. record { places = g.places; file = g.file; pipe = λ k. row_set v.pipes _ k z.pipe [] (omega arith) g.pipe; key = g.key };
          shown = λ h t a n e. record { places = s.places; file = s.file; pipe = s.pipe; key = s.key };
          written = λ h f k a n e q l. record { places = s.places; file = λ i. row_set w.files f i z.file _ (length_over_le _ _ _ z.file (s.file f) l) s.file; pipe = s.pipe; key = s.key };
          ended = λ h f n e. record { places = s.places; file = λ i. row_set w.files f i z.file _ (rw length-take (omega (arith, s.file f))) s.file; pipe = s.pipe; key = s.key };
        }

  within_step : (z : Sizes) (w : World Cpu) (e : Event) → Within z w → Within z (event core z w e)
  unfolding with_turn with_keys opened
  within_step z w e s =
      event_by core (Within z) z w s (λ _ _. within_ways z w w.turn s) (λ v t u g. record { places = g.places; file = g.file; pipe = g.pipe; key = g.key })
      (λ t b _ l. record { places = s.places; file = s.file; pipe = s.pipe; key = λ k. row_set w.keys t k z.pipe _ (rw length-append (omega arith)) s.key }) e

  within_start : (z : Sizes) (fs : List (List ℕ)) → Fits z fs → Within z (begin core z fs)
  unfolding begin opened closed
  within_start z fs f =
      record { places = first; file = f.short; pipe = λ j. rw (get_or_all {X = List ℕ} z.pipes j []) (omega arith); key = λ t. rw (get_or_all {X = List ℕ} z.screens t []) (omega arith) }
    where
      first : (k : ℕ) → (opened (begin core z fs) k).at ≤ z.file
      first zero = omega arith
      first (suc k) = rw (get_or_all (z.opens - 1) k closed) (omega arith)

  pub within : (z : Sizes) (w : World Cpu) → Comes core z w → Within z w
  within z w c = comes_by core (Within z) z (within_start z) (within_step z) w c

  -- every memory is bytes
  abbrev Memories : World Cpu → Type 0
  Memories w = (p : ℕ) → Bytes (process core w p).memory

  module _ (stores : StoresBytes core) (z : Sizes) (range : InRange z) (w : World Cpu) (p : ℕ) (s : AllBytes core w) where
    source : (bs : List ℕ) → Source core w bs → Bytes bs
    source _ (from_file f m n) = bytes_take n _ (bytes_drop m _ (s.files f))
    source _ (from_keys t n) = bytes_take n _ (s.keys t)
    source _ (from_pipe j n) = bytes_take n _ (s.pipes j)

    given_bytes : (a n : ℕ) → Bytes (in_memory core w p a n)
    given_bytes a n = bytes_take n _ (bytes_drop a _ (s.memory p))

    new_bytes : (v : World Cpu) (i : ℕ) (x : Process Cpu) → Memories v → New core z w p v i x → Bytes x.memory
    unfolding with_cpu with_memory with_handles nobody
    new_bytes v _ _ g (ticked c) = g p
    new_bytes v _ _ g (stored a bs c e l) = bytes_over _ a bs (s.memory p) (stores _ _ a bs c e)
    new_bytes v _ _ g (filled a bs e l) = bytes_over _ a bs (s.memory p) (source bs e)
    new_bytes v _ _ g (handled h o n) = s.memory p
    new_bytes v _ _ g (piped h i m n a x y b c l d e) = bytes_over _ a (x ∷ y ∷ []) (s.memory p) (two_bytes x y (omega (arith, range.handles)) (omega (arith, range.handles)))
    new_bytes v _ _ g (begun f) = bytes_loaded z _ (s.files f)
    new_bytes v _ _ g (born l) = s.memory p
    new_bytes v _ _ g (reaped l) = no_bytes

    set_bytes : (v : World Cpu) (i : ℕ) (x : Process Cpu) → Bytes x.memory → Memories v → Memories (with_process v i x)
    unfolding process with_process
    set_bytes v i x b g q = get_or_set_by (λ (y : Process Cpu). Bytes y.memory) v.processes i q x _ (λ _. b) (g q)

    left_bytes : (n : ℕ) → Memories (leaves core w p n).world
    unfolding process with_process with_processes leaves orphaned
    left_bytes n q = get_or_set_by (λ (y : Process Cpu). Bytes y.memory) (map _ w.processes) p q _ _ (λ _. no_bytes)
        (subst Bytes (sym (orphans core p w.processes q).memory) (s.memory q))

    bytes_ways : Ways core (AllBytes core) z w p
    unfolding with_process with_processes with_open with_pipe with_file with_keys with_shown into_memory leaves orphaned process with_memory
    bytes_ways =
        record {
          here = s;
          placed = λ v i x n g. record { memory = set_bytes v i x (new_bytes v i x g.memory n) g.memory; files = g.files; pipes = g.pipes; keys = g.keys; shown = g.shown };
          opens = λ v k o n g. record { memory = g.memory; files = g.files; pipes = g.pipes; keys = g.keys; shown = g.shown };
          keyed = λ v t n e g. record { memory = g.memory; files = g.files; pipes = g.pipes; keys = λ k. bytes_set v.keys t k _ (bytes_drop n _ (s.keys t)) g.keys; shown = g.shown };
          left = λ n. record { memory = left_bytes n; files = s.files; pipes = s.pipes; keys = s.keys; shown = s.shown };
          taken = λ h a j n e l. record {
            memory = set_bytes w p _ (bytes_over _ a _ (s.memory p) (bytes_take n _ (s.pipes j))) s.memory;
            files = s.files;
            pipes = λ k. bytes_set w.pipes j k _ (bytes_drop n _ (s.pipes j)) s.pipes;
            keys = s.keys;
            shown = s.shown;
          };
          given = λ h a j n e r. record { memory = s.memory; files = s.files; pipes = λ k. bytes_set w.pipes j k _ (bytes_append _ _ (s.pipes j) (bytes_take _ _ (given_bytes a n))) s.pipes; keys = s.keys; shown = s.shown };
          emptied = λ v e l g. record { memory = g.memory; files = g.files; pipes = λ k. bytes_set v.pipes _ k [] no_bytes g.pipes; keys = g.keys; shown = g.shown };
          shown = λ h t a n e. record { memory = s.memory; files = s.files; pipes = s.pipes; keys = s.keys; shown = λ k. bytes_set w.shown t k _ (bytes_append _ _ (s.shown t) (given_bytes a n)) s.shown };
          written = λ h f k a n e q l. record { memory = s.memory; files = λ i. bytes_set w.files f i _ (bytes_over _ _ _ (s.files f) (given_bytes a n)) s.files; pipes = s.pipes; keys = s.keys; shown = s.shown };
          ended = λ h f n e. record { memory = s.memory; files = λ i. bytes_set w.files f i _ (bytes_take n _ (s.files f)) s.files; pipes = s.pipes; keys = s.keys; shown = s.shown };
        }

  one_byte : (b : ℕ) → Bytes (b % 256 ∷ [])
  one_byte b zero = omega arith
  one_byte b (suc k) = omega arith

  bytes_step : StoresBytes core → (z : Sizes) → InRange z → (w : World Cpu) (e : Event) → AllBytes core w → AllBytes core (event core z w e)
  unfolding with_turn with_keys process
  bytes_step stores z range w e s =
      event_by core (AllBytes core) z w s (λ _ _. bytes_ways stores z range w w.turn s)
      (λ v t u g. record { memory = g.memory; files = g.files; pipes = g.pipes; keys = g.keys; shown = g.shown })
      (λ t b _ _. record { memory = s.memory; files = s.files; pipes = s.pipes; keys = λ k. bytes_set w.keys t k _ (bytes_append _ _ (s.keys t) (one_byte b)) s.keys; shown = s.shown }) e

  bytes_start : (z : Sizes) (fs : List (List ℕ)) → Fits z fs → AllBytes core (begin core z fs)
  unfolding begin process nobody
  bytes_start z fs f =
      record { memory = first; files = f.bytes; pipes = empty z.pipes; keys = empty z.screens; shown = empty z.screens }
    where
      empty : (n k : ℕ) → Bytes (get_or (replicate n []) k [])
      empty n k = subst Bytes (sym (get_or_all {X = List ℕ} n k [])) no_bytes

      first : (p : ℕ) → Bytes (process core (begin core z fs) p).memory
      first zero = bytes_loaded z _ (f.bytes 0)
      first (suc p) = subst (λ (x : Process Cpu). Bytes x.memory) (sym (get_or_all (z.processes - 1) p (nobody core))) no_bytes

pub keeps_shape : (Cpu : Type 0) → KeepsShape Cpu
unfolding runs_in Rattle.turns.specs.World.handle_of
keeps_shape Cpu core z w c =
    let t = tables core z w c in
    let h = held core z w c in
    let i = within core z w c in
    let o = whole core z w c in
    record {
      processes = t.processes;
      opens = t.opens;
      pipes = t.pipes;
      files = t.files;
      keys = t.keys;
      shown = t.shown;
      turn = (in_turn core z w c).0;
      used = (in_turn core z w c).1;
      memory = λ p r. (o p r).0;
      handles = λ p r. (o p r).1;
      leads = λ p n k r e. h.leads p r n k e;
      places = i.places;
      file = i.file;
      pipe = i.pipe;
      key = i.key;
    }

pub keeps_bytes : (Cpu : Type 0) → KeepsBytes Cpu
unfolding Comes
keeps_bytes Cpu core z w stores c = comes_by core (AllBytes core) z (bytes_start core z) (bytes_step core stores z c.2.sizes) w c
