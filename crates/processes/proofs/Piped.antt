-- The ends of a new pipe. Assumes nothing.
use Rattle.std.specs.Prelude.{is_none}
use Rattle.std.proofs.Common.{◌≡◌, ℕ, suc, ◌+◌, ◌-◌, ◌<◌, ◌≤◌, true, false, not, ◌||◌, leb, List, [], length, get_or, set, Some, None, Option, sym, refl, ap, ◌∙◌, subst, arith, set-set}
use Rattle.std.proofs.lemmas.List.{get_or-set_same}
use Rattle.std.proofs.lemmas.Bool.{le-leb, lt-leb}
use Rattle.octets.proofs.Lowest.{lowest_from_ge}
use Rattle.turns.specs.World.{process, nobody, in_use, free_pipe, free_open, second_open, free_handle, second_handle, with_process, with_open, with_pipe, with_memory, with_handle, with_handles}
use Rattle.turns.specs.World as W
use Rattle.turns.specs.declared.vocabulary.Sizes.{Sizes}
use Rattle.turns.specs.declared.vocabulary.End.TheVariants.{WriteEnd, ReadEnd}
use Rattle.rv32.specs.declared.cpu.Cpu.{Cpu}
use Rattle.rv32.specs.Act.{core}
use Rattle.processes.specs.declared.PipeEnds.{PipeEnds}
use Rattle.processes.specs.declared.Tables.{Tables}
use Rattle.processes.specs.Tabled.{Tabled, Worlds}
use Rattle.processes.specs.Pipes.{no_room, FreeEnds, piped}
use Rattle.processes.specs.Looking.{lowest_free_pipe, lowest_free_open, lowest_free_handle}
use Rattle.processes.proofs.Seeing.{none_of, some_of, pipe_is, open_first, open_second, handle_first, handle_second}
use Rattle.processes.proofs.Called.{or_true}
use Rattle.processes.proofs.Standing.{tables_memory, tables_pipe}

-- FINDING THEM

module _ (z : Sizes) (w : Worlds) (p : ℕ) where
  no_opens : z.opens ≤ second_open core z w → no_room z w p ≡ true
  no_opens l = rw (le-leb _ _ l) (or_true _)

  no_handles : z.handles ≤ second_handle z (process core w p) → no_room z w p ≡ true
  no_handles l = rw (le-leb _ _ l) (ap (λ b. leb z.pipes (free_pipe core z w) || b) (or_true _) ∙ or_true _)

  enough : (j k h : ℕ) → j ≡ free_pipe core z w → k ≡ second_open core z w → h ≡ second_handle z (process core w p) → j < z.pipes → k < z.opens → h < z.handles →
      no_room z w p ≡ false
  enough j k h a b d l m n = rw (← a, ← b, ← d, lt-leb _ _ l, lt-leb _ _ m, lt-leb _ _ n)

-- one is missing, or all are there
module _ (t : Tables) (w : Worlds) (h : Tabled t w) (p : ℕ) where
  pub no_pipe : lowest_free_pipe t ≡ None → no_room t.sizes w p ≡ true
  no_pipe e = rw (le-leb _ _ (none_of _ _ (sym e ∙ pipe_is t w h))) refl

  pub no_first_open : lowest_free_open t 0 ≡ None → no_room t.sizes w p ≡ true
  unfolding second_open
  no_first_open e =
      let i : ℕ = free_open core t.sizes w in
      no_opens _ w p (omega (arith, none_of _ _ (sym e ∙ open_first t w h), lowest_from_ge (λ k. not (in_use core w k)) (suc i) (t.sizes.opens - suc i)))

  pub no_second_open : (k : ℕ) → lowest_free_open t 0 ≡ Some k → lowest_free_open t (k + 1) ≡ None → no_room t.sizes w p ≡ true
  no_second_open k e f = no_opens _ w p (none_of _ _ (sym f ∙ open_second t w h k e))

  pub no_first_handle : lowest_free_handle t p 0 ≡ None → no_room t.sizes w p ≡ true
  unfolding second_handle
  no_first_handle e =
      let i : ℕ = free_handle t.sizes (process core w p) in
      no_handles _ w p
      (omega (arith, none_of _ _ (sym e ∙ handle_first t w h p), lowest_from_ge (λ k. is_none (get_or (process core w p).handles k None)) (suc i) (t.sizes.handles - suc i)))

  pub no_second_handle : (k : ℕ) → lowest_free_handle t p 0 ≡ Some k → lowest_free_handle t p (k + 1) ≡ None → no_room t.sizes w p ≡ true
  no_second_handle k e f = no_handles _ w p (none_of _ _ (sym f ∙ handle_second t w h p k e))

  pub all_there : (i k l m n : ℕ) → lowest_free_pipe t ≡ Some i → lowest_free_open t 0 ≡ Some k → lowest_free_open t (k + 1) ≡ Some l →
      lowest_free_handle t p 0 ≡ Some m → lowest_free_handle t p (m + 1) ≡ Some n →
      FreeEnds t.sizes w p (record { pipe = i; read_open = k; read_handle = m; write_open = l; write_handle = n })
  all_there _ _ _ _ _ a b d f g =
      let j = some_of _ _ _ (sym a ∙ pipe_is t w h) in
      let k = some_of _ _ _ (sym b ∙ open_first t w h) in
      let l = some_of _ _ _ (sym d ∙ open_second t w h _ b) in
      let m = some_of _ _ _ (sym f ∙ handle_first t w h p) in
      let n = some_of _ _ _ (sym g ∙ handle_second t w h p _ f) in
      record {
        room = enough _ w p _ _ _ j.0 l.0 n.0 j.1 l.1 n.1;
        pipe = j.0;
        read_open = k.0;
        write_open = l.0;
        read_handle = m.0;
        write_handle = n.0;
        opens = (k.1, l.1);
        handles = (m.1, n.1);
      }

-- for grind
pub ruleset ends = (no_pipe, no_first_open, no_second_open, no_first_handle, no_second_handle)

-- PUTTING THEM

-- a place that is set twice
twice : (w : Worlds) (p : ℕ) (x y : W.Process Cpu) → with_process (with_process w p x) p y ≡ with_process w p y
unfolding with_process
twice w p x y = rw (set-set w.processes p x y)

placed : (w : Worlds) (p : ℕ) (x : W.Process Cpu) → p < length w.processes → process core (with_process w p x) p ≡ x
unfolding with_process process
placed w p x l = get_or-set_same w.processes p x (nobody core) l

handles_again : (q : W.Process Cpu) (hs : List (Option ℕ)) (i : ℕ) (o : Option ℕ) →
    with_handles (with_handles q hs) (set (with_handles q hs).handles i o) ≡ with_handles q (set hs i o)
unfolding with_handles
handles_again q hs i o = refl

-- a pipe that is emptied before or after a place is set
swapped : (w : Worlds) (p j : ℕ) (x : W.Process Cpu) → with_pipe (with_process w p x) j [] ≡ with_process (with_pipe w j []) p x
unfolding with_pipe with_process
swapped w p j x = refl

-- two handles, one after the other
both_handles : (w : Worlds) (p h i : ℕ) (a b : Option ℕ) → p < length w.processes →
    with_handle core (with_handle core w p h a) p i b ≡ with_process w p (with_handles (process core w p) (set (set (process core w p).handles h a) i b))
unfolding with_handle
both_handles w p h i a b l =
    let x : W.Process Cpu = with_handles (process core w p) (set (process core w p).handles h a) in
    ap (λ (q : W.Process Cpu). with_process (with_process w p x) p (with_handles q (set q.handles i b))) (placed w p x l) ∙ twice w p x _
    ∙ ap (with_process w p) (handles_again (process core w p) (set (process core w p).handles h a) i b)

pub tabled_piped : (u : Tables) (w : Worlds) (p : ℕ) (e : PipeEnds) (m : List ℕ) → p < length w.processes →
    Tabled u
    (with_handle core
    (with_handle core
    (with_open (with_open w e.read_open (record { end = ReadEnd e.pipe; at = 0 })) e.write_open (record { end = WriteEnd e.pipe; at = 0 }))
    p e.read_handle (Some e.read_open))
    p e.write_handle (Some e.write_open)) →
    Tabled u (piped w p e m)
unfolding with_open with_pipe process
tabled_piped u w p e m l h =
    let v : Worlds = with_open (with_open w e.read_open (record { end = ReadEnd e.pipe; at = 0 })) e.write_open (record { end = WriteEnd e.pipe; at = 0 }) in
    let q : W.Process Cpu =
    with_handles (process core v p) (set (set (process core v p).handles e.read_handle (Some e.read_open)) e.write_handle (Some e.write_open)) in
    let a : Tabled u (with_process v p q) = subst (Tabled u) (both_handles v p e.read_handle e.write_handle _ _ l) h in
    let b : Tabled u (with_process v p (with_memory q m)) =
    subst (Tabled u) (ap (λ (x : W.Process Cpu). with_process (with_process v p q) p (with_memory x m)) (placed v p q l) ∙ twice v p q (with_memory q m)) (tables_memory u (with_process v p q) p m a) in
    subst (Tabled u) (swapped v p e.pipe (with_memory q m)) (tables_pipe u (with_process v p (with_memory q m)) e.pipe [] b)
