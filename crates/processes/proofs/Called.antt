-- What the calls of the tables come to. Assumes nothing.
use Rattle.std.specs.Prelude.{is_none, if◌then◌else◌}
use Rattle.std.proofs.Common.{◌≡◌, ℕ, suc, ◌+◌, ◌*◌, ◌<◌, ◌≤◌, Bool, true, false, not, ◌||◌, eqb, Some, None, sym, refl, ap, ◌∙◌, subst, ⊎_elim, arith}
use Rattle.std.proofs.lemmas.Bool.{cases_Bool, both_ways, eqb-true, lt-ltb, le-ltb, lt-leb, le-leb}
use Rattle.std.proofs.lemmas.List.{get_or_past}
use Rattle.octets.specs.Rows.{some}
use Rattle.octets.proofs.Tests.{pick_true, pick_false}
use Rattle.turns.specs.World.{is_left, is_running, Done, process, nobody, with_process, waits, left_child, left_with, is_child, turned_down, answers, stays, no, handle_of, with_handle, closes, copies, opens, forks, free_process, named, is_nothing, free_open, free_handle, with_open}
use Rattle.turns.specs.declared.vocabulary.End.{End}
use Rattle.turns.specs.declared.vocabulary.End.TheVariants.{Nothing}
use Rattle.turns.specs.declared.vocabulary.Outcome.TheVariants.{Answer, Stays}
use Rattle.turns.specs.declared.vocabulary.State.{State}
use Rattle.turns.specs.declared.vocabulary.State.TheVariants.{Free, Runs, Left}
use Rattle.turns.specs.declared.vocabulary.Sizes.{Sizes}
use Rattle.rv32.specs.declared.cpu.Cpu.{Cpu}
use Rattle.rv32.specs.Act.{core}
use Rattle.processes.specs.Tabled.{Worlds, Tabled, Came, RunsAt, place}
use Rattle.processes.specs.Changes.{child}
use Rattle.processes.specs.Looking.{one_of}
use Rattle.processes.proofs.Seeing.{none_of, some_of, open_first, handle_first, children_are, left_is}
use Rattle.processes.specs.declared.Tables.{Tables}

pub or_true : (b : Bool) → (b || true) ≡ true
or_true true = refl
or_true false = refl

-- a call that is turned down, one that stays, and one that has an answer
module _ (t : Tables) (d : Done Cpu) where
  pub down : (w : Worlds) → Tabled t w → turned_down w ≡ d → Came t (Answer no) d
  down w h e = subst (Came t (Answer no)) e (record { outcome = refl; tabled = h })

  pub waiting : (w : Worlds) → Tabled t w → stays w ≡ d → Came t Stays d
  waiting w h e = subst (Came t Stays) e (record { outcome = refl; tabled = h })

  pub answered : (v : Worlds) (a b : ℕ) → Tabled t v → a ≡ b → answers v b ≡ d → Came t (Answer a) d
  answered v a b h q e = subst (Came t (Answer a)) e (record { outcome = ap Answer q; tabled = h })

module _ (z : Sizes) (w : Worlds) (p : ℕ) where
  pub forks_none : None ≡ one_of z.processes (free_process core z w) → turned_down w ≡ forks core z w p
  unfolding forks
  forks_none e = sym (pick_true _ _ _ (le-leb _ _ (none_of _ _ e)))

  pub forks_one : (q : ℕ) → Some q ≡ one_of z.processes (free_process core z w) → answers (with_process w q (child w p)) (suc q) ≡ forks core z w p
  unfolding forks
  forks_one q e = let s = some_of _ _ _ e in rw (← s.0) (sym (pick_false _ _ _ (lt-leb _ _ s.1)))

  pub waits_alone : false ≡ some (is_child core w p) z.processes → turned_down w ≡ waits core z w p
  unfolding waits
  waits_alone e = sym (pick_true _ _ _ (ap not (sym e)))

  pub waits_on : true ≡ some (is_child core w p) z.processes → None ≡ one_of z.processes (left_child core z w p) → stays w ≡ waits core z w p
  unfolding waits
  waits_on e f = sym (pick_false _ _ _ (ap not (sym e)) ∙ pick_false _ _ _ (le-ltb _ _ (none_of _ _ f)))

  pub waits_over : (i : ℕ) → true ≡ some (is_child core w p) z.processes → Some i ≡ one_of z.processes (left_child core z w p) →
      answers (with_process w i (nobody core)) (left_with (process core w i).state * 256 + suc i) ≡ waits core z w p
  unfolding waits
  waits_over i e f = let s = some_of _ _ _ f in rw (← s.0) (sym (pick_false _ _ _ (ap not (sym e)) ∙ pick_true _ _ _ (lt-ltb _ _ s.1)))

left_rests : (s : State) → is_left s ≡ true → is_running s ≡ false
unfolding is_left is_running
left_rests Free e = refl
left_rests Runs e = absurd (both_ways false refl e)
left_rests (Left n) e = refl

-- a place that becomes free after a process has left it: nobody more and nobody less runs
pub reaped_rests : (t : Tables) (i q : ℕ) → is_left (place t i).state ≡ true → is_running (if eqb q i then Free else (place t q).state) ≡ is_running (place t q).state
unfolding is_running
reaped_rests t i q l =
    ⊎_elim
    (λ e. rw e (sym (ap (λ k. is_running (place t k).state) (eqb-true q i e) ∙ left_rests (place t i).state l)))
    (λ e. rw e refl)
    (cases_Bool (eqb q i))

-- HANDLES

-- no handle of a running process is past the last
pub past_none : (t : Tables) (w : Worlds) (p h : ℕ) → Tabled t w → RunsAt t p → t.sizes.handles ≤ h → is_none (handle_of core w p h) ≡ true
unfolding handle_of
past_none t w p h e r l = ap is_none (get_or_past (process core w p).handles h None (omega (arith, (e.each p).count r.1)))

module _ (w : Worlds) (p h : ℕ) where
  pub closes_none : is_none (handle_of core w p h) ≡ true → turned_down w ≡ closes core w p h
  unfolding closes
  closes_none e = sym (pick_true _ _ _ e)

  pub closes_one : is_none (handle_of core w p h) ≡ false → answers (with_handle core w p h None) 0 ≡ closes core w p h
  unfolding closes
  closes_one e = sym (pick_false _ _ _ e)

  pub copies_none : (z : Sizes) (g : ℕ) → is_none (handle_of core w p h) ≡ true → turned_down w ≡ copies core z w p h g
  unfolding copies
  copies_none z g e = sym (pick_true _ _ _ (rw e))

  pub copies_past : (z : Sizes) (g : ℕ) → z.handles ≤ g → turned_down w ≡ copies core z w p h g
  unfolding copies
  copies_past z g l = sym (pick_true _ _ _ (ap (λ b. is_none (handle_of core w p h) || b) (le-leb _ _ l) ∙ or_true _))

  pub copies_one : (z : Sizes) (g : ℕ) → is_none (handle_of core w p h) ≡ false → g < z.handles → answers (with_handle core w p g (handle_of core w p h)) g ≡ copies core z w p h g
  unfolding copies
  copies_one z g e l = sym (pick_false _ _ _ (rw (e, lt-leb _ _ l)))

-- OPEN

module _ (z : Sizes) (w : Worlds) (p f : ℕ) where
  pub opens_none : Nothing ≡ named z w f → turned_down w ≡ opens core z w p f
  unfolding opens is_nothing
  opens_none n = sym (pick_true _ _ _ (rw (← n) refl))

  pub opens_full : None ≡ one_of z.opens (free_open core z w) → turned_down w ≡ opens core z w p f
  unfolding opens
  opens_full a = sym (pick_true _ _ _ (rw (le-leb _ _ (none_of _ _ a)) (or_true _)))

  pub opens_held : None ≡ one_of z.handles (free_handle z (process core w p)) → turned_down w ≡ opens core z w p f
  unfolding opens
  opens_held a = sym (pick_true _ _ _ (rw (le-leb _ _ (none_of _ _ a)) (ap (λ b. is_nothing (named z w f) || b) (or_true _) ∙ or_true _)))

  pub opens_one : (e : End) (k h : ℕ) → e ≡ named z w f → false ≡ is_nothing e → Some k ≡ one_of z.opens (free_open core z w) → Some h ≡ one_of z.handles (free_handle z (process core w p)) →
      answers (with_handle core (with_open w k (record { end = e; at = 0 })) p h (Some k)) h ≡ opens core z w p f
  unfolding opens
  opens_one e k h n t a b =
      let l = some_of _ _ _ a in let m = some_of _ _ _ b in rw (← n, ← l.0, ← m.0) (sym (pick_false _ _ _ (rw (← t, lt-leb _ _ l.1, lt-leb _ _ m.1))))

-- for grind, at the calls
pub ruleset calls = (down, waiting, answered, forks_none, forks_one, waits_alone, waits_on, waits_over, reaped_rests, closes_none, closes_one, copies_none, copies_past, copies_one, opens_none, opens_full, opens_held, opens_one, open_first, handle_first, children_are, left_is)
