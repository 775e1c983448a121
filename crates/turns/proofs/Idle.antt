-- Rounds in which every place only waits can be left out. Assumes nothing.
use Rattle.std.proofs.Common.{◌≡◌, ℕ, zero, suc, ◌+◌, ◌*◌, ◌/◌, ◌%◌, ◌<◌, ◌≤◌, true, ◌⊎◌, sym, refl, ap, ◌∙◌, subst, inl, inr, ⊎_elim, div-add-mod', arith}
use Rattle.octets.proofs.Tests.{pick_both, pick_true, pick_false}
use Rattle.turns.specs.Core.{Core}
use Rattle.turns.specs.World.{World, Done, process, runs_in, event, run, ticks}
use Rattle.turns.specs.World.{with_turn}
use Rattle.turns.specs.declared.vocabulary.Sizes.{Sizes}
use Rattle.turns.specs.declared.vocabulary.Event.TheVariants.{Tick}
use Rattle.turns.proofs.Step.{Ways}
use Rattle.std.proofs.lemmas.Bool.{ltb-true, ltb-false, cases_Bool}
use Rattle.turns.specs.World.{does, passes, acts, after_call, goes_on, after_turn}
use Rattle.turns.specs.Theorems.{IdleRounds, OnlyWaits}
use Rattle.turns.specs.declared.vocabulary.Outcome.TheVariants.{Answer, Gone, Stays}
use Rattle.turns.proofs.Step.{After, on, gone, stayed, does_by}
use Rattle.turns.proofs.Rows.{run_ticks, ends_with_first}

pub after_turn_is : (places t : ℕ) → ((t + 1 < places) × (after_turn places t ≡ t + 1)) ⊎ ((places ≤ t + 1) × (after_turn places t ≡ 0))
after_turn_is places t = pick_both (λ x. ((t + 1 < places) × (x ≡ t + 1)) ⊎ ((places ≤ t + 1) × (x ≡ 0))) _ _ _ (λ e. inl (ltb-true _ _ e, refl)) (λ e. inr (ltb-false _ _ e, refl))

-- whose turn it is after i turns
unfoldable turns_on : ℕ → ℕ → ℕ → ℕ
turns_on places t zero = t
turns_on places t (suc i) = after_turn places (turns_on places t i)

abbrev OnRound : ℕ → ℕ → ℕ → ℕ → Type 0
OnRound places t i x = ((t + i < places) × (x ≡ t + i)) ⊎ ((places ≤ t + i) × (x + places ≡ t + i))

next_on : (places t i x : ℕ) → t < places → suc i ≤ places → OnRound places t i x →
    ((x + 1 < places) × (after_turn places x ≡ x + 1)) ⊎ ((places ≤ x + 1) × (after_turn places x ≡ 0)) → OnRound places t (suc i) (after_turn places x)
next_on places t i x h k (inl a) (inl b) = inl (omega arith, omega (arith, b))
next_on places t i x h k (inl a) (inr b) = inr (omega arith, omega (arith, b))
next_on places t i x h k (inr a) (inl b) = inr (omega arith, omega (arith, b))
next_on places t i x h k (inr a) (inr b) = absurd (omega arith)

turns_at : (places t i : ℕ) → t < places → i ≤ places → OnRound places t i (turns_on places t i)
unfolding turns_on
turns_at places t zero h k = inl (omega arith, omega arith)
turns_at places t (suc i) h k = next_on places t i (turns_on places t i) h k (turns_at places t i h (omega arith)) (after_turn_is places (turns_on places t i))

round_on : (places t : ℕ) → t < places → turns_on places t places ≡ t
round_on places t h = ⊎_elim (λ (e : (t + places < places) × (turns_on places t places ≡ t + places)). absurd (omega arith)) (λ e. omega (arith, e)) (turns_at places t places h (omega arith))

module _ {Cpu : Type 0} (core : Core Cpu) where
  anything : (z : Sizes) (w : World Cpu) (p : ℕ) → Ways core (λ _. Unit {0}) z w p
  anything z w p =
      record {
        here = tt;
        placed = λ v i q n h. tt;
        opens = λ v k o n h. tt;
        keyed = λ v t n e h. tt;
        left = λ n. tt;
        taken = λ h a j n e l. tt;
        given = λ h a j n e r. tt;
        emptied = λ v e l h. tt;
        shown = λ h t a n e. tt;
        written = λ h f k a n e q l. tt;
        ended = λ h f n e. tt;
      }

  no_answer : (a : ℕ) → Answer a ≡ Stays → ⊥
  no_answer a e = let x : ◌≡◌ {A = ℕ} 0 1 = cc in omega arith

  not_gone : Gone ≡ Stays → ⊥
  not_gone e = let x : ◌≡◌ {A = ℕ} 0 1 = cc in omega arith

  -- a call that stays changes nothing
  pub stays_still : (w : World Cpu) (d : Done Cpu) → After core w (λ _. Unit {0}) d → d.outcome ≡ Stays → d.world ≡ w
  stays_still w _ (on {a = a} h) e = absurd (no_answer a e)
  stays_still w _ (gone h) e = absurd (not_gone e)
  stays_still w _ stayed e = refl

  tick_waits : (z : Sizes) (w : World Cpu) → runs_in core w 0 ≡ true → OnlyWaits core z w → event core z w Tick ≡ passes z w
  unfolding event acts after_call goes_on
  tick_waits z w r (inl h) = pick_true _ _ _ r ∙ pick_false _ _ _ h
  tick_waits z w r (inr (c, i, o)) =
      let s : (does core z w w.turn c).world ≡ w = stays_still w _ (does_by core (λ _. Unit {0}) z w w.turn (anything z w w.turn) c) o in
      pick_true _ _ _ r ∙ pick_both (λ x. x ≡ passes z w) (runs_in core w w.turn) _ _ (λ _. rw (i, o, s)) (λ _. refl)

  -- one place more that only waits
  waits_more : (z : Sizes) (w v : World Cpu) (t : ℕ) → runs_in core w 0 ≡ true → v ≡ with_turn w t 0 → OnlyWaits core z v →
      event core z v Tick ≡ with_turn w (after_turn z.processes t) 0
  unfolding passes with_turn runs_in process
  waits_more z w v t r e o = tick_waits z v (subst (λ (x : World Cpu). runs_in core x 0 ≡ true) (sym e) r) o ∙ ap (passes z) e

  -- after i places that only waited
  waited : (z : Sizes) (w : World Cpu) (i : ℕ) → w.used ≡ 0 → runs_in core w 0 ≡ true → ((k : ℕ) → k < i → OnlyWaits core z (run core z w (ticks k))) →
      run core z w (ticks i) ≡ with_turn w (turns_on z.processes w.turn i) 0
  unfolding run ticks turns_on with_turn
  waited z w zero u r h = rw (← u)
  waited z w (suc i) u r h =
      let n : suc i ≡ i + 1 = omega arith in
      ap (λ k. run core z w (ticks k)) n ∙ run_ticks core z w i 1
      ∙ waits_more z w (run core z w (ticks i)) (turns_on z.processes w.turn i) r (waited z w i u r (λ k l. h k (omega arith))) (h i (omega arith))

  idle_round : (z : Sizes) (w : World Cpu) → w.used ≡ 0 → w.turn < z.processes → ((k : ℕ) → k < z.processes → OnlyWaits core z (run core z w (ticks k))) →
      run core z w (ticks z.processes) ≡ w
  unfolding with_turn
  idle_round z w u l h = ⊎_elim
      (λ (r : runs_in core w 0 ≡ true). waited z w z.processes u r h ∙ ap (λ t. with_turn w t 0) (round_on z.processes w.turn l) ∙ ap (λ n. with_turn w w.turn n) (sym u))
      (λ r. ends_with_first Cpu core z w z.processes r) (cases_Bool (runs_in core w 0))

  -- a round that changes nothing can be left out as often as one likes
  rounds : (z : Sizes) (w : World Cpu) (round q r : ℕ) → run core z w (ticks round) ≡ w → run core z w (ticks (q * round + r)) ≡ run core z w (ticks r)
  rounds z w round zero r h = let e : 0 * round + r ≡ r = omega arith in rw e
  rounds z w round (suc q) r h =
      let e : suc q * round + r ≡ round + (q * round + r) = omega arith in
      rw e (run_ticks core z w round (q * round + r) ∙ ap (λ v. run core z v (ticks (q * round + r))) h ∙ rounds z w round q r h)

pub idle_rounds : (Cpu : Type 0) → IdleRounds Cpu
idle_rounds Cpu core z w u l h =
    let e : run core z w (ticks z.processes) ≡ w = idle_round core z w u l h in
    (e, λ n. ap (λ k. run core z w (ticks k)) (sym (div-add-mod' n z.processes)) ∙ rounds core z w z.processes (n / z.processes) (n % z.processes) e)
