-- Whose turn it is. Assumes nothing.
use Rattle.std.proofs.Common.{◌≡◌, ℕ, zero, suc, ◌+◌, ◌-◌, ◌*◌, ◌<◌, ◌≤◌, true, false, ◌⊎◌, List, [], ◌∷◌, take, sym, refl, ap, subst, inl, inr, ⊎_elim, mul-le-mul_right, arith}
use Rattle.octets.proofs.Tests.{pick_both}
use Rattle.turns.specs.Core.{Core}
use Rattle.turns.specs.World.{World, process, runs_in, event, run}
use Rattle.turns.specs.World.{with_process, with_processes, with_open, with_pipe, with_file, with_keys, with_shown, with_turn, into_memory, orphaned, leaves}
use Rattle.turns.specs.declared.vocabulary.Sizes.{Sizes}
use Rattle.turns.specs.declared.vocabulary.Event.{Event}
use Rattle.turns.specs.declared.vocabulary.Event.TheVariants.{Tick, Key}
use Rattle.turns.proofs.Step.{Ways, tick_by, key_by, run_by, comes_by}
use Rattle.std.proofs.lemmas.Bool.{ltb-true, both_ways, cases_lt, cases_Bool}
use Rattle.turns.specs.World.{passes, spends, after_turn, begin}
use Rattle.turns.specs.Theorems.{Comes, TurnComes, count_ticks}
use Rattle.turns.proofs.Rows.{tick_stopped}
use Rattle.turns.proofs.Idle.{after_turn_is}

module _ {Cpu : Type 0} (core : Core Cpu) where
  -- a world whose turn is as in another
  abbrev Still : World Cpu → World Cpu → Type 0
  Still w v = (v.turn ≡ w.turn) × (v.used ≡ w.used)

  ways : (z : Sizes) (w : World Cpu) (p : ℕ) → Ways core (Still w) z w p
  unfolding with_process with_processes with_open with_pipe with_file with_keys with_shown into_memory leaves orphaned
  ways z w p =
      record {
        here = (refl, refl);
        placed = λ v i q n h. h;
        opens = λ v k o n h. h;
        keyed = λ v t n e h. h;
        left = λ n. (refl, refl);
        taken = λ h a j n e l. (refl, refl);
        given = λ h a j n e r. (refl, refl);
        emptied = λ v e l h. h;
        shown = λ h t a n e. (refl, refl);
        written = λ h f k a n e q l. (refl, refl);
        ended = λ h f n e. (refl, refl);
      }

  -- the turn goes on, or comes to the next place
  abbrev pub Turned : Sizes → World Cpu → World Cpu → Type 0
  Turned z w v = ((v.turn ≡ w.turn) × (v.used ≡ suc w.used) × (suc w.used < z.turn)) ⊎ ((v.turn ≡ after_turn z.processes w.turn) × (v.used ≡ 0))

  spends_turn : (z : Sizes) (w v : World Cpu) → Still w v → Turned z w (spends z v)
  unfolding spends passes with_turn
  spends_turn z w v h = pick_both (Turned z w) _ _ _ (λ e. inl (h.0, ap suc h.1, omega (arith, ltb-true _ _ e, h.1))) (λ _. inr (ap (after_turn z.processes) h.0, refl))

  tick_turn : (z : Sizes) (w : World Cpu) → runs_in core w 0 ≡ true → Turned z w (event core z w Tick)
  unfolding passes with_turn
  tick_turn z w r = tick_by core (Still w) (Turned z w) z w (λ _ _. ways z w w.turn) (spends_turn z w) (λ _. inr (refl, refl)) (λ e. absurd (both_ways _ e r))

  key_still : (z : Sizes) (w : World Cpu) (t b : ℕ) → Still w (event core z w (Key t b))
  unfolding with_keys
  key_still z w t b = key_by core (Still w) z w t b (refl, refl) (λ _ _. (refl, refl))

  -- once process 0 does not run it never will again
  stopped_more : (z : Sizes) (w : World Cpu) (e : Event) → runs_in core w 0 ≡ false → runs_in core (event core z w e) 0 ≡ false
  unfolding runs_in process with_keys
  stopped_more z w Tick h = subst (λ (v : World Cpu). runs_in core v 0 ≡ false) (sym (tick_stopped core z w h)) h
  stopped_more z w (Key t b) h = key_by core (λ v. runs_in core v 0 ≡ false) z w t b h (λ _ _. h)

  ran : (z : Sizes) (w : World Cpu) (es : List Event) → runs_in core (run core z w es) 0 ≡ true → runs_in core w 0 ≡ true
  ran z w es r =
      ⊎_elim (λ (e : runs_in core w 0 ≡ true). e) (λ e. absurd (both_ways _ (run_by core (λ v. runs_in core v 0 ≡ false) z (stopped_more z) w es e) r)) (cases_Bool (runs_in core w 0))

  abbrev pub InTurn : Sizes → World Cpu → Type 0
  InTurn z w = (w.turn < z.processes) × (w.used < z.turn)

  turned_in : (z : Sizes) (w v : World Cpu) → InTurn z w → Turned z w v → InTurn z v
  turned_in z w v h (inl t) = omega arith
  turned_in z w v h (inr t) = omega (arith, after_turn_is z.processes w.turn)

  pub event_in : (z : Sizes) (w : World Cpu) (e : Event) → InTurn z w → InTurn z (event core z w e)
  event_in z w Tick h = ⊎_elim (λ (r : runs_in core w 0 ≡ true). turned_in z w (event core z w Tick) h (tick_turn z w r)) (λ r. subst (InTurn z) (sym (tick_stopped core z w r)) h) (cases_Bool (runs_in core w 0))
  event_in z w (Key t b) h = let k = key_still z w t b in omega (arith, h, k)

  pub in_turn : (z : Sizes) (w : World Cpu) → Comes core z w → InTurn z w
  unfolding begin
  in_turn z w c = comes_by core (InTurn z) z (λ fs f. (f.sizes.processes.0, f.sizes.turn.0)) (event_in z) w c

  -- the turn of place p is d places away
  abbrev Away : Sizes → ℕ → ℕ → World Cpu → Type 0
  Away z p d w = (w.turn + d ≡ p) ⊎ (w.turn + d ≡ p + z.processes)

  -- in these events, within m ticks, it is the turn of place p
  abbrev Reached : Sizes → ℕ → ℕ → World Cpu → List Event → Type 0
  Reached z p m w es = (n : ℕ) × (count_ticks (take n es) ≤ m) × ((run core z w (take n es)).turn ≡ p)

  there : (z : Sizes) (p m : ℕ) (w : World Cpu) (es : List Event) → InTurn z w → Away z p 0 w → Reached z p m w es
  unfolding run count_ticks
  there z p m w es i (inl e) = (0, omega arith, omega arith)
  there z p m w es i (inr e) = (0, omega arith, omega arith)

  nearer : (z : Sizes) (p d : ℕ) (w v : World Cpu) → p < z.processes → InTurn z w → Away z p (suc d) w → v.turn ≡ after_turn z.processes w.turn → Away z p d v
  nearer z p d w v hp i a e = go (after_turn_is z.processes w.turn) a
    where
      go : ((w.turn + 1 < z.processes) × (after_turn z.processes w.turn ≡ w.turn + 1)) ⊎ ((z.processes ≤ w.turn + 1) × (after_turn z.processes w.turn ≡ 0)) →
          (w.turn + suc d ≡ p) ⊎ (w.turn + suc d ≡ p + z.processes) → (v.turn + d ≡ p) ⊎ (v.turn + d ≡ p + z.processes)
      go (inl x) (inl y) = inl (omega arith)
      go (inl x) (inr y) = inr (omega arith)
      go (inr x) (inl y) = inl (omega arith)
      go (inr x) (inr y) = inl (omega arith)

  as_far : (z : Sizes) (p d : ℕ) (w v : World Cpu) → Away z p d w → v.turn ≡ w.turn → Away z p d v
  as_far z p d w v a e = rw e a

  later_tick : (z : Sizes) (p m : ℕ) (w : World Cpu) (es : List Event) → Reached z p m (event core z w Tick) es → Reached z p (suc m) w (Tick ∷ es)
  unfolding run count_ticks
  later_tick z p m w es h = (suc h.0, omega (arith, h.1), h.2)

  later_key : (z : Sizes) (p m t b : ℕ) (w : World Cpu) (es : List Event) → Reached z p m (event core z w (Key t b)) es → Reached z p m w (Key t b ∷ es)
  unfolding run count_ticks
  later_key z p m t b w es h = (suc h.0, h.1, h.2)

  one_tick : (z : Sizes) (p m d : ℕ) (w v : World Cpu) (es : List Event) → p < z.processes → InTurn z w → Away z p (suc d) w → suc d * z.turn ≤ suc m + w.used → Turned z w v →
      ((k : ℕ) → Away z p k v → k * z.turn ≤ m + v.used → Reached z p m v es) → Reached z p m v es
  one_tick z p m d w v es hp i a far (inl t) rec = rec (suc d) (as_far z p (suc d) w v a t.0) (omega arith)
  one_tick z p m d w v es hp i a far (inr t) rec = rec d (nearer z p d w v hp i a t.0) (omega arith)

  reach : (z : Sizes) (p : ℕ) → p < z.processes → (es : List Event) (m d : ℕ) (w : World Cpu) → InTurn z w → Away z p d w → d * z.turn ≤ m + w.used →
      m ≤ count_ticks es → runs_in core (run core z w es) 0 ≡ true → Reached z p m w es
  unfolding run count_ticks
  reach z p hp es m zero w i a far l r = there z p m w es i a
  reach z p hp es zero (suc d) w i a far l r = absurd (omega arith)
  reach z p hp [] (suc m) (suc d) w i a far l r = absurd (omega arith)
  reach z p hp (Tick ∷ es) (suc m) (suc d) w i a far l r =
      later_tick z p m w es (one_tick z p m d w (event core z w Tick) es hp i a far (tick_turn z w (ran z w (Tick ∷ es) r))
      (λ k b c. reach z p hp es m k (event core z w Tick) (event_in z w Tick i) b c (omega arith) r))
  reach z p hp (Key t b ∷ es) (suc m) (suc d) w i a far l r =
      let s = key_still z w t b in
      later_key z p (suc m) t b w es (reach z p hp es (suc m) (suc d) (event core z w (Key t b)) (event_in z w (Key t b) i) (as_far z p (suc d) w (event core z w (Key t b)) a s.0) (omega (arith, far, s.1)) l r)

  -- after a tick each place is near enough for the rest of the ticks
  next_away : (z : Sizes) (p N : ℕ) (v : World Cpu) → p < z.processes → InTurn z v → z.processes * z.turn ≡ suc N → (d : ℕ) × (d * z.turn ≤ N + v.used) × Away z p d v
  next_away z p N v hp i q = elim (cases_lt p v.turn) [
    | inl h ↦ (p + z.processes - v.turn, near (p + z.processes - v.turn) (omega arith), inr (omega arith))
    | inr h ↦ (p - v.turn, near (p - v.turn) (omega arith), inl (omega arith))
  ]
    where
      near : (d : ℕ) → suc d ≤ z.processes → d * z.turn ≤ N + v.used
      near d h = omega (arith, mul-le-mul_right z.turn h)

  abbrev Again : Sizes → ℕ → ℕ → World Cpu → List Event → Type 0
  Again z p m w es = (n : ℕ) × (1 ≤ count_ticks (take n es)) × (count_ticks (take n es) ≤ m) × ((run core z w (take n es)).turn ≡ p)

  again : (z : Sizes) (p N : ℕ) → p < z.processes → z.processes * z.turn ≡ suc N → (es : List Event) (w : World Cpu) → InTurn z w → suc N ≤ count_ticks es →
      runs_in core (run core z w es) 0 ≡ true → Again z p (suc N) w es
  unfolding run count_ticks
  again z p N hp q [] w i l r = absurd (omega arith)
  again z p N hp q (Key t b ∷ es) w i l r = let h = again z p N hp q es (event core z w (Key t b)) (event_in z w (Key t b) i) l r in (suc h.0, h.1, h.2, h.3)
  again z p N hp q (Tick ∷ es) w i l r =
      let v : World Cpu = event core z w Tick in
      let j : InTurn z v = event_in z w Tick i in
      let a : (d : ℕ) × (d * z.turn ≤ N + v.used) × Away z p d v = next_away z p N v hp j q in
      let h : Reached z p N v es = reach z p hp es N a.0 v j a.2 a.1 (omega arith) r in
      (suc h.0, omega arith, omega (arith, h.1), h.2)

pub turn_comes : (Cpu : Type 0) → TurnComes Cpu
turn_comes Cpu core z w p es c hp l r = go (z.processes * z.turn) refl l
  where
    go : (m : ℕ) → z.processes * z.turn ≡ m → m ≤ count_ticks es → Again core z p m w es
    go zero q l = let i = in_turn core z w c in absurd (omega (arith, i, mul-le-mul_right z.turn hp))
    go (suc N) q l = again core z p N hp q es w (in_turn core z w c) l r
