-- Rows of events: in parts, tick by tick, and what is sure after them. Assumes nothing.
use Rattle.std.proofs.Common.{◌≡◌, ℕ, zero, suc, ◌+◌, ◌≤◌, false, List, [], ◌∷◌, ◌++◌, length, refl, ap, ◌∙◌, arith}
use Rattle.octets.specs.Rows.{pick}
use Rattle.octets.proofs.Tests.{pick_both, pick_false}
use Rattle.turns.specs.Core.{Core}
use Rattle.turns.specs.World.{World, runs_in, event, run, ticks}
use Rattle.turns.specs.declared.vocabulary.Sizes.{Sizes}
use Rattle.turns.specs.declared.vocabulary.Event.{Event}
use Rattle.turns.specs.declared.vocabulary.Event.TheVariants.{Tick}
use Rattle.turns.specs.Happens.{saves, sure_after, sure}
use Rattle.turns.specs.Theorems.{InParts, TickByTick, EndsWithFirst, SureIsPast, repeated}

module _ {Cpu : Type 0} (core : Core Cpu) where
  pub run_append : (z : Sizes) (w : World Cpu) (es fs : List Event) → run core z w (es ++ fs) ≡ run core z (run core z w es) fs
  unfolding run
  run_append z w [] fs = refl
  run_append z w (e ∷ es) fs = run_append z (event core z w e) es fs

  pub run_ticks : (z : Sizes) (w : World Cpu) (m n : ℕ) → run core z w (ticks (m + n)) ≡ run core z (run core z w (ticks m)) (ticks n)
  unfolding run ticks
  run_ticks z w zero n = let e : 0 + n ≡ n = omega arith in rw e
  run_ticks z w (suc m) n = let e : suc m + n ≡ suc (m + n) = omega arith in rw e (run_ticks z (event core z w Tick) m n)

  repeats : (z : Sizes) (w : World Cpu) (n : ℕ) → run core z w (ticks n) ≡ repeated n (λ v. event core z v Tick) w
  unfolding run ticks repeated
  repeats z w zero = refl
  repeats z w (suc n) = repeats z (event core z w Tick) n

  -- without process 0 a tick does nothing
  pub tick_stopped : (z : Sizes) (w : World Cpu) → runs_in core w 0 ≡ false → event core z w Tick ≡ w
  unfolding event
  tick_stopped z w h = pick_false _ _ _ h

  stopped : (z : Sizes) (w : World Cpu) (n : ℕ) → runs_in core w 0 ≡ false → run core z w (ticks n) ≡ w
  unfolding run ticks
  stopped z w zero h = refl
  stopped z w (suc n) h = ap (λ v. run core z v (ticks n)) (tick_stopped z w h) ∙ stopped z w n h

  sure_bound : (z : Sizes) (w : World Cpu) (n s : ℕ) (es : List Event) → s ≤ n → sure_after core z w n s es ≤ n + length es
  unfolding sure_after
  sure_bound z w n s [] h = omega arith
  sure_bound z w n s (e ∷ es) h =
      omega (arith, sure_bound z (event core z w e) (suc n) _ es (pick_both (λ x. x ≤ suc n) (saves core w e) (suc n) s (λ _. omega arith) (λ _. omega arith)))

  -- one event more: it saves, and then all is sure, or what was sure stays so
  sure_after_more : (z : Sizes) (w : World Cpu) (n s : ℕ) (es : List Event) (e : Event) →
      sure_after core z w n s (es ++ e ∷ []) ≡ pick (saves core (run core z w es) e) (suc (n + length es)) (sure_after core z w n s es)
  unfolding sure_after run
  sure_after_more z w n s [] e = let q : n + 0 ≡ n = omega arith in rw q
  sure_after_more z w n s (x ∷ es) e = let q : n + suc (length es) ≡ suc n + length es = omega arith in rw q (sure_after_more z (event core z w x) (suc n) _ es e)

  pub sure_more : (z : Sizes) (w : World Cpu) (es : List Event) (e : Event) → sure core z w (es ++ e ∷ []) ≡ pick (saves core (run core z w es) e) (suc (length es)) (sure core z w es)
  unfolding sure
  sure_more z w es e = let q : 0 + length es ≡ length es = omega arith in rw q at (sure_after_more z w 0 0 es e)

pub in_parts : (Cpu : Type 0) → InParts Cpu
in_parts Cpu core z w es fs = run_append core z w es fs

pub tick_by_tick : (Cpu : Type 0) → TickByTick Cpu
tick_by_tick Cpu core z w n = repeats core z w n

pub ends_with_first : (Cpu : Type 0) → EndsWithFirst Cpu
ends_with_first Cpu core z w n h = stopped core z w n h

pub sure_is_past : (Cpu : Type 0) → SureIsPast Cpu
unfolding sure
sure_is_past Cpu core z w es = omega (arith, sure_bound core z w 0 0 es (omega arith))
