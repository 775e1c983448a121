-- What the lowest place is. Assumes nothing.
use Rattle.std.proofs.Common.{◌≡◌, ℕ, zero, suc, ◌+◌, ◌-◌, ◌<◌, ◌≤◌, Bool, true, false, ◌⊎◌, ap, ◌∙◌, inl, inr, ⊎_elim, arith}
use Rattle.std.proofs.lemmas.Bool.{cases_eq, ltb-false, both_ways, cases_Bool}
use Rattle.octets.specs.Rows.{lowest_from, lowest, some}
use Rattle.octets.proofs.Tests.{pick_both, pick_true, pick_false}

pub lowest_from_le : (test : ℕ → Bool) (i n : ℕ) → lowest_from test i n ≤ i + n
unfolding lowest_from
lowest_from_le test i zero = omega arith
lowest_from_le test i (suc n) = pick_both (λ x. x ≤ i + suc n) _ _ _ (λ _. omega arith) (λ _. omega (arith, lowest_from_le test (suc i) n))

pub lowest_from_ge : (test : ℕ → Bool) (i n : ℕ) → i ≤ lowest_from test i n
unfolding lowest_from
lowest_from_ge test i zero = omega arith
lowest_from_ge test i (suc n) = pick_both (λ x. i ≤ x) _ _ _ (λ _. omega arith) (λ _. omega (arith, lowest_from_ge test (suc i) n))

-- at the lowest place the test holds
pub lowest_from_holds : (test : ℕ → Bool) (i n : ℕ) → lowest_from test i n < i + n → test (lowest_from test i n) ≡ true
unfolding lowest_from
lowest_from_holds test i zero = λ h. absurd (omega arith)
lowest_from_holds test i (suc n) = pick_both (λ x. x < i + suc n → test x ≡ true) _ _ _ (λ e _. e) (λ _ h. lowest_from_holds test (suc i) n (omega arith))

-- and below it nowhere
pub lowest_from_below : (test : ℕ → Bool) (i n k : ℕ) → i ≤ k → k < lowest_from test i n → test k ≡ false
unfolding lowest_from
lowest_from_below test i zero k l = λ h. absurd (omega arith)
lowest_from_below test i (suc n) k l =
    pick_both (λ x. k < x → test k ≡ false) _ _ _ (λ _ h. absurd (omega arith)) (λ e h. ⊎_elim (λ (q : k ≡ i). rw q e) (λ q. lowest_from_below test (suc i) n k (omega arith) h) (cases_eq k i))

pub lowest_le : (test : ℕ → Bool) (n : ℕ) → lowest test n ≤ n
lowest_le test n = omega (arith, lowest_from_le test 0 n)

pub lowest_holds : (test : ℕ → Bool) (n : ℕ) → lowest test n < n → test (lowest test n) ≡ true
lowest_holds test n h = lowest_from_holds test 0 n (omega arith)

pub lowest_below : (test : ℕ → Bool) (n k : ℕ) → k < lowest test n → test k ≡ false
lowest_below test n k h = lowest_from_below test 0 n k (omega arith) h

-- where the test holds below n, so it does somewhere
pub some_at : (test : ℕ → Bool) (n k : ℕ) → k < n → test k ≡ true → some test n ≡ true
some_at test n k h t = go (cases_Bool (some test n))
  where
    go : (some test n ≡ true) ⊎ (some test n ≡ false) → some test n ≡ true
    go (inl e) = e
    go (inr e) = absurd (both_ways (test k) (lowest_below test n k (omega (arith, ltb-false _ _ e))) t)

-- where the test holds nowhere below n, not even somewhere
pub some_none : (test : ℕ → Bool) (n k : ℕ) → k < n → some test n ≡ false → test k ≡ false
some_none test n k h e = lowest_below test n k (omega (arith, ltb-false _ _ e))

-- a search, place by place: here; not here, so behind; nowhere
lowest_first : (test : ℕ → Bool) (i m : ℕ) → 0 < m → test i ≡ true → lowest_from test i m ≡ i
unfolding lowest_from
lowest_first test i zero l t = absurd (omega arith)
lowest_first test i (suc m) l t = pick_true _ _ _ t

lowest_later : (test : ℕ → Bool) (i m k : ℕ) → m ≡ suc k → test i ≡ false → lowest_from test i m ≡ lowest_from test (suc i) k
unfolding lowest_from
lowest_later test i m k e t = rw e (pick_false _ _ _ t)

pub lowest_here : (test : ℕ → Bool) (i n : ℕ) → i < n → test i ≡ true → lowest_from test i (n - i) ≡ i
lowest_here test i n h t = lowest_first test i (n - i) (omega arith) t

pub lowest_next : (test : ℕ → Bool) (i n : ℕ) → i < n → test i ≡ false → lowest_from test i (n - i) ≡ lowest_from test (i + 1) (n - (i + 1))
lowest_next test i n h t =
    let e : suc i ≡ i + 1 = omega arith in lowest_later test i (n - i) (n - (i + 1)) (omega arith) t ∙ ap (λ k. lowest_from test k (n - (i + 1))) e

pub lowest_end : (test : ℕ → Bool) (i n : ℕ) → n ≤ i → lowest_from test i (n - i) ≡ i
unfolding lowest_from
lowest_end test i n h = let e : n - i ≡ 0 = omega arith in rw e
