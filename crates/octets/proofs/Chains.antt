-- Chains over a range of numbers, and the search for the lowest place that will do. Assumes nothing.
use Rattle.std.proofs.Common.{◌≡◌, ℕ, zero, suc, ◌+◌, Bool, Some, None, sym, refl, ap, ◌∙◌, ⊎_elim, arith}
use Rattle.std.specs.Prelude.{find, if◌then◌else◌, nat_lt}
use Rattle.std.specs.List.{range_with_len, list_any}
use Rattle.std.proofs.lemmas.Bool.{cases_Bool, lt-ltb, le-ltb}
use Rattle.octets.specs.Rows.{pick, lowest_from, lowest, some}

-- an answer for the numbers behind i, as one for i + 1
behind : {A : Type 0} (f : ℕ → A) (g : ℕ → ℕ → A) (i n : ℕ) → f (suc i) ≡ g (suc i) (suc i + n) → f (i + 1) ≡ g (suc i) (i + suc n)
behind f g i n h = let e : i + 1 ≡ suc i = omega arith in let l : i + suc n ≡ suc i + n = omega arith in rw (e, l) h

-- find over n numbers from i on is the lowest of them at which the test holds, if it holds at one
pub find_range : (test : ℕ → Bool) (i n : ℕ) → find test (range_with_len i n) ≡ (if nat_lt (lowest_from test i n) (i + n) then Some (lowest_from test i n) else None)
unfolding lowest_from pick
find_range test i zero = rw (le-ltb i (i + 0) (omega arith)) refl
find_range test i (suc n) =
    ⊎_elim
    (λ t. rw (t, lt-ltb i (i + suc n) (omega arith)) refl)
    (λ t. rw t (behind (λ k. find test (range_with_len k n)) (λ k m. if nat_lt (lowest_from test k n) m then Some (lowest_from test k n) else None) i n (find_range test (suc i) n)))
    (cases_Bool (test i))

-- any over them: whether it holds at one
pub any_from : (test : ℕ → Bool) (i n : ℕ) → list_any test (range_with_len i n) ≡ nat_lt (lowest_from test i n) (i + n)
unfolding lowest_from pick
any_from test i zero = sym (le-ltb i (i + 0) (omega arith))
any_from test i (suc n) =
    ⊎_elim
    (λ t. rw (t, lt-ltb i (i + suc n) (omega arith)) refl)
    (λ t. rw t (behind (λ k. list_any test (range_with_len k n)) (λ k m. nat_lt (lowest_from test k n) m) i n (any_from test (suc i) n)))
    (cases_Bool (test i))

-- any over the numbers below n
pub any_range : (test : ℕ → Bool) (n : ℕ) → list_any test (range_with_len 0 n) ≡ some test n
any_range test n = any_from test 0 n ∙ ap (nat_lt (lowest test n)) (omega arith)
