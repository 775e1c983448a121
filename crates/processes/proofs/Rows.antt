-- Searches by tests that agree. Assumes nothing.
use Rattle.std.proofs.Common.{◌≡◌, ℕ, zero, suc, Bool, ltb, refl, ap}
use Rattle.octets.specs.Rows.{lowest_from, some}

-- tests that agree find the same place
pub lowest_same : (f g : ℕ → Bool) (i n : ℕ) → ((k : ℕ) → f k ≡ g k) → lowest_from f i n ≡ lowest_from g i n
unfolding lowest_from
lowest_same f g i zero h = refl
lowest_same f g i (suc n) h = rw (h i, lowest_same f g (suc i) n h)

pub some_same : (f g : ℕ → Bool) (n : ℕ) → ((k : ℕ) → f k ≡ g k) → some f n ≡ some g n
some_same f g n h = ap (λ k. ltb k n) (lowest_same f g 0 n h)
