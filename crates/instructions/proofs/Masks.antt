-- Joins of bits, as sums.
use Rattle.std.proofs.Common.{◌≡◌, ℕ, ◌+◌, ◌*◌, ◌%◌, ◌^◌, ◌<◌, ap, ◌∙◌, mod-eq_of_lt}
use lib.Bits.{bit_or, or_shifted}

-- a << k | b
pub join : (k a b : ℕ) → a * 2 ^ k < 2 ^ 32 → b < 2 ^ k → bit_or (a * 2 ^ k % 2 ^ 32) b ≡ a * 2 ^ k + b
join k a b h p = ap (λ n. bit_or n b) (mod-eq_of_lt h) ∙ or_shifted a k b p
