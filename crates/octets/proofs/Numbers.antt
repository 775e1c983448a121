-- Numbers put into bytes are read back from them. Assumes nothing.
use Rattle.std.proofs.Common.{◌≡◌, ℕ, zero, suc, ◌+◌, ◌*◌, ◌/◌, ◌%◌, ◌^◌, ◌<◌, ◌≤◌, ◌⊎◌, List, [], ◌∷◌, length, get_or, set, sym, refl, ap, ◌∙◌, inl, inr, div-add-mod', arith, shr-shr}
use Rattle.octets.specs.Rows.{over}
use Rattle.octets.specs.Words.{half_at, word_at, half_bytes, word_bytes}
use Rattle.octets.proofs.Over.{get_or_over_in, get_or_over_out, over_more, over_none}

-- a row of stores, one byte after the other, as one
pub one_set : (xs : List ℕ) (a b : ℕ) → a < length xs → set xs a b ≡ over xs a (b ∷ [])
one_set xs a b h =
    let e : a + 0 ≡ a = omega arith in rw e at (ap (λ t. set t (a + 0) b) (sym (over_none xs a (omega arith))) ∙ over_more xs a [] b (omega arith))

pub two_sets : (xs : List ℕ) (a b c : ℕ) → a + 2 ≤ length xs → set (set xs a b) (a + 1) c ≡ over xs a (b ∷ c ∷ [])
two_sets xs a b c h = ap (λ t. set t (a + 1) c) (one_set xs a b (omega arith)) ∙ over_more xs a (b ∷ []) c (omega arith)

pub four_sets : (xs : List ℕ) (a b c d e : ℕ) → a + 4 ≤ length xs → set (set (set (set xs a b) (a + 1) c) (a + 2) d) (a + 3) e ≡ over xs a (b ∷ c ∷ d ∷ e ∷ [])
four_sets xs a b c d e h =
    ap (λ t. set (set t (a + 2) d) (a + 3) e) (two_sets xs a b c (omega arith)) ∙ ap (λ t. set t (a + 3) e) (over_more xs a (b ∷ c ∷ []) d (omega arith))
    ∙ over_more xs a (b ∷ c ∷ d ∷ []) e (omega arith)

-- a number is its digits to the base 256
digits : (x a b c : ℕ) → a ≡ x / 256 → b ≡ a / 256 → c ≡ b / 256 → c < 256 → x % 256 + a % 256 * 256 + b % 256 * 65536 + c % 256 * 16777216 ≡ x
digits x a b c ea eb ec small =
    let hx = div-add-mod' x 256 in
    let ha = div-add-mod' a 256 in
    let hb = div-add-mod' b 256 in
    let hc : c % 256 ≡ c = omega arith in
    rw hc (omega arith)

pub word_digits : (x : ℕ) → x < 2 ^ 32 → x % 256 + x / 256 % 256 * 256 + x / 65536 % 256 * 65536 + x / 16777216 % 256 * 16777216 ≡ x
word_digits x h = digits x (x / 256) (x / 65536) (x / 16777216) refl (sym (shr-shr x 8 8)) (sym (shr-shr x 16 8)) (omega arith)

first : (xs : List ℕ) (a b : ℕ) (bs : List ℕ) → get_or (over xs a (b ∷ bs)) a 0 ≡ b
first xs a b bs = let e : a + 0 ≡ a = omega arith in rw e at (get_or_over_in xs a (b ∷ bs) 0 0 (omega arith))

pub word_over : (xs : List ℕ) (a x : ℕ) → x < 2 ^ 32 → word_at (over xs a (word_bytes x)) a ≡ x
word_over xs a x h =
    rw (first xs a (x % 256) _, get_or_over_in xs a (word_bytes x) 1 0 (omega arith), get_or_over_in xs a (word_bytes x) 2 0 (omega arith), get_or_over_in xs a (word_bytes x) 3 0 (omega arith)) (word_digits x h)

pub half_over : (xs : List ℕ) (a x : ℕ) → x < 2 ^ 16 → half_at (over xs a (half_bytes x)) a ≡ x
half_over xs a x h = rw (first xs a (x % 256) _, get_or_over_in xs a (half_bytes x) 1 0 (omega arith)) (omega arith)

-- words that lie apart from what was put are as they were
pub word_over_out : (xs : List ℕ) (a : ℕ) (ys : List ℕ) (k : ℕ) → a ≤ length xs → (k + 4 ≤ a) ⊎ (a + length ys ≤ k) → word_at (over xs a ys) k ≡ word_at xs k
word_over_out xs a ys k l h = rw (same k (apart k (omega arith) (omega arith) h), same (k + 1) (apart (k + 1) (omega arith) (omega arith) h), same (k + 2) (apart (k + 2) (omega arith) (omega arith) h), same (k + 3) (apart (k + 3) (omega arith) (omega arith) h))
  where
    same : (j : ℕ) → (j < a) ⊎ (a + length ys ≤ j) → get_or (over xs a ys) j 0 ≡ get_or xs j 0
    same j o = get_or_over_out xs a ys j 0 l o

    apart : (j : ℕ) → k ≤ j → j < k + 4 → (k + 4 ≤ a) ⊎ (a + length ys ≤ k) → (j < a) ⊎ (a + length ys ≤ j)
    apart j s t (inl o) = inl (omega arith)
    apart j s t (inr o) = inr (omega arith)

-- and bytes are the digits of their number
low_digit : (a m : ℕ) → a < 256 → (a + m * 256) % 256 ≡ a
low_digit a m h = omega arith

high_digits : (a m : ℕ) → a < 256 → (a + m * 256) / 256 ≡ m
high_digits a m h = omega arith

pub word_back : (a b c d : ℕ) → a < 256 → b < 256 → c < 256 → d < 256 → word_bytes (a + b * 256 + c * 65536 + d * 16777216) ≡ a ∷ b ∷ c ∷ d ∷ []
word_back a b c d ha hb hc hd =
    let x : a + b * 256 + c * 65536 + d * 16777216 ≡ a + (b + (c + d * 256) * 256) * 256 = omega arith in
    let u : (a + (b + (c + d * 256) * 256) * 256) / 256 ≡ b + (c + d * 256) * 256 = high_digits a (b + (c + d * 256) * 256) ha in
    let v : (a + (b + (c + d * 256) * 256) * 256) / 65536 ≡ c + d * 256 = sym (shr-shr (a + (b + (c + d * 256) * 256) * 256) 8 8) ∙ ap (λ n. n / 256) u ∙ high_digits b (c + d * 256) hb in
    let w : (a + (b + (c + d * 256) * 256) * 256) / 16777216 ≡ d = sym (shr-shr (a + (b + (c + d * 256) * 256) * 256) 16 8) ∙ ap (λ n. n / 256) v ∙ high_digits c d hc in
    let e : (a + (b + (c + d * 256) * 256) * 256) % 256 ≡ a = low_digit a (b + (c + d * 256) * 256) ha in
    let f : (b + (c + d * 256) * 256) % 256 ≡ b = low_digit b (c + d * 256) hb in
    let g : (c + d * 256) % 256 ≡ c = low_digit c d hc in
    let h : d % 256 ≡ d = omega arith in
    rw x (rw (e, u, v, w, f, g, h) refl)

-- a number that stands at a multiple of its size lies in one page
pub aligned_in_page : (size a k : ℕ) → size ≤ 4 → 4096 % size ≡ 0 → a % size ≡ 0 → k < size → a % 4096 + k < 4096
aligned_in_page zero a k few pages aligned h = absurd (omega arith)
aligned_in_page (suc zero) a k few pages aligned h = omega arith
aligned_in_page (suc (suc zero)) a k few pages aligned h = omega arith
aligned_in_page (suc (suc (suc zero))) a k few pages aligned h = absurd (omega arith)
aligned_in_page (suc (suc (suc (suc zero)))) a k few pages aligned h = omega arith
aligned_in_page (suc (suc (suc (suc (suc n))))) a k few pages aligned h = absurd (omega arith)
