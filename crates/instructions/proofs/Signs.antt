-- A number of n bits in two's complement, shifted to the top of a word and back.
use Rattle.std.proofs.Common.{◌≡◌, ℕ, suc, ◌+◌, ◌-◌, ◌*◌, ◌/◌, ◌%◌, ◌^◌, ◌<◌, ◌≤◌, Bool, true, false, ℤ, pos, negsuc, ◌-ℤ◌, sym, refl, ap, ◌∙◌, mod-eq_of_lt, arith, w32, to_z, of_z, if◌then◌else◌, nat_lt}
use Rattle.std.proofs.lemmas.Bool.{ltb-true, ltb-false}
use Rattle.std.proofs.lemmas.Nat.{div-mul-add, mul-add-lt, pow-add, pow_pos}
use Rattle.std.proofs.lemmas.Int.{ints, to_z_pos, of_z-to_z}
use Rattle.std.proofs.Math.Facts.{to_z-neg}
use Rattle.std.proofs.Math.Nat.{mul-lt-mul_of_pos_right, pow-le-pow_right}
use lib.Signed.{shr_z}
use Rattle.instructions.specs.Fields.{signed_of}

up_and_down : (p h x : ℕ) → 0 < p → p * h ≡ 2147483648 → x < h → shr_z (to_z w32 (x * p)) p ≡ pos x
up_and_down p h x q e l =
    let m : x * p + 0 < p * h = mul-add-lt x p 0 h l q in
    let a : x * p ≡ x * p + 0 = omega arith in
    ap (λ z. shr_z z p) (to_z_pos w32 (x * p) (omega arith)) ∙ ap pos (ap (λ n. n / p) a ∙ div-mul-add x p 0 q)

up_and_down_neg : (p h x d : ℕ) → 0 < p → p * h ≡ 2147483648 → x + d + 1 ≡ 2 * h → d < h → shr_z (to_z w32 (x * p)) p ≡ negsuc d
up_and_down_neg p h x d q e f l =
    let m : d * p + (p - 1) < p * h = mul-add-lt d p (p - 1) h l (omega arith) in
    let s : x * p ≡ 4294967296 - suc (d * p + (p - 1)) = omega (arith, ap (λ t. t * p) f) in
    ap (λ n. shr_z (to_z w32 n) p) s ∙ ap (λ z. shr_z z p) (to_z-neg w32 (d * p + (p - 1)) (omega arith)) ∙ ap negsuc (div-mul-add d p (p - 1) (omega arith))

halves : (n : ℕ) → 0 < n → n ≤ 32 → 2 ^ (32 - n) * 2 ^ (n - 1) ≡ 2147483648
halves n z m =
    let e : 32 - n + (n - 1) ≡ 31 = omega arith in
    sym (pow-add 2 (32 - n) (n - 1)) ∙ ap (λ k. 2 ^ k) e

full : (n : ℕ) → n ≤ 32 → 2 ^ n * 2 ^ (32 - n) ≡ 4294967296
full n m =
    let e : n + (32 - n) ≡ 32 = omega arith in
    sym (pow-add 2 n (32 - n)) ∙ ap (λ k. 2 ^ k) e

twice : (n : ℕ) → 0 < n → 2 ^ n ≡ 2 * 2 ^ (n - 1)
twice n z =
    let e : n ≡ 1 + (n - 1) = omega arith in
    ap (λ k. 2 ^ k) e ∙ pow-add 2 1 (n - 1)

by_size : (p h x : ℕ) (t : Bool) → nat_lt x h ≡ t → 0 < p → p * h ≡ 2147483648 → x < 2 * h → shr_z (to_z w32 (x * p)) p ≡ (if t then pos x else pos x -ℤ pos (2 * h))
by_size p h x true t q e l = up_and_down p h x q e (ltb-true x h t)
by_size p h x false t q e l =
    let k : h ≤ x = ltb-false x h t in
    let d : negsuc (2 * h - 1 - x) ≡ pos x -ℤ pos (2 * h) = grind (arith, ints) in
    up_and_down_neg p h x (2 * h - 1 - x) q e (omega arith) (omega arith) ∙ d

sign_extended : (n x : ℕ) → 0 < n → n ≤ 32 → x < 2 ^ n → shr_z (to_z w32 (x * 2 ^ (32 - n))) (2 ^ (32 - n)) ≡ signed_of (2 ^ (n - 1)) x
sign_extended n x z m l =
    by_size (2 ^ (32 - n)) (2 ^ (n - 1)) x (nat_lt x (2 ^ (n - 1))) refl (pow_pos (32 - n)) (halves n z m) (omega (arith, twice n z))

-- what the casts between give back
pub sign_extended_word : (n x : ℕ) (r : ℤ) → 0 < n → n ≤ 32 → x < 2 ^ n → r ≡ to_z w32 (x * 2 ^ (32 - n) % 4294967296)
    → to_z w32 (of_z w32 (shr_z (to_z w32 (of_z w32 r)) (2 ^ (32 - n)))) ≡ signed_of (2 ^ (n - 1)) x
sign_extended_word n x r z m l e =
    let f : x * 2 ^ (32 - n) < 2 ^ n * 2 ^ (32 - n) = mul-lt-mul_of_pos_right l (pow_pos (32 - n)) in
    let g : x * 2 ^ (32 - n) % 4294967296 ≡ x * 2 ^ (32 - n) = mod-eq_of_lt (omega (arith, f, full n m)) in
    let k : to_z w32 (of_z w32 r) ≡ to_z w32 (x * 2 ^ (32 - n)) =
    ap (λ r. to_z w32 (of_z w32 r)) e ∙ ap (to_z w32) (of_z-to_z w32 (x * 2 ^ (32 - n) % 4294967296) (omega arith) ∙ g) in
    let i : n - 1 ≤ 31 = omega arith in
    let two : 0 < 2 = omega arith in
    let b : 2 ^ (n - 1) ≤ 2 ^ 31 = pow-le-pow_right two i in
    let h : to_z w32 (of_z w32 (signed_of (2 ^ (n - 1)) x)) ≡ signed_of (2 ^ (n - 1)) x = grind (arith, ints, twice n z) in
    ap (λ z. to_z w32 (of_z w32 (shr_z z (2 ^ (32 - n))))) k ∙ ap (λ z. to_z w32 (of_z w32 z)) (sign_extended n x z m l) ∙ h
