-- What lists of bytes do under `over`. Assumes nothing.
use Rattle.std.proofs.Common.{◌≡◌, ℕ, zero, suc, ◌+◌, ◌-◌, ◌<◌, ◌≤◌, ◌⊎◌, List, [], ◌∷◌, ◌++◌, length, get_or, take, drop, set, replicate, refl, ap, ◌∙◌, inl, inr, arith}
use Rattle.std.proofs.lemmas.List.{length-append, length-drop, get_or_append_left, get_or-append_right, get_or-drop}
use Rattle.octets.specs.Rows.{over, Bytes}

pub length_over : (xs : List ℕ) (a : ℕ) (ys : List ℕ) → a + length ys ≤ length xs → length (over xs a ys) ≡ length xs
unfolding over
length_over xs zero ys h = simp (length-append, length-drop) (omega arith)
length_over [] (suc a) ys h = absurd (omega arith)
length_over (x ∷ xs) (suc a) ys h = ap suc (length_over xs a ys (omega arith))

-- a row grows no longer than what is put over it reaches
pub length_over_le : (xs : List ℕ) (a : ℕ) (ys : List ℕ) (n : ℕ) → length xs ≤ n → a + length ys ≤ n → length (over xs a ys) ≤ n
unfolding over
length_over_le xs zero ys n h l = simp (length-append, length-drop) (omega arith)
length_over_le [] (suc a) ys zero h l = absurd (omega arith)
length_over_le [] (suc a) ys (suc n) h l = omega (arith, length_over_le [] a ys n (omega arith) (omega arith))
length_over_le (x ∷ xs) (suc a) ys zero h l = absurd (omega arith)
length_over_le (x ∷ xs) (suc a) ys (suc n) h l = omega (arith, length_over_le xs a ys n (omega arith) (omega arith))

pub get_or_over_in : (xs : List ℕ) (a : ℕ) (ys : List ℕ) (k d : ℕ) → k < length ys → get_or (over xs a ys) (a + k) d ≡ get_or ys k d
unfolding over
get_or_over_in xs zero ys k d h = let e : 0 + k ≡ k = omega arith in rw e (get_or_append_left ys _ d k h)
get_or_over_in [] (suc a) ys k d h = let e : suc a + k ≡ suc (a + k) = omega arith in rw e (get_or_over_in [] a ys k d h)
get_or_over_in (x ∷ xs) (suc a) ys k d h = let e : suc a + k ≡ suc (a + k) = omega arith in rw e (get_or_over_in xs a ys k d h)

pub get_or_over_out : (xs : List ℕ) (a : ℕ) (ys : List ℕ) (k d : ℕ) → a ≤ length xs → (k < a) ⊎ (a + length ys ≤ k) → get_or (over xs a ys) k d ≡ get_or xs k d
unfolding over
get_or_over_out xs zero ys k d l (inl h) = absurd (omega arith)
get_or_over_out xs zero ys k d l (inr h) =
    get_or-append_right ys (drop (length ys) xs) (length ys) k d refl (omega arith) ∙ get_or-drop (length ys) xs (k - length ys) d ∙ ap (λ n. get_or xs n d) (omega arith)
get_or_over_out [] (suc a) ys k d l h = absurd (omega arith)
get_or_over_out (x ∷ xs) (suc a) ys zero d l h = refl
get_or_over_out (x ∷ xs) (suc a) ys (suc k) d l (inl h) = get_or_over_out xs a ys k d (omega arith) (inl (omega arith))
get_or_over_out (x ∷ xs) (suc a) ys (suc k) d l (inr h) = get_or_over_out xs a ys k d (omega arith) (inr (omega arith))

-- what was put there is there
pub take_over : (xs : List ℕ) (a : ℕ) (ys : List ℕ) → take (length ys) (drop a (over xs a ys)) ≡ ys
unfolding over
take_over xs zero ys = front ys _
  where
    front : (ys zs : List ℕ) → take (length ys) (ys ++ zs) ≡ ys
    front [] zs = refl
    front (y ∷ ys) zs = ap (λ t. y ∷ t) (front ys zs)
take_over [] (suc a) ys = take_over [] a ys
take_over (x ∷ xs) (suc a) ys = take_over xs a ys

-- nothing put over a row within it changes nothing
pub over_none : (xs : List ℕ) (a : ℕ) → a ≤ length xs → over xs a [] ≡ xs
unfolding over
over_none xs zero h = refl
over_none [] (suc a) h = absurd (omega arith)
over_none (x ∷ xs) (suc a) h = ap (λ t. x ∷ t) (over_none xs a (omega arith))

-- one byte more
pub over_more : (xs : List ℕ) (a : ℕ) (ys : List ℕ) (y : ℕ) → a + length ys < length xs → set (over xs a ys) (a + length ys) y ≡ over xs a (ys ++ y ∷ [])
unfolding over
over_more xs zero [] y h = first xs (omega arith)
  where
    first : (xs : List ℕ) → 0 < length xs → set xs (0 + 0) y ≡ y ∷ drop 1 xs
    first [] h = absurd (omega arith)
    first (x ∷ xs) h = refl
over_more [] zero (z ∷ ys) y h = absurd (omega arith)
over_more (x ∷ xs) zero (z ∷ ys) y h =
    let e : 0 + suc (length ys) ≡ suc (0 + length ys) = omega arith in rw e (ap (λ t. z ∷ t) (over_more xs zero ys y (omega arith)))
over_more [] (suc a) ys y h = absurd (omega arith)
over_more (x ∷ xs) (suc a) ys y h = let e : suc a + length ys ≡ suc (a + length ys) = omega arith in rw e (ap (λ t. x ∷ t) (over_more xs a ys y (omega arith)))

pub bytes_take : (n : ℕ) (xs : List ℕ) → Bytes xs → Bytes (take n xs)
bytes_take zero xs h k = omega arith
bytes_take (suc n) [] h k = omega arith
bytes_take (suc n) (x ∷ xs) h zero = h 0
bytes_take (suc n) (x ∷ xs) h (suc k) = bytes_take n xs (λ i. h (suc i)) k

pub bytes_drop : (n : ℕ) (xs : List ℕ) → Bytes xs → Bytes (drop n xs)
bytes_drop zero xs h k = h k
bytes_drop (suc n) [] h k = omega arith
bytes_drop (suc n) (x ∷ xs) h k = bytes_drop n xs (λ i. h (suc i)) k

pub bytes_append : (xs ys : List ℕ) → Bytes xs → Bytes ys → Bytes (xs ++ ys)
bytes_append [] ys h g k = g k
bytes_append (x ∷ xs) ys h g zero = h 0
bytes_append (x ∷ xs) ys h g (suc k) = bytes_append xs ys (λ i. h (suc i)) g k

pub bytes_over : (xs : List ℕ) (a : ℕ) (ys : List ℕ) → Bytes xs → Bytes ys → Bytes (over xs a ys)
unfolding over
bytes_over xs zero ys h g k = bytes_append ys (drop (length ys) xs) g (bytes_drop (length ys) xs h) k
bytes_over [] (suc a) ys h g zero = omega arith
bytes_over [] (suc a) ys h g (suc k) = bytes_over [] a ys h g k
bytes_over (x ∷ xs) (suc a) ys h g zero = h 0
bytes_over (x ∷ xs) (suc a) ys h g (suc k) = bytes_over xs a ys (λ i. h (suc i)) g k

pub bytes_zeros : (n : ℕ) → Bytes (replicate n 0)
bytes_zeros zero k = omega arith
bytes_zeros (suc n) zero = omega arith
bytes_zeros (suc n) (suc k) = bytes_zeros n k
