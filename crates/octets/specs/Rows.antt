-- Rows of bytes, and the search for the lowest place that will do. Assumes nothing: these are definitions.
use Rattle.std.specs.Prelude.{ℕ, zero, suc, ◌<◌, Bool, true, false, List, [], ◌∷◌, ◌++◌, length, drop, nat_lt, slice_index}

-- the first of two if the test holds, else the second
unfoldable pub pick : {A : Type 0} → Bool → A → A → A
pick true a b = a
pick false a b = b

-- ys put over xs from place a on; xs grows if it has to, with zeros up to a
unfoldable pub over : List ℕ → ℕ → List ℕ → List ℕ
over xs zero ys = ys ++ drop (length ys) xs
over [] (suc a) ys = 0 ∷ over [] a ys
over (x ∷ xs) (suc a) ys = x ∷ over xs a ys

-- the lowest of the n numbers from i on at which the test holds; i + n if there is none
unfoldable pub lowest_from : (ℕ → Bool) → ℕ → ℕ → ℕ
lowest_from test i zero = i
lowest_from test i (suc n) = pick (test i) i (lowest_from test (suc i) n)

-- the lowest number below n at which the test holds; n if there is none
abbrev pub lowest : (ℕ → Bool) → ℕ → ℕ
lowest test n = lowest_from test 0 n

-- the test holds at some number below n
abbrev pub some : (ℕ → Bool) → ℕ → Bool
some test n = nat_lt (lowest test n) n

-- every number of the row is a byte
abbrev pub Bytes : List ℕ → Type 0
Bytes xs = (k : ℕ) → slice_index xs k < 256
