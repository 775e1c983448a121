-- Numbers in bytes, the low byte first. Assumes nothing: these are definitions.
use Rattle.std.specs.Prelude.{◌≡◌, ℕ, ◌+◌, ◌*◌, ◌/◌, ◌%◌, ◌<◌, ◌≤◌, List, [], ◌∷◌, length, slice_index}

-- the number in one, in two and in four bytes from place a on, where f says which byte stands at each place
abbrev pub byte_from : (ℕ → ℕ) → ℕ → ℕ
byte_from f a = f a

abbrev pub half_from : (ℕ → ℕ) → ℕ → ℕ
half_from f a = f a + f (a + 1) * 256

abbrev pub word_from : (ℕ → ℕ) → ℕ → ℕ
word_from f a = f a + f (a + 1) * 256 + f (a + 2) * 65536 + f (a + 3) * 16777216

-- the number in two bytes of a row, from place a on
abbrev pub half_at : List ℕ → ℕ → ℕ
half_at bs a = half_from (slice_index bs) a

-- the number in four bytes of a row, from place a on
abbrev pub word_at : List ℕ → ℕ → ℕ
word_at bs a = word_from (slice_index bs) a

-- the low byte of a number
abbrev pub byte_bytes : ℕ → List ℕ
byte_bytes x = x ∷ []

-- the two low bytes of a number
abbrev pub half_bytes : ℕ → List ℕ
half_bytes x = x % 256 ∷ x / 256 % 256 ∷ []

-- the four low bytes of a number
abbrev pub word_bytes : ℕ → List ℕ
word_bytes x = x % 256 ∷ x / 256 % 256 ∷ x / 65536 % 256 ∷ x / 16777216 % 256 ∷ []

-- What a kind of numbers owes that have so many bytes: pages hold them whole; which number it is hangs on its bytes alone; and it has so many of them
pub record NumberLaws {N : Type 0} (size : ℕ) (from : (ℕ → ℕ) → ℕ → N) (bytes : N → List ℕ) : Type 0 where
  pub some : 0 < size
  pub few : size ≤ 4
  pub pages : 4096 % size ≡ 0
  pub same : (f g : ℕ → ℕ) (a b : ℕ) → ((k : ℕ) → k < size → f (a + k) ≡ g (b + k)) → from f a ≡ from g b
  pub long : (x : N) → length (bytes x) ≡ size
