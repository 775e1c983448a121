-- A frame is 4,096 bytes of the lent memory. Assumes nothing: these are definitions.
use Rattle.std.specs.Prelude.{◌≡◌, ℕ, ◌<◌, ◌≤◌, List, slice_index}

-- g is f, but for the bytes from place `from` on to before `to`
pub record ElseKept (from to : ℕ) (f g : List ℕ) : Type 0 where
  pub low : (k : ℕ) → k < from → slice_index g k ≡ slice_index f k
  pub high : (k : ℕ) → to ≤ k → slice_index g k ≡ slice_index f k
