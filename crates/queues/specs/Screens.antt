-- What screens show, packed into one row: screen after screen, with no byte between them. Assumes nothing: these are definitions.
use Rattle.std.specs.Prelude.{◌≡◌, ℕ, zero, suc, ◌+◌, ◌-◌, ◌<◌, ◌≤◌, List, ◌++◌, length, take, drop, ◌≢◌, slice_index}
use Rattle.queues.specs.declared.Screens.{Screens}

-- where screen t begins; for 16, where all end
abbrev pub begin_of : Screens → ℕ → ℕ
begin_of s t = slice_index s.begins t

-- what screen t shows: all that a caller sees
unfoldable pub screen_of : Screens → List ℕ → ℕ → List ℕ
screen_of s xs t = take (begin_of s (t + 1) - begin_of s t) (drop (begin_of s t) xs)

-- how many bytes the first n screens show
unfoldable pub total : Screens → List ℕ → ℕ → ℕ
total s xs zero = 0
total s xs (suc t) = total s xs t + length (screen_of s xs t)

-- the screens lie within the row; that they lie one behind the other, from its start on, is in the type
abbrev pub Within : Screens → List ℕ → Type 0
Within s xs = begin_of s 16 ≤ length xs

-- screen t shows bs behind what it showed; the others show what they showed, so that there are just so many bytes more
pub record Appended (s : Screens) (xs : List ℕ) (r : Screens) (ys : List ℕ) (t : ℕ) (bs : List ℕ) : Type 0 where
  pub here : screen_of r ys t ≡ screen_of s xs t ++ bs
  pub others : (u : ℕ) → u < 16 → (u ≢ t) → screen_of r ys u ≡ screen_of s xs u
  pub more : total r ys 16 ≡ total s xs 16 + length bs

-- bs stands at place a of the row; what stood there, up to before e, stands behind it
pub record Inserted (xs ys : List ℕ) (a e : ℕ) (bs : List ℕ) : Type 0 where
  pub low : (k : ℕ) → k < a → slice_index ys k ≡ slice_index xs k
  pub here : (k : ℕ) → k < length bs → slice_index ys (a + k) ≡ slice_index bs k
  pub high : (k : ℕ) → a ≤ k → k < e → slice_index ys (k + length bs) ≡ slice_index xs k
