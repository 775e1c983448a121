-- Bytes after a write to a part of a slice. Assumes nothing.
use Rattle.std.proofs.Common.{◌≡◌, ℕ, ◌+◌, ◌-◌, ◌<◌, ◌≤◌, List, length, get_or, rules}
use borrow.Rule.Slice.PartMut.{put_mid}
use Rattle.std.proofs.lemmas.List.{places}

-- what a write to xs[a..e] leaves
module _ (xs ys : List ℕ) (a e : ℕ) (long : length ys ≡ e - a) (le : a ≤ e) (fits : e ≤ length xs) where
  pub part_in : (k : ℕ) → a + k < e → get_or (put_mid a (e - a) xs ys) (a + k) 0 ≡ get_or ys k 0
  part_in k h = search (rules, places)

  pub part_low : (k : ℕ) → k < a → get_or (put_mid a (e - a) xs ys) k 0 ≡ get_or xs k 0
  part_low k h = search (rules, places)

  pub part_high : (k : ℕ) → e ≤ k → get_or (put_mid a (e - a) xs ys) k 0 ≡ get_or xs k 0
  part_high k h = search (rules, places)

  pub part_long : length (put_mid a (e - a) xs ys) ≡ length xs
  part_long = search (rules, places)
