-- A disc as a row of blocks of 512 bytes, made from the bytes that the code has. Assumes nothing: these are definitions.
use Rattle.std.specs.Prelude.{◌≡◌, ℕ, ◌*◌, ◌/◌, ◌<◌, List, [], map, length, take, drop, slice_index_or}
use Rattle.std.specs.List.{range_with_len}

abbrev pub Disc : Type 0
Disc = List (List ℕ)

-- block i of a row of bytes
abbrev pub block_of : List ℕ → ℕ → List ℕ
block_of xs i = take 512 (drop (512 * i) xs)

-- all whole blocks of a row of bytes
unfoldable pub blocks : List ℕ → Disc
blocks xs = map (block_of xs) (range_with_len 0 (length xs / 512))

-- what block i holds
abbrev pub at : Disc → ℕ → List ℕ
at d i = slice_index_or d i []

-- every block has 512 bytes
abbrev pub Whole : Disc → Type 0
Whole d = (i : ℕ) → i < length d → length (at d i) ≡ 512
