-- How files lie on a disc: [0 sizes][1 root][header A][header B][copy A][copy B]. Assumes nothing: these are definitions.
-- The root block says which of the two headers counts. A header is a block of lengths, one a file, and blocks of bits, one a block of a file: which of its two
-- copies counts. So a file is what its blocks hold where they count, up to its length; the other copies and the other header are free to be written.
use Rattle.std.specs.Prelude.{ℕ, ◌+◌, ◌*◌, ◌/◌, ◌%◌, ◌^◌, ◌<◌, ◌≤◌, List, map, take, slice_index}
use Rattle.std.specs.List.{range_with_len, flat_map}
use Rattle.octets.specs.Words.{word_at}
use Rattle.turns.specs.declared.vocabulary.Sizes.{Sizes}
use Rattle.disc.specs.Blocks.{Disc, at}

-- what the layout needs of the sizes: how many files there are, how many bytes a file may have, and how many blocks a file and a header have
pub record Shape : Type 0 where
  pub files : ℕ
  pub size : ℕ
  pub each : ℕ
  pub head : ℕ

-- a header, by its blocks
abbrev pub Header : Type 0
Header = List (List ℕ)

-- the shape of some sizes: each file has blocks for its greatest length; a header has a block of lengths, and a bit for each block of a file
abbrev pub plan_of : Sizes → Shape
plan_of z =
    record { files = z.files; size = z.file; each = (z.file + 511) / 512; head = 1 + (z.files * ((z.file + 511) / 512) + 4095) / 4096 }

-- where header c begins: c is 0 for A, 1 for B
abbrev pub head_at : Shape → ℕ → ℕ
head_at p c = 2 + c * p.head

-- where the copies begin, and where copy c of block j of the files is
abbrev pub data_at : Shape → ℕ
data_at p = 2 + 2 * p.head

abbrev pub place : Shape → ℕ → ℕ → ℕ
place p c j = data_at p + (c * (p.files * p.each) + j)

-- HOW MANY BLOCKS A DISC MUST HAVE
abbrev pub room : Shape → ℕ
room p = data_at p + 2 * (p.files * p.each)

-- which header counts: the parity of the root block's first byte, so that every content of that block names a header
unfoldable pub current : Disc → ℕ
current d = slice_index (at d 1) 0 % 2

unfoldable pub header : Shape → Disc → ℕ → Header
header p d c = map (λ i. at d (head_at p c + i)) (range_with_len 0 p.head)

-- the header that counts
unfoldable pub current_header : Shape → Disc → Header
current_header p d = header p d (current d)

-- the length of file f by a header
unfoldable pub length_in : Header → ℕ → ℕ
length_in h f = word_at (at h 0) (4 * f)

-- which copy of block j of the files counts by a header: 0 or 1
unfoldable pub copy_in : Header → ℕ → ℕ
copy_in h j = slice_index (at h (1 + j / 4096)) (j / 8 % 512) / 2 ^ (j % 8) % 2

-- what block j of the files holds by a header
unfoldable pub cell : Shape → Header → Disc → ℕ → List ℕ
cell p h d j = at d (place p (copy_in h j) j)

-- what file f holds by a header: its blocks, one after the other, up to its length
unfoldable pub file_in : Shape → Header → Disc → ℕ → List ℕ
file_in p h d f = take (length_in h f) (flat_map (λ b. cell p h d (f * p.each + b)) (range_with_len 0 p.each))

unfoldable pub files_in : Shape → Header → Disc → List (List ℕ)
files_in p h d = map (file_in p h d) (range_with_len 0 p.files)

-- THE FILES ON A DISC
unfoldable pub files_on : Shape → Disc → List (List ℕ)
files_on p d = files_in p (current_header p d) d

-- no file of a header is longer than a file may be
unfoldable pub Sound : Shape → Header → Type 0
Sound p h = (f : ℕ) → f < p.files → length_in h f ≤ p.size

-- a plan whose headers have a place for each length and each bit, whose files have blocks for their bytes, and that has no more blocks than any sizes need
pub record Fit (p : Shape) : Type 0 where
  pub lengths : p.files ≤ 64
  pub bits : p.files * p.each + 4096 ≤ 4096 * p.head
  pub deep : p.size ≤ 512 * p.each
  pub small : p.files * p.each ≤ 32768
  pub few : p.head ≤ 9
  pub short : p.size ≤ 262144
