-- Which discs are taken, and where the others are refused. Assumes nothing: these are definitions.
use Rattle.std.specs.Prelude.{◌≡◌, ℕ, ◌+◌, ◌*◌, ◌/◌, ◌%◌, ◌≤◌, Bool, true, ◌&&◌, ◌||◌, not, List, [], ◌∷◌, ◌++◌, length, codes, decimal, Some, None, Option, find, if◌then◌else◌, ◌==◌, nat_le, nat_lt, slice_index}
use Rattle.std.specs.List.{list_any, range_with_len}
use Rattle.octets.specs.Rows.{lowest, Bytes}
use Rattle.octets.specs.Words.{word_at}
use Rattle.turns.specs.Ranges.{InRange}
use Rattle.turns.specs.Names.{all_names, place_of}
use Rattle.turns.specs.declared.sizes.SizeName.{SizeName}
use Rattle.turns.specs.declared.sizes.SizeName.TheVariants.{Processes, Opens, Pipes, Handles, Memory, Pipe, File, Files, Screens, Turn}
use Rattle.turns.specs.declared.vocabulary.Sizes.{Sizes}
use Rattle.disc.specs.Blocks.{Disc, at, blocks, Whole}
use Rattle.disc.specs.Layout.{Shape, plan_of, head_at, room, current, current_header, files_on, Sound}
use Rattle.disc.specs.declared.check.Refusal.{Refusal}
use Rattle.disc.specs.declared.check.Refusal.TheVariants.{Length, Name, Size, Block, Frames, Event}

-- the number of a refusal, and its place
abbrev pub number : Refusal → ℕ
number (Length n) = 1
number Name = 2
number (Size a) = 3
number (Block a) = 4
number (Frames n) = 5
number (Event a) = 6

abbrev pub refused_at : Refusal → ℕ
refused_at (Length n) = n
refused_at Name = 0
refused_at (Size a) = a
refused_at (Block a) = a
refused_at (Frames n) = n
refused_at (Event a) = a

-- how it is printed
abbrev pub refusal_words : Refusal → List ℕ
refusal_words r = codes "refused " ++ decimal (number r) ++ codes " at " ++ decimal (refused_at r)

-- BLOCK 0: "TURN", and the ten sizes
abbrev pub named : List ℕ → Bool
named b = slice_index b 0 == 84 && (slice_index b 1 == 85 && (slice_index b 2 == 82 && slice_index b 3 == 78))

unfoldable pub sizes_in : List ℕ → Sizes
sizes_in b =
    record {
      processes = word_at b 4;
      opens = word_at b 8;
      pipes = word_at b 12;
      handles = word_at b 16;
      memory = word_at b 20;
      pipe = word_at b 24;
      file = word_at b 28;
      files = word_at b 32;
      screens = word_at b 36;
      turn = word_at b 40;
    }

-- the sizes of a disc
abbrev pub disc_sizes : List ℕ → Sizes
disc_sizes xs = sizes_in (at (blocks xs) 0)

-- x lies in a range
abbrev pub between : ℕ → ℕ → ℕ → Bool
between least x most = nat_le least x && nat_le x most

-- so many bytes may a process's memory have: whole pages
abbrev pub pages : ℕ → Bool
pages x = between 4096 x 1048576 && x % 4096 == 0

-- whether a size is in its range
unfoldable pub in_range : SizeName → Sizes → Bool
in_range Processes z = between 1 z.processes 64
in_range Opens z = between 1 z.opens 256
in_range Pipes z = between 0 z.pipes 64
in_range Handles z = between 3 z.handles 16
in_range Memory z = pages z.memory
in_range Pipe z = between 1 z.pipe 4096
in_range File z = between 0 z.file 262144
in_range Files z = between 1 z.files 64
in_range Screens z = between 1 z.screens 16
in_range Turn z = between 1 z.turn 65535

-- which size is the first that is out of range
unfoldable pub first_out : Sizes → Option SizeName
first_out z = find (λ name. not (in_range name z)) all_names

-- FILES. A block of lengths in which one is above the size of a file
unfoldable pub too_long : Shape → List ℕ → Bool
too_long p b = list_any (λ f. nat_lt p.size (word_at b (4 * f))) (range_with_len 0 p.files)

-- a block that is not as the layout says: it is missing, or it is the block of lengths of the header that counts, and one of them is too long
unfoldable pub wrong : Shape → Disc → ℕ → Bool
wrong p d i = nat_le (length d) i || (i == head_at p (current d) && too_long p (at d i))

-- the lowest of them, or how many blocks there have to be
unfoldable pub first_wrong : Shape → Disc → ℕ
first_wrong p d = lowest (wrong p d) (room p)

-- FRAMES: how many are needed
abbrev pub frames_for : Sizes → ℕ
frames_for z = z.processes * z.memory / 4096 + 80

-- THE REFUSALS. 1: of a disc's length
abbrev pub length_refusal : ℕ → Option Refusal
length_refusal n = if n % 512 == 0 && between 1024 n 67108864 then None else Some (Length n)

-- 2: of block 0, by its name
abbrev pub name_refusal : List ℕ → Option Refusal
name_refusal b = if named b then None else Some Name

-- 3: of the first size that is out of range, if there is one
abbrev pub size_refusal : Option SizeName → Option Refusal
size_refusal None = None
size_refusal (Some name) = Some (Size (4 + 4 * place_of name))

-- 4: of the lowest block that is wrong, where there have to be n blocks
abbrev pub block_refusal : ℕ → ℕ → Option Refusal
block_refusal n b = if nat_lt b n then Some (Block (512 * b)) else None

-- 5: of so many bytes lent for n frames; a rest below 4,096 is no frame
abbrev pub frame_refusal : ℕ → ℕ → Option Refusal
frame_refusal n lent = if nat_lt (lent / 4096) n then Some (Frames n) else None

-- the first of several
unfoldable pub first_of : List (Option Refusal) → Option Refusal
first_of [] = None
first_of (None ∷ rs) = first_of rs
first_of (Some r ∷ rs) = Some r

-- what is refused of a row of bytes as a disc: the first of 1 to 4
unfoldable pub disc_refusal : List ℕ → Option Refusal
disc_refusal xs =
    first_of
    (length_refusal (length xs) ∷ name_refusal (at (blocks xs) 0) ∷ size_refusal (first_out (disc_sizes xs))
    ∷ block_refusal (room (plan_of (disc_sizes xs))) (first_wrong (plan_of (disc_sizes xs)) (blocks xs))
    ∷ [])

-- what is refused of a row of bytes as a disc, with so many bytes lent for frames: the first of 1 to 5
unfoldable pub refusal_of : List ℕ → ℕ → Option Refusal
refusal_of xs lent = first_of (disc_refusal xs ∷ frame_refusal (frames_for (disc_sizes xs)) lent ∷ [])

-- A DISC THAT IS TAKEN, as a row of blocks
pub record Taken (z : Sizes) (d : Disc) : Type 0 where
  pub least : 2 ≤ length d
  pub most : length d ≤ 131072
  pub whole : Whole d
  pub bytes : (i : ℕ) → Bytes (at d i)
  pub name : named (at d 0) ≡ true
  pub sizes : sizes_in (at d 0) ≡ z
  pub range : InRange z
  pub large : room (plan_of z) ≤ length d
  pub sound : Sound (plan_of z) (current_header (plan_of z) d)

-- a disc of these sizes is taken, and holds these files
pub record Holds (z : Sizes) (d : Disc) (fs : List (List ℕ)) : Type 0 where
  pub taken : Taken z d
  pub files : files_on (plan_of z) d ≡ fs

-- a row of bytes that is a disc of these sizes, with nothing behind its blocks
abbrev pub TakenBytes : Sizes → List ℕ → Type 0
TakenBytes z xs = Taken z (blocks xs) × (length xs % 512 ≡ 0)

-- frames enough are lent
abbrev pub Enough : Sizes → ℕ → Type 0
Enough z lent = frames_for z ≤ lent / 4096
