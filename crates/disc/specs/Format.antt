-- Which files fit on a disc of some sizes, and why others do not. Assumes nothing: these are definitions.
use Rattle.std.specs.Prelude.{◌≡◌, ℕ, ◌+◌, ◌*◌, ◌<◌, ◌≤◌, true, ◌≢◌, List, [], length, Some, slice_index, slice_index_or}
use Rattle.turns.specs.Ranges.{InRange, Fits}
use Rattle.turns.specs.declared.vocabulary.Sizes.{Sizes}
use Rattle.octets.specs.Words.{word_at}
use Rattle.disc.specs.Blocks.{Disc}
use Rattle.disc.specs.Layout.{Shape, plan_of, data_at, room, Fit}
use Rattle.disc.specs.Check.{named, sizes_in, first_out, Holds}
use Rattle.disc.specs.declared.format.Misfit.{Misfit}
use Rattle.disc.specs.declared.format.Misfit.TheVariants.{Size, Count, File, Image}

-- how many bytes a disc of these sizes has
abbrev pub image_length : Sizes → ℕ
image_length z = 512 * room (plan_of z)

-- the first n files are no longer than a file may be
abbrev pub Short : Sizes → List (List ℕ) → ℕ → Type 0
Short z fs n = (f : ℕ) → f < n → length (slice_index_or fs f []) ≤ z.file

-- sizes in range, with so many files
abbrev pub Counted : Sizes → List (List ℕ) → Type 0
Counted z fs = InRange z × (length fs ≡ z.files)

-- WHY files do not fit on a disc of n bytes: the first reason, in this order
abbrev pub Misfits : Sizes → List (List ℕ) → ℕ → Misfit → Type 0
Misfits z fs n (Size name) = first_out z ≡ Some name
Misfits z fs n Count = InRange z × (length fs ≢ z.files)
Misfits z fs n (File f) = Counted z fs × Short z fs f × (f < z.files) × (z.file < length (slice_index_or fs f []))
Misfits z fs n (Image m) = Counted z fs × Short z fs z.files × (m ≡ image_length z) × (n ≢ m)

-- these files fit a plan, on an image of n bytes
pub record Planned (p : Shape) (fs : List (List ℕ)) (n : ℕ) : Type 0 where
  pub fit : Fit p
  pub size : n ≡ 512 * room p
  pub count : length fs ≡ p.files
  pub short : (f : ℕ) → f < p.files → length (slice_index_or fs f []) ≤ p.size

-- How format goes: an image with the first i files on it: header A counts, and all copies A
pub record Laid (z : Sizes) (p : Shape) (fs : List (List ℕ)) (i : ℕ) (xs : List ℕ) : Type 0 where
  pub size : length xs ≡ 512 * room p
  pub name : named xs ≡ true
  pub sizes : sizes_in xs ≡ z
  pub root : slice_index xs 512 ≡ 0
  pub bits : (k : ℕ) → 1536 ≤ k → k < 512 * (2 + p.head) → slice_index xs k ≡ 0
  pub lengths : (f : ℕ) → f < i → word_at xs (1024 + 4 * f) ≡ length (slice_index_or fs f [])
  pub held : (f : ℕ) → f < i → (k : ℕ) → k < length (slice_index_or fs f []) → slice_index xs (512 * (data_at p + f * p.each) + k) ≡ slice_index (slice_index_or fs f []) k

-- EVERY LIST OF FILES that fits has a disc
abbrev pub EveryList : Type 0
EveryList = (z : Sizes) (fs : List (List ℕ)) → Fits z fs → (d : Disc) × Holds z d fs

-- and what a disc holds fits
abbrev pub HeldFits : Type 0
HeldFits = (z : Sizes) (d : Disc) (fs : List (List ℕ)) → Holds z d fs → Fits z fs
