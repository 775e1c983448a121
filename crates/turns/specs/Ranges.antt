-- The ranges of the sizes, and the files that there is room for. Assumes nothing: these are definitions.
use Rattle.std.specs.Prelude.{◌≡◌, ℕ, ◌%◌, ◌≤◌, List, [], length, slice_index_or}
use Rattle.octets.specs.Rows.{Bytes}
use Rattle.turns.specs.declared.vocabulary.Sizes.{Sizes}

pub record InRange (z : Sizes) : Type 0 where
  pub processes : (1 ≤ z.processes) × (z.processes ≤ 64)
  pub opens : (1 ≤ z.opens) × (z.opens ≤ 256)
  pub pipes : z.pipes ≤ 64
  pub handles : (3 ≤ z.handles) × (z.handles ≤ 16)
  pub memory : (4096 ≤ z.memory) × (z.memory ≤ 1048576) × (z.memory % 4096 ≡ 0)
  pub pipe : (1 ≤ z.pipe) × (z.pipe ≤ 4096)
  pub file : z.file ≤ 262144
  pub files : (1 ≤ z.files) × (z.files ≤ 64)
  pub screens : (1 ≤ z.screens) × (z.screens ≤ 16)
  pub turn : (1 ≤ z.turn) × (z.turn ≤ 65535)

-- a list of files that a disc of these sizes can hold
pub record Fits (z : Sizes) (fs : List (List ℕ)) : Type 0 where
  pub sizes : InRange z
  pub count : length fs ≡ z.files
  pub short : (f : ℕ) → length (slice_index_or fs f []) ≤ z.file
  pub bytes : (f : ℕ) → Bytes (slice_index_or fs f [])
