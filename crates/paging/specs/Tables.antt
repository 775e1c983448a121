-- Page tables and the stack of free frames in lent memory. A table is 16 entries of 4 bytes; table t lies at byte 64 * t. Table p is the top table of process p,
-- for 64 processes; behind the top tables lie 16 leaf tables for each process, and behind those, from byte 69,632 on, the stack. Assumes nothing: these are definitions.
use Rattle.std.specs.Prelude.{◌≡◌, ℕ, ◌+◌, ◌*◌, ◌/◌, ◌%◌, ◌<◌, ◌≤◌, List, ◌≢◌, slice_index}
use Rattle.octets.specs.Words.{word_at}

-- entry k of table t
unfoldable pub entry_of : List ℕ → ℕ → ℕ → ℕ
entry_of f t k = word_at f (t * 64 + k * 4)

-- the frame of page i of process p: the top table leads to a leaf table, and that to the frame
unfoldable pub frame_of : List ℕ → ℕ → ℕ → ℕ
frame_of f p i = entry_of f (entry_of f p (i / 16)) (i % 16)

-- where byte a of process p lies
unfoldable pub place : List ℕ → ℕ → ℕ → ℕ
place f p a = frame_of f p (a / 4096) * 4096 + a % 4096

-- byte a of process p: all that a caller sees
unfoldable pub byte_of : List ℕ → ℕ → ℕ → ℕ
byte_of f p a = slice_index f (place f p a)

-- the frame at height k of the stack
unfoldable pub free_at : List ℕ → ℕ → ℕ
free_at f k = word_at f (69632 + k * 4)

-- entry j of the top table of process p leads to leaf table j of that process
abbrev pub Tops : List ℕ → Type 0
Tops f = (p j : ℕ) → p < 64 → j < 16 → entry_of f p j ≡ 64 + p * 16 + j

-- A slot holds the number of a frame: the entry of a page, or a place of the stack
pub data Slot : Type 0 where
  page : ℕ → ℕ → Slot
  free : ℕ → Slot

-- the frame whose number a slot holds
abbrev pub frame_at : List ℕ → Slot → ℕ
frame_at f (page p i) = frame_of f p i
frame_at f (free k) = free_at f k

-- there is such a slot: for 64 processes of 256 pages, and as many free frames
abbrev pub SlotThere : Slot → Type 0
SlotThere (page p i) = (p < 64) × (i < 256)
SlotThere (free k) = k < 16384

-- slot s holds n now; all other slots, the top tables and the frames behind the tables are as they were
pub record Slotted (f g : List ℕ) (s : Slot) (n : ℕ) : Type 0 where
  pub tops : Tops g
  pub here : frame_at g s ≡ n
  pub same : (t : Slot) → SlotThere t → (t ≢ s) → frame_at g t ≡ frame_at f t
  pub above : (x : ℕ) → 327680 ≤ x → slice_index g x ≡ slice_index f x
