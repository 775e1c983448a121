-- Which pages processes have, and that no frame is used twice. Assumes nothing: these are definitions.
use Rattle.std.specs.Prelude.{◌≡◌, ℕ, zero, suc, ◌+◌, ◌-◌, ◌*◌, ◌/◌, ◌%◌, ◌<◌, ◌≤◌, List, length, slice_index, slice_set}
use Rattle.turns.specs.declared.vocabulary.Sizes.{Sizes}
use Rattle.paging.specs.declared.Paging.{Paging}
use Rattle.paging.specs.declared.Cache.{Cache}
use Rattle.paging.specs.Tables.{frame_of, Tops, Slot, frame_at}
use Rattle.paging.specs.Tables.Slot.{page, free}

-- how many pages process p has
abbrev pub held : Paging → ℕ → ℕ
held g p = slice_index g.pages p

-- process p has a byte at address a
abbrev pub Byte : Paging → ℕ → ℕ → Type 0
Byte g p a = (p < 64) × (a / 4096 < held g p)

-- a slot is in use: it holds the frame of a page that there is, or of one that is free
abbrev pub InUse : Paging → Slot → Type 0
InUse g (page p i) = (p < 64) × (i < held g p)
InUse g (free k) = k < g.free

-- The tables are in order: each frame in use lies behind the first 80 and within the lent memory, and no two slots hold the same one. So two pages never have
-- the same frame, a free frame is no page's, and none is free twice.
pub record Sound (g : Paging) (f : List ℕ) : Type 0 where
  pub rows : length g.pages ≡ 64
  pub few : (p : ℕ) → held g p ≤ 256
  pub low : g.free ≤ 16384
  pub long : 327680 ≤ length f
  pub tops : Tops f
  pub usable : (s : Slot) → InUse g s → (80 ≤ frame_at f s) × (frame_at f s * 4096 + 4096 ≤ length f)
  pub apart : (s t : Slot) → InUse g s → InUse g t → frame_at f s ≡ frame_at f t → s ≡ t

-- process p has n pages now; the frames come from the free ones, or go to them
abbrev pub with_pages : Paging → ℕ → ℕ → Paging
with_pages g p n = record { free = g.free + held g p - n; pages = slice_set g.pages p n }

-- how many pages the first n processes lack, if each is to have m
unfoldable pub lacking : ℕ → ℕ → List ℕ → ℕ
lacking m zero hs = 0
lacking m (suc n) hs = (m - slice_index hs n) + lacking m n hs

-- There are just as many free frames as the processes lack pages. So one that has none finds all of its pages.
pub record Enough (z : Sizes) (g : Paging) : Type 0 where
  pub processes : z.processes ≤ 64
  pub small : z.memory ≤ 1048576
  pub whole : z.memory % 4096 ≡ 0
  pub free : g.free ≡ lacking (z.memory / 4096) z.processes g.pages

-- what is remembered of process p holds (a number of 2 ^ 20 or more is no page: nothing is remembered)
abbrev pub Remembers : Paging → List ℕ → ℕ → Cache → Type 0
Remembers g f p c = c.page < 1048576 → (p < 64) × (c.page < held g p) × (c.base ≡ frame_of f p c.page * 4096)

-- nothing is remembered, so that it holds of every process
abbrev pub Forgotten : Cache → Type 0
Forgotten c = (g : Paging) (f : List ℕ) (p : ℕ) → Remembers g f p c
