-- Laws of the tables, in their own words. Assumes nothing: these are definitions and statements; src/laws.rt has the functions whose contracts they are.
use Rattle.std.specs.Prelude.{◌≡◌, ℕ, zero, suc, ◌+◌, ◌-◌, ◌*◌, ◌/◌, ◌<◌, ◌≤◌, if◌then◌else◌, ◌⊎◌, List, ◌==◌, ◌≢◌, slice_index}
use Rattle.turns.specs.declared.vocabulary.Sizes.{Sizes}
use Rattle.paging.specs.declared.Paging.{Paging}
use Rattle.paging.specs.Tables.{frame_of, free_at, place}
use Rattle.paging.specs.Pages.{held, Byte, Sound, Enough}

-- two pages that have the same frame are the same page, and no page has a free frame
abbrev pub FramesApart : Type 0
FramesApart =
    (g : Paging) (f : List ℕ) → Sound g f → (p i : ℕ) → p < 64 → i < held g p
    → ((q j : ℕ) → q < 64 → j < held g q → frame_of f p i ≡ frame_of f q j → (p ≡ q) × (i ≡ j)) × ((k : ℕ) → k < g.free → frame_of f p i ≢ free_at f k)

-- two bytes that lie in the same place are the same byte of the same process
abbrev pub BytesApart : Type 0
BytesApart = (g : Paging) (f : List ℕ) → Sound g f → (p q a b : ℕ) → Byte g p a → Byte g q b → place f p a ≡ place f q b → (p ≡ q) × (a ≡ b)

-- how many of the first n processes have pages
unfoldable pub live : ℕ → List ℕ → ℕ
live zero hs = 0
live (suc n) hs = (if slice_index hs n == 0 then 0 else 1) + live n hs

-- each process has all its pages, or none
abbrev pub AllOrNone : Sizes → Paging → Type 0
AllOrNone z g = (p : ℕ) → p < z.processes → (held g p ≡ 0) ⊎ (held g p ≡ z.memory / 4096)

-- there are (processes - live processes) * pages free frames
abbrev pub FreeFrames : Type 0
FreeFrames = (z : Sizes) (g : Paging) → Enough z g → AllOrNone z g → 4096 ≤ z.memory → g.free ≡ (z.processes - live z.processes g.pages) * (z.memory / 4096)

-- so that a process without pages finds them
abbrev pub FindsPages : Type 0
FindsPages = (z : Sizes) (g : Paging) (p : ℕ) → Enough z g → p < z.processes → held g p ≡ 0 → z.memory / 4096 ≤ g.free
