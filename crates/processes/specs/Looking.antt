-- What is seen in the tables alone. Assumes nothing: these are definitions.
use Rattle.std.specs.Prelude.{ℕ, ◌-◌, Bool, not, ◌&&◌, ◌||◌, is_none, Some, None, Option, ◌==◌, nat_lt, find, if◌then◌else◌, slice_index_or}
use Rattle.std.specs.List.{range_with_len, list_any}
use Rattle.turns.specs.World.{is_free, is_running, is_left, is_write_end, is_read_end, leads_to}
use Rattle.turns.specs.declared.vocabulary.End.{End}
use Rattle.processes.specs.declared.looking.Side.{Side}
use Rattle.processes.specs.declared.looking.Side.TheVariants.{Writing, Reading}
use Rattle.processes.specs.declared.Tables.{Tables}
use Rattle.processes.specs.Tabled.{place, thing}

-- place i, if there are more places than that
abbrev pub one_of : ℕ → ℕ → Option ℕ
one_of n i = if nat_lt i n then Some i else None

-- process p runs and has a handle on the open thing k
abbrev pub holds_open : Tables → ℕ → ℕ → Bool
holds_open t k p = is_running (place t p).state && list_any (λ h. leads_to k (slice_index_or (place t p).handles h None)) (range_with_len 0 t.sizes.handles)

-- somebody who runs has a handle on the open thing k
abbrev pub open_in_use : Tables → ℕ → Bool
open_in_use t k = list_any (holds_open t k) (range_with_len 0 t.sizes.processes)

-- the lowest place with nobody in it
abbrev pub lowest_free_place : Tables → Option ℕ
lowest_free_place t = find (λ p. is_free (place t p).state) (range_with_len 0 t.sizes.processes)

-- the lowest open thing from i on that is not in use, and the lowest handle of process p from i on that leads to nothing
abbrev pub lowest_free_open : Tables → ℕ → Option ℕ
lowest_free_open t i = find (λ k. not (open_in_use t k)) (range_with_len i (t.sizes.opens - i))

abbrev pub lowest_free_handle : Tables → ℕ → ℕ → Option ℕ
lowest_free_handle t p i = find (λ h. is_none (slice_index_or (place t p).handles h None)) (range_with_len i (t.sizes.handles - i))

-- an end of pipe j, on this side
abbrev pub is_end : Side → ℕ → End → Bool
is_end Writing j e = is_write_end j e
is_end Reading j e = is_read_end j e

-- an open thing in use is such an end
abbrev pub end_in_use : Tables → Side → ℕ → Bool
end_in_use t s j = list_any (λ k. is_end s j (thing t k).end && open_in_use t k) (range_with_len 0 t.sizes.opens)

-- the lowest pipe with no end in use
abbrev pub lowest_free_pipe : Tables → Option ℕ
lowest_free_pipe t = find (λ j. not (end_in_use t Writing j || end_in_use t Reading j)) (range_with_len 0 t.sizes.pipes)

-- in place i there is a child of p; process 0 is nobody's child
abbrev pub child_at : Tables → ℕ → ℕ → Bool
child_at t p i = not (i == 0) && (not (is_free (place t i).state) && (place t i).parent == p)

-- the lowest place with a child of p that has left
abbrev pub lowest_left_child : Tables → ℕ → Option ℕ
lowest_left_child t p = find (λ i. child_at t p i && is_left (place t i).state) (range_with_len 0 t.sizes.processes)
