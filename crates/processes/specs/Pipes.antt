-- The ends of a new pipe, in the world. Assumes nothing: these are definitions.
use Rattle.std.specs.Prelude.{◌≡◌, ℕ, ◌<◌, Bool, true, false, ◌||◌, List, [], Some, None, Option, nat_le, slice_set}
use Rattle.turns.specs.World.{process, free_pipe, free_open, second_open, free_handle, second_handle, with_open, with_pipe, with_process, with_memory, with_handles}
use Rattle.turns.specs.declared.vocabulary.Sizes.{Sizes}
use Rattle.turns.specs.declared.vocabulary.End.TheVariants.{WriteEnd, ReadEnd}
use Rattle.rv32.specs.Act.{core}
use Rattle.processes.specs.declared.PipeEnds.{PipeEnds}
use Rattle.processes.specs.Tabled.{Worlds}

-- there is no free pipe, or there are no two free open things, or process p has no two free handles
abbrev pub no_room : Sizes → Worlds → ℕ → Bool
no_room z w p = nat_le z.pipes (free_pipe core z w) || (nat_le z.opens (second_open core z w) || nat_le z.handles (second_handle z (process core w p)))

-- the lowest that are free
pub record FreeEnds (z : Sizes) (w : Worlds) (p : ℕ) (e : PipeEnds) : Type 0 where
  pub room : no_room z w p ≡ false
  pub pipe : e.pipe ≡ free_pipe core z w
  pub read_open : e.read_open ≡ free_open core z w
  pub write_open : e.write_open ≡ second_open core z w
  pub read_handle : e.read_handle ≡ free_handle z (process core w p)
  pub write_handle : e.write_handle ≡ second_handle z (process core w p)
  pub opens : (e.read_open < z.opens) × (e.write_open < z.opens)
  pub handles : (e.read_handle < z.handles) × (e.write_handle < z.handles)

abbrev pub Found : Sizes → Worlds → ℕ → Option PipeEnds → Type 0
Found z w p None = no_room z w p ≡ true
Found z w p (Some e) = FreeEnds z w p e

-- the world with the ends of a new pipe, and memory m of process p
abbrev pub piped : Worlds → ℕ → PipeEnds → List ℕ → Worlds
piped w p e m =
    with_process
    (with_pipe
    (with_open (with_open w e.read_open (record { end = ReadEnd e.pipe; at = 0 })) e.write_open (record { end = WriteEnd e.pipe; at = 0 }))
    e.pipe [])
    p
    (with_memory
    (with_handles (process core w p) (slice_set (slice_set (process core w p).handles e.read_handle (Some e.read_open)) e.write_handle (Some e.write_open)))
    m)
