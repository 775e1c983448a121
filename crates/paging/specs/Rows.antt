-- A process's memory as one row of bytes. Assumes nothing: these are definitions.
use Rattle.std.specs.Prelude.{◌≡◌, ℕ, ◌*◌, ◌<◌, List, length, slice_index}
use Rattle.paging.specs.declared.Paging.{Paging}
use Rattle.paging.specs.Tables.{byte_of}
use Rattle.paging.specs.Pages.{held}

-- the memory of process p is the row m
pub record Shows (g : Paging) (f : List ℕ) (p : ℕ) (m : List ℕ) : Type 0 where
  pub process : p < 64
  pub long : length m ≡ held g p * 4096
  pub each : (a : ℕ) → a < length m → byte_of f p a ≡ slice_index m a
