-- Comparing two rows of bytes. Assumes nothing: this is a definition.
use Rattle.std.specs.Prelude.{ℕ, ◌+◌, Bool, List, ◌==◌, slice_index}

-- at place a + i a row has the same byte as other bytes at place b + i
abbrev pub same_from : List ℕ → ℕ → List ℕ → ℕ → ℕ → Bool
same_from row a bytes b i = slice_index row (a + i) == slice_index bytes (b + i)
