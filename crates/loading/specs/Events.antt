-- Rows of events in files. Assumes nothing: these are definitions.
use Rattle.std.specs.Prelude.{◌≡◌, ℕ, Bool, List, codes, vec_items, Vec, ◌==◌}
use Rattle.std.specs.List.{flat_map, ends_with}
use Rattle.std.specs.declared.alloc.Global.{Global}
use Rattle.turns.specs.Numbers.{input_bytes}
use Rattle.turns.specs.declared.vocabulary.Input.{Input}

-- the name of a file whose text is a script
abbrev pub names_script : List ℕ → Bool
names_script path = ends_with (λ a b. a == b) path (codes ".txt")

-- inputs, written out one after the other
abbrev pub AreInputs : Vec ℕ Global → Type 0
AreInputs v = (is : List Input) × (vec_items v ≡ flat_map input_bytes is)
