-- What an access at an address finds. Assumes nothing: these are definitions.
use Rattle.std.specs.Prelude.{ℕ, ◌+◌, ◌/◌, ◌%◌, ◌≤◌, Bool, if◌then◌else◌, List, length, Some, None, Option, nat_lt}
use Rattle.paging.specs.declared.Paging.{Paging}
use Rattle.paging.specs.Pages.{held}

-- process p has a byte at address a
abbrev pub has : Paging → ℕ → ℕ → Bool
has g p a = nat_lt (a / 4096) (held g p)

-- what there is at an address, if the process has it
abbrev pub if_has : {X : Type 0} → Paging → ℕ → ℕ → X → Option X
if_has g p a v = if has g p a then Some v else None

-- where byte a lies, if anywhere: behind the tables, and with all of its page within the lent memory
abbrev pub Within : List ℕ → ℕ → Option ℕ → Type 0
Within f a None = Unit {0}
Within f a (Some x) = (327680 ≤ x) × (x + 4096 ≤ length f + a % 4096)
