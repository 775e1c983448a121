use Rattle.std.proofs.Common.{◌≡◌, ℕ, ◌+◌, ◌<◌}
use Rattle.paging.specs.Tables.{Tops, free_at}
use Rattle.paging.proofs.Paging.set_up.Given as goal

abbrev pub invariant-loop-k : goal.invariant-loop-k
invariant-loop-k l = Tops l.frames × ((j : ℕ) → j < l.k → free_at l.frames j ≡ 80 + j)
