use Rattle.std.proofs.Common.{◌≡◌, ℕ, ◌+◌, ◌-◌, ◌<◌, ◌≤◌, get_or}
use Rattle.paging.specs.Tables.{byte_of}
use Rattle.paging.proofs.Paging.load_bytes.Given as goal

abbrev pub invariant-loop-done : goal.invariant-loop-done
invariant-loop-done l =
    (l.done ≤ l.n)
    × ((k : ℕ) → k < l.done → get_or l.out k 0 ≡ byte_of l.frames l.p (l.a + k))
    × ((k : ℕ) → l.done ≤ k → get_or l.out k 0 ≡ get_or l.initial.out k 0)

abbrev pub decreases-loop-done : goal.decreases-loop-done
decreases-loop-done l = l.n - l.done
