use Rattle.std.proofs.Common.{◌-◌, ◌≤◌, length, get_or}
use Rattle.paging.specs.Changes.{Put}
use Rattle.paging.proofs.Paging.store_bytes.Given as goal

abbrev pub invariant-loop-done : goal.invariant-loop-done
invariant-loop-done l = (l.done ≤ length l.bytes) × Put l.self l.initial.frames l.frames l.p l.a l.done (λ k. get_or l.bytes k 0)

abbrev pub decreases-loop-done : goal.decreases-loop-done
decreases-loop-done l = length l.bytes - l.done
