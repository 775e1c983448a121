use Rattle.paging.specs.Changes.{Begun}
use Rattle.paging.proofs.Paging.begin.Given as goal

abbrev pub invariant-loop-i : goal.invariant-loop-i
invariant-loop-i l = Begun l.initial.self l.initial.frames l.self l.frames l.p l.i (λ _. 0)
