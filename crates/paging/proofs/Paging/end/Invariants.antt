use Rattle.std.proofs.Common.{◌-◌}
use Rattle.paging.specs.Changes.{Ended}
use Rattle.paging.proofs.Paging.end.Given as goal

abbrev pub invariant-loop : goal.invariant-loop
invariant-loop l = Ended l.initial.self l.initial.frames l.self l.frames l.p (l.end - l.counter)
