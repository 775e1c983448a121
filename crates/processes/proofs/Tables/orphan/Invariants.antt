use Rattle.std.proofs.Common.{◌≡◌, map, take, drop, ◌++◌}
use Rattle.processes.specs.Changes.{without_parent}
use Rattle.processes.proofs.Tables.orphan.Given as goal

abbrev pub invariant-loop-process : goal.invariant-loop-process
invariant-loop-process l =
    l.process-items ≡ map (without_parent l.p) (take l.process-index l.initial.process-items) ++ drop l.process-index l.initial.process-items
