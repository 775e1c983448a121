use Rattle.std.proofs.Common.{◌≡◌, ◌+◌, ◌++◌, map, take, drop}
use Rattle.queues.proofs.shown.move_on.Given as goal

abbrev pub invariant-loop-begin : goal.invariant-loop-begin
invariant-loop-begin l = l.begin-items ≡ map (λ b. b + l.n) (take l.begin-index l.fn.begins) ++ drop l.begin-index l.fn.begins
