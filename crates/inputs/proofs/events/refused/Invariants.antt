use Rattle.std.proofs.Common.{◌≡◌, ◌-◌, ◌^◌, ◌≤◌, length}
use Rattle.inputs.specs.Events.{refusal_from}
use Rattle.inputs.proofs.events.refused.Given as goal

abbrev pub invariant-loop-i : goal.invariant-loop-i
invariant-loop-i l = (refusal_from l.events l.i l.total ≡ refusal_from l.events 0 0) × (l.total ≤ 2 ^ 48)

abbrev pub decreases-loop-i : goal.decreases-loop-i
decreases-loop-i l = length l.events - l.i
