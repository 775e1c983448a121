use Rattle.std.proofs.Common.{vec_items}
use Rattle.inputs.proofs.Scripting.{SoFar}
use Rattle.inputs.proofs.scripts.read_script.Given as goal

abbrev pub invariant-loop-number : goal.invariant-loop-number
invariant-loop-number l =
    (goal.iterator-loop-number).can_next l.number-iterator × (goal.iterator-loop-number).is_finite l.number-iterator × SoFar l.text l.number-iterator (vec_items l.out)
