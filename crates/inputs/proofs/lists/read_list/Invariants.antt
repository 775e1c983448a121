use Rattle.std.proofs.Common.{◌≡◌}
use Rattle.inputs.proofs.Listing.{SoFar}
use Rattle.inputs.proofs.lists.read_list.Given as goal

abbrev pub invariant-loop-number : goal.invariant-loop-number
invariant-loop-number l =
    (goal.iterator-loop-number).can_next l.number-iterator × (goal.iterator-loop-number).is_finite l.number-iterator × (l.behind ≡ l.number-iterator.number) × SoFar l.text l.number-iterator l.draft
