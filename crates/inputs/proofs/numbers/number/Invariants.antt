use Rattle.std.proofs.Common.{◌≡◌, drop}
use Rattle.inputs.specs.Texts.{number_after}
use Rattle.inputs.proofs.numbers.number.Given as goal

abbrev pub invariant-loop-b : goal.invariant-loop-b
invariant-loop-b l = number_after l.n (drop l.b-index l.word) ≡ number_after 0 l.word
