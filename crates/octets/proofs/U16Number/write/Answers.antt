use Rattle.std.proofs.Common.{rules}
use Rattle.octets.proofs.Numbers.{two_sets}
use Rattle.octets.proofs.U16Number.write.Goals as goal

pub returns-clause-row : goal.returns-clause-row
returns-clause-row c = search (rules, two_sets)
