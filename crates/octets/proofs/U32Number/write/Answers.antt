use Rattle.std.proofs.Common.{rules}
use Rattle.octets.proofs.Numbers.{four_sets}
use Rattle.octets.proofs.U32Number.write.Goals as goal

pub returns-clause-row : goal.returns-clause-row
returns-clause-row c = search (rules, four_sets)
