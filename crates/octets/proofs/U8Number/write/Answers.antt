use Rattle.std.proofs.Common.{rules}
use Rattle.octets.proofs.Numbers.{one_set}
use Rattle.octets.proofs.U8Number.write.Goals as goal

pub returns-clause-row : goal.returns-clause-row
returns-clause-row c = search (rules, one_set)
