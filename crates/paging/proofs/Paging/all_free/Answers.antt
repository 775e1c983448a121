use Rattle.std.proofs.Common.{refl}
use Rattle.octets.proofs.Tests.{get_or_all}
use Rattle.paging.proofs.Paging.all_free.Goals as goal

pub returns : goal.returns
returns c = record { free = refl; rows = refl; none = λ p. get_or_all 64 p 0 }
