use Rattle.std.proofs.Common.{refl, arith}
use Rattle.octets.proofs.Tests.{get_or_all}
use Rattle.std.proofs.lemmas.List.{get_or-replicate}
use Rattle.queues.proofs.Packs.{none_shown}
use Rattle.queues.proofs.Screens.empty.Goals as goal

pub invariant_of-result : goal.invariant_of-result
invariant_of-result c = record { from_start = refl; in_order = λ i j d h l. omega (arith, get_or-replicate 17 i 0 d (omega arith), get_or-replicate 17 j 0 d l) }

pub returns-clause-empty : goal.returns-clause-empty
returns-clause-empty c = none_shown _ (λ t. get_or_all 17 t 0)
