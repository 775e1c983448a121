use Rattle.std.proofs.Common.{arith}
use Rattle.std.proofs.lemmas.List.{places}
use Rattle.queues.proofs.rings.write_round.Goals as goal

pub returns : goal.returns
returns c = record { here = λ k h. grind (arith, places); kept = λ k h l. grind (arith, places) }
