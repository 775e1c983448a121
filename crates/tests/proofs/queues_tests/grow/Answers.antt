use Rattle.std.proofs.Common.{replicate, arith}
use Rattle.tests.proofs.queues_tests.grow.Goals as goal

pub append-requires : goal.append-requires
append-requires g c = record { within = c.empty-screens.ensures.within (replicate 5 0); screen = omega arith }
