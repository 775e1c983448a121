use Rattle.std.proofs.Common.{refl}
use Rattle.queues.proofs.Rounds.{take_shorter}
use Rattle.queues.proofs.Queue.take.Goals as goal

pub returns-clause-queue : goal.returns-clause-queue
returns-clause-queue c = take_shorter c.args.self.now _ c.args.n c.requires.some refl refl
