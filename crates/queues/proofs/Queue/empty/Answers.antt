use Rattle.std.proofs.Common.{refl}
use Rattle.queues.proofs.Rounds.{queued_none}
use Rattle.queues.proofs.Queue.empty.Goals as goal

pub returns : goal.returns
returns c = λ xs t. queued_none _ xs t refl
