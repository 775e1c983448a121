use Rattle.std.proofs.Common.{◌≡◌, length, take, refl, arith, rules}
use Rattle.std.proofs.lemmas.List.{length-take-le}
use Rattle.queues.proofs.Rounds.{put_queued, put_others}
use Rattle.queues.proofs.Queue.put.Goals as goal

pub returns-clause-queue : goal.returns-clause-queue
returns-clause-queue c =
    let bs = take c.min-n.result c.args.bytes.now in
    let n : length bs ≡ c.min-n.result = length-take-le _ _ (omega arith) in
    put_queued c.args.self.now _ c.args.rows.now c.write_round.new.row bs c.args.t _ refl (omega arith) (search rules) (omega arith) refl (omega arith) c.write_round.ensures

pub returns-clause-others : goal.returns-clause-others
returns-clause-others c = put_others c.args.rows.now c.write_round.new.row c.args.t _ refl (omega arith) (search rules)
