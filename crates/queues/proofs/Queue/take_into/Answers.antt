use Rattle.std.proofs.Common.{◌≡◌, length, take, ap, refl, ◌∙◌, arith, rules}
use Rattle.std.proofs.lemmas.List.{take_at}
use Rattle.queues.specs.Rings.{queued}
use Rattle.queues.proofs.Rounds.{read_queued}
use Rattle.queues.proofs.Queue.take_into.Goals as goal

pub returns-clause-bytes : goal.returns-clause-bytes
returns-clause-bytes c =
    let out = c.read_round.new.out in
    let n : length out ≡ c.min-count.result = search rules in
    take_at out _ _ n ∙ read_queued c.args.self.now c.args.rows.now out c.args.t _ refl (omega arith) (λ k l. c.read_round.ensures k (omega arith)) ∙ ap (λ k. take k (queued c.args.self.now c.args.rows.now c.args.t)) n
