use Rattle.processes.proofs.Changed.{follows_passed}
use Rattle.processes.proofs.Tables.pass.Goals as goal

pub returns : goal.returns
returns c = follows_passed c.args.self.now _ c.next_turn-self.ensures.next
