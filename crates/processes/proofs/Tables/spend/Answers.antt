use Rattle.std.proofs.Common.{arith}
use Rattle.processes.proofs.Changed.{follows_spent, follows_over}
use Rattle.processes.proofs.Tables.spend.Goals as goal

pub returns-then-self : goal.returns-then-self
returns-then-self c = follows_spent c.args.self.now

pub returns-else-self : goal.returns-else-self
returns-else-self c = follows_over c.args.self.now _ (omega arith) c.pass.ensures
