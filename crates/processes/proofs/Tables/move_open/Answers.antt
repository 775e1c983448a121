use Rattle.processes.proofs.Changed.{follows_moved}
use Rattle.processes.proofs.Tables.move_open.Goals as goal

pub returns : goal.returns
returns c = follows_moved c.args.self.now c.args.k c.args.n (search) c.requires.there
