use Rattle.turns.specs.World.{leaves, is_running}
use Rattle.processes.proofs.Changed.{follows_left}
use Rattle.processes.proofs.Tables.leave.Goals as goal

pub returns : goal.returns
unfolding leaves is_running
returns c =
    rw c.put_away.ensures (follows_left c.args.self.now c.orphan.new.self c.args.p c.args.n c.orphan.ensures (search) c.requires.there)
