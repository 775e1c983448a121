use Rattle.std.proofs.Common.{None, refl}
use Rattle.octets.proofs.Tests.{get_or_all}
use Rattle.turns.specs.World.{nobody, is_running}
use Rattle.processes.proofs.Changed.{follows_state, same_away}
use Rattle.processes.proofs.Tables.make_free.Goals as goal

pub returns : goal.returns
unfolding nobody is_running
returns c =
    rw c.put_away.ensures
    (follows_state c.args.self.now c.args.p _ _ (search) c.requires.there (λ w h. same_away _ _ _ refl refl refl (λ k. get_or_all 16 k None) refl))
