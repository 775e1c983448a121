use Rattle.std.proofs.Common.{refl}
use Rattle.turns.specs.World.{with_handle}
use Rattle.processes.proofs.Changed.{follows_place, same_handle}
use Rattle.processes.proofs.Tables.set_handle.Goals as goal

pub returns : goal.returns
unfolding with_handle
returns c =
    rw c.set_handle.ensures.set
    (follows_place c.args.self.now c.args.p _ _ (search) c.requires.runs.0
    (λ w h. same_handle _ _ _ c.args.h c.args.to c.set_handle.ensures.within c.requires.runs.1 c.requires.there (h.each c.args.p)) refl)
