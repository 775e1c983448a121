use Rattle.std.proofs.Common.{refl}
use Rattle.processes.proofs.Changed.{follows_place, same_begun}
use Rattle.processes.proofs.Tables.begin_program.Goals as goal

pub returns : goal.returns
returns c m =
    follows_place c.args.self.now c.args.p _ _ (search) c.requires.runs.0 (λ w h. same_begun _ _ _ _ m (h.each c.args.p) c.requires.runs.1 c.start.ensures) refl
