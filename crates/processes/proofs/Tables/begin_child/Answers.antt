use Rattle.processes.proofs.Changed.{follows_state, same_child}
use Rattle.processes.proofs.Tables.begin_child.Goals as goal

pub returns : goal.returns
returns c =
    follows_state c.args.self.now c.args.q _ _ (search) c.requires.there (λ w h. same_child c.args.self.now w c.args.p _ h c.requires.runs.1 c.answer.ensures)
