use Rattle.std.proofs.Common.{refl}
use Rattle.processes.proofs.Changed.{follows_thing}
use Rattle.processes.proofs.Tables.set_open.Goals as goal

pub returns : goal.returns
returns c = follows_thing c.args.self.now c.args.k _ _ (search) c.requires.there (λ w h. refl)
