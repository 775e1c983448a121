use Rattle.std.proofs.Common.{refl}
use Rattle.processes.proofs.Changed.{follows_place, same_cpu}
use Rattle.processes.proofs.Tables.put_cpu.Goals as goal

pub returns : goal.returns
returns c = follows_place c.args.self.now c.args.p _ _ (search) c.requires.there (λ w h. same_cpu _ _ _ _ _ (h.each c.args.p) (λ _. refl)) refl
