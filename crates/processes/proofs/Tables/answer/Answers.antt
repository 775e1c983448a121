use Rattle.std.proofs.Common.{refl, ap}
use Rattle.rv32.specs.declared.cpu.Cpu.{Cpu}
use Rattle.rv32.specs.Execute.{answered}
use Rattle.processes.proofs.Changed.{follows_place, same_cpu}
use Rattle.processes.proofs.Tables.answer.Goals as goal

pub returns : goal.returns
returns c =
    rw c.answer.ensures
    (follows_place c.args.self.now c.args.p _ _ (search) c.requires.runs.0
    (λ w h. same_cpu _ _ _ _ _ (h.each c.args.p) (λ e. ap (λ (x : Cpu). answered x c.args.value) ((h.each c.args.p).cpu e))) refl)
