use Rattle.processes.proofs.Begun.{tabled_started}
use Rattle.processes.proofs.Tables.start.Goals as goal

pub returns-clause-tabled : goal.returns-clause-tabled
returns-clause-tabled c = rw (c.empty-nobody.ensures, c.first.ensures) (λ files. tabled_started c.args.sizes files _)
