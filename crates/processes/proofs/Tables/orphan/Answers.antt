use Rattle.std.proofs.Common.{◌≡◌, map, rules}
use Rattle.std.proofs.lemmas.List.Edits.{map_over_more}
use Rattle.std.proofs.lemmas.List.{take_all, drop_all}
use Rattle.processes.specs.Changes.{without_parent}
use Rattle.processes.proofs.Changed.{follows_lost}
use Rattle.processes.proofs.Tables.orphan.Goals as goal

pub loop-process-preserved : goal.loop-process-preserved
loop-process-preserved c = search (rules, map_over_more (without_parent c.args.p))

pub returns : goal.returns
returns c =
    let e : c.loop-process.process-items ≡ map (without_parent c.args.p) c.args.self.now.processes = search (rules, take_all, drop_all) in
    follows_lost c.args.self.now c.args.p _ e
