use Rattle.std.proofs.Common.{arith, rules, tests}
use Rattle.inputs.specs.Texts.{is_hash}
use Rattle.inputs.proofs.Reading.{found_by_find}
use Rattle.inputs.proofs.lines.Line.without_comment.Goals as goal

pub invariant_of-result : goal.invariant_of-result
invariant_of-result c =
    let f = found_by_find is_hash c.args.self.text.now c.args.self.at c.args.self.end _ _ c.args.self.order (c.find.ensures is_hash (λ b r q. search (rules, tests))) c.unwrap_or-end.ensures in
    record { order = f.1; within = omega (arith, f.2, c.args.self.within) }

pub returns-clause-end : goal.returns-clause-end
returns-clause-end c = (found_by_find is_hash c.args.self.text.now c.args.self.at c.args.self.end _ _ c.args.self.order (c.find.ensures is_hash (λ b r q. search (rules, tests))) c.unwrap_or-end.ensures).0
