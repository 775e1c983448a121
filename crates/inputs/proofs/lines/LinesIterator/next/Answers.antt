use Rattle.std.proofs.Common.{length, refl, arith, rules, tests}
use Rattle.inputs.specs.Texts.{is_newline}
use Rattle.inputs.proofs.Reading.{found_by_find}
use Rattle.inputs.proofs.lines.LinesIterator.next.Goals as goal

pub overflow_add-self : goal.overflow_add-self
overflow_add-self c =
    let f = found_by_find is_newline c.args.self.now.text.now c.args.self.now.at (length c.args.self.now.text.now) _ _ (omega arith) (c.find.ensures is_newline (λ b r q. search (rules, tests))) c.unwrap_or-end.ensures in
    omega (arith, f.2, c.fits-self)

pub invariant_of-self : goal.invariant_of-self
invariant_of-self c =
    let f = found_by_find is_newline c.args.self.now.text.now c.args.self.now.at (length c.args.self.now.text.now) _ _ (omega arith) (c.find.ensures is_newline (λ b r q. search (rules, tests))) c.unwrap_or-end.ensures in
    record { count = omega (arith, f.1, c.args.self.now.count); within = omega (arith, f.2) }

pub invariant_of-result : goal.invariant_of-result
invariant_of-result c =
    let f = found_by_find is_newline c.args.self.now.text.now c.args.self.now.at (length c.args.self.now.text.now) _ _ (omega arith) (c.find.ensures is_newline (λ b r q. search (rules, tests))) c.unwrap_or-end.ensures in
    record { order = f.1; within = f.2 }

pub returns-clause-steps : goal.returns-clause-steps
returns-clause-steps c =
    let f = found_by_find is_newline c.args.self.now.text.now c.args.self.now.at (length c.args.self.now.text.now) _ _ (omega arith) (c.find.ensures is_newline (λ b r q. search (rules, tests))) c.unwrap_or-end.ensures in
    record { more = c.if-at-text.false; number = refl; text = refl; at = refl; end = f.0; same = refl; next = refl; count = refl }
