use Rattle.std.proofs.Common.{refl, rules, tests}
use Rattle.inputs.specs.Texts.{in_word, is_blank}
use Rattle.inputs.proofs.Reading.{found_by_find}
use Rattle.inputs.proofs.lines.Line.word.Goals as goal

pub invariant_of-rest : goal.invariant_of-rest
invariant_of-rest c =
    let f = found_by_find in_word c.args.self.now.text.now c.args.self.now.at c.args.self.now.end _ _ c.args.self.now.order (c.find.ensures in_word (λ b r q. search (rules, tests))) c.unwrap_or-from.ensures in
    record { order = f.2; within = c.args.self.now.within }

pub returns : goal.returns
returns c =
    let f = found_by_find in_word c.args.self.now.text.now c.args.self.now.at c.args.self.now.end _ _ c.args.self.now.order (c.find.ensures in_word (λ b r q. search (rules, tests))) c.unwrap_or-from.ensures in
    let t = found_by_find is_blank c.args.self.now.text.now c.unwrap_or-from.result c.args.self.now.end _ _ f.2 (c.find-2.ensures is_blank (λ b r q. search (rules, tests))) c.unwrap_or-to.ensures in
    record { place = rw (t.0, f.0) refl; behind = f.1; order = t.1; within = t.2 }
