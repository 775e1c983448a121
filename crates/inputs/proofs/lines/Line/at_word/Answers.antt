use Rattle.std.proofs.Common.{refl, arith, rules, tests}
use Rattle.inputs.specs.Texts.{in_word}
use Rattle.inputs.proofs.Reading.{found_none, found_some, word_again}
use Rattle.inputs.proofs.lines.Line.at_word.Goals as goal

pub returns-in_err-at : goal.returns-in_err-at
returns-in_err-at c =
    rw c.from_residual.ensures
    (found_none in_word c.args.self.text.now c.args.self.at c.args.self.end _ c.args.self.order (c.find.ensures in_word (λ b r q. search (rules, tests))) c.in_err-at.was)

pub invariant_of-result : goal.invariant_of-result
invariant_of-result c =
    let f = found_some in_word c.args.self.text.now c.args.self.at c.args.self.end c.in_ok-at.at _ c.args.self.order (c.find.ensures in_word (λ b r q. search (rules, tests))) c.in_ok-at.was in
    record { order = omega (arith, f.1); within = c.args.self.within }

pub returns : goal.returns
returns c =
    let f = found_some in_word c.args.self.text.now c.args.self.at c.args.self.end c.in_ok-at.at _ c.args.self.order (c.find.ensures in_word (λ b r q. search (rules, tests))) c.in_ok-at.was in
    (f.1, f.0, refl, refl, rw f.0 (word_again c.args.self.text.now c.args.self.at c.args.self.end c.args.self.order))
