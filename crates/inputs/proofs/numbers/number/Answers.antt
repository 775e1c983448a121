use Rattle.std.proofs.Common.{sym, ◌∙◌}
use Rattle.std.proofs.lemmas.Bool.{eqb-true, eqb-false}
use Rattle.inputs.proofs.Reading.{number_none, number_more, number_fails, number_ends}
use Rattle.inputs.proofs.numbers.number.Goals as goal

pub returns-then-is_empty : goal.returns-then-is_empty
returns-then-is_empty c = sym (number_none _ (eqb-true _ _ (sym c.is_empty.ensures ∙ c.if-is_empty.true)))

pub loop-b-preserved : goal.loop-b-preserved
loop-b-preserved c = number_more _ _ _ _ c.loop-b-test.true (sym c.with_digit.ensures ∙ c.in_ok-n.was) c.loop-b.invariant

pub returns-in_err-n : goal.returns-in_err-n
returns-in_err-n c =
    c.from_residual.ensures ∙ number_fails _ _ _ (eqb-false _ _ (sym c.is_empty.ensures ∙ c.if-is_empty.false)) c.loop-b-test.true (sym c.with_digit.ensures ∙ c.in_err-n.was) c.loop-b.invariant

pub returns : goal.returns
returns c = number_ends _ _ _ (eqb-false _ _ (sym c.is_empty.ensures ∙ c.if-is_empty.false)) c.loop-b-test.false c.loop-b.invariant
