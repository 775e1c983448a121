use Rattle.std.proofs.Common.{◌≡◌, Ok, Err, sym, ap, ◌∙◌, rules}
use Rattle.inputs.proofs.Scripting.{so_far_none, so_far_nothing, so_far_more, so_far_bad, so_far_all}
use Rattle.inputs.proofs.scripts.read_script.Goals as goal

pub loop-number-init : goal.loop-number-init
loop-number-init c =
    rw c.into_iter-number-iterator.ensures.into_iter_gives
    (tt, tt, so_far_none c.args.text.now _ _ c.of-number-items.ensures.text c.of-number-items.ensures.at c.of-number-items.ensures.number c.new-out.ensures.items)

pub returns-in_err-input : goal.returns-in_err-input
returns-in_err-input c =
    let q : c.from_residual.result ≡ Err c.in_err-input.field-0.0 = search rules in
    rw q (so_far_bad _ _ _ _ _ _ _ c.in-Some.ensures.steps (sym c.read_numbered.ensures ∙ c.in_err-input.was) c.loop-number.invariant.2)

pub loop-number-preserved-in_default : goal.loop-number-preserved-in_default
loop-number-preserved-in_default c =
    (tt, tt, so_far_nothing _ _ _ _ _ _ c.in-Some.ensures.steps (sym c.read_numbered.ensures ∙ c.in_ok-input.was ∙ ap (λ o. Ok o) c.in_default.is) c.loop-number.invariant.2)

pub loop-number-preserved : goal.loop-number-preserved
loop-number-preserved c =
    (tt, tt, so_far_more _ _ _ _ _ _ _ _ c.in-Some.ensures.steps (sym c.read_numbered.ensures ∙ c.in_ok-input.was ∙ ap (λ o. Ok o) c.in-Some-2.is) c.in_ok-push_input.ensures c.loop-number.invariant.2)

pub returns : goal.returns
returns c = so_far_all _ _ _ c.in-None.ensures.steps.0 c.loop-number.invariant.2
