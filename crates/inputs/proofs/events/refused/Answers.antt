use Rattle.std.proofs.Common.{◌+◌, sym, ap, ◌∙◌, arith}
use Rattle.inputs.proofs.Steps.{peeked_none, peeked_some, ticks_same, after_same, refused_broken, refused_many, refusal_on, refusal_end, written_out}
use Rattle.inputs.specs.Events.{ticks_of, length_of}
use Rattle.inputs.proofs.events.refused.Goals as goal

pub returns-in_default-clause-place : goal.returns-in_default-clause-place
returns-in_default-clause-place c =
    sym (refused_broken _ _ c.loop-i.total c.loop-i-test.true (peeked_none c.args.events.now c.loop-i.i (cc))) ∙ c.loop-i.invariant.0

pub returns-then-total-gt-MOST_TICKS-clause-place : goal.returns-then-total-gt-MOST_TICKS-clause-place
returns-then-total-gt-MOST_TICKS-clause-place c =
    let p = peeked_some c.args.events.now c.loop-i.i c.in-Some.input (sym c.in-Some.is ∙ c.peek.ensures) in
    let t = c.ticks_of.ensures.value ∙ ap ticks_of p.1 ∙ ticks_same c.args.events.now c.loop-i.i in
    sym (refused_many _ _ c.loop-i.total c.loop-i-test.true (omega (arith, t))) ∙ c.loop-i.invariant.0

pub loop-i-preserved : goal.loop-i-preserved
loop-i-preserved c =
    let p = peeked_some c.args.events.now c.loop-i.i c.in-Some.input (sym c.in-Some.is ∙ c.peek.ensures) in
    let t = c.ticks_of.ensures.value ∙ ap ticks_of p.1 ∙ ticks_same c.args.events.now c.loop-i.i in
    let a = ap (λ n. c.loop-i.i + n) (c.length_of-i.ensures ∙ ap length_of p.1) ∙ after_same c.args.events.now c.loop-i.i in
    (rw (a, t) (sym (refusal_on _ _ c.loop-i.total c.loop-i-test.true p.0 (omega (arith, t))) ∙ c.loop-i.invariant.0), omega arith)

pub returns : goal.returns
returns c =
    let e = sym (refusal_end _ _ c.loop-i.total c.loop-i-test.false) ∙ c.loop-i.invariant.0 in
    record { place = e; whole = written_out _ _ (λ k. omega (arith, c.type_inv.events k)) e }
