use Rattle.std.proofs.Common.{◌≡◌, Err, sym, rules}
use Rattle.inputs.proofs.Listing.{so_far_none, so_far_bad, so_far_more, so_far_all}
use Rattle.inputs.proofs.lists.read_list.Goals as goal

pub loop-number-init : goal.loop-number-init
loop-number-init c =
    rw (c.into_iter-number-iterator.ensures.into_iter_gives, c.new-draft.ensures)
    (tt, tt, sym c.of-number-items.ensures.number, so_far_none c.args.text.now _ c.of-number-items.ensures.text c.of-number-items.ensures.at c.of-number-items.ensures.number)

pub returns-in_err-read : goal.returns-in_err-read
returns-in_err-read c =
    let q : c.from_residual.result ≡ Err c.in_err-read.field-0.0 = search rules in
    rw q (record { value = so_far_bad _ _ _ _ _ _ c.read.new.self _ c.in-Some.ensures.steps c.in_err-read.ensures.value c.loop-number.invariant.3; paths = tt })

pub loop-number-preserved : goal.loop-number-preserved
loop-number-preserved c =
    let t = c.in-Some.ensures.steps in
    (tt, tt, rw t.number (sym t.count), so_far_more _ _ _ _ _ _ _ t c.in_ok-read.ensures.value c.in_ok-read.ensures.within c.loop-number.invariant.3)

pub returns : goal.returns
returns c =
    let i = c.loop-number.invariant in
    let a = so_far_all _ _ c.loop-number.behind _ i.2 c.in-None.ensures.steps.0 i.3 in
    rw c.finish.ensures (record { value = a.0; paths = a.1 })
