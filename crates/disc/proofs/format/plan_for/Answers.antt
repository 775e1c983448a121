use Rattle.std.proofs.Common.{vec_items, sym, ◌∙◌, arith}
use Rattle.std.proofs.lemmas.List.{length-map}
use Rattle.disc.specs.Plans.{shape}
use Rattle.disc.proofs.Images.{planned, long_at, long_nowhere}
use Rattle.disc.proofs.format.plan_for.Goals as goal

pub returns-in-Some-clause-value : goal.returns-in-Some-clause-value
returns-in-Some-clause-value c =
    let n = length-map c.args.files.now vec_items in
    let l = long_at c.args.sizes vec_items c.args.files.now c.in-Some.f (sym c.first_long.ensures ∙ c.in-Some.is) in
    let o = l.0 in
    ((c.in_ok-size.ensures.0, omega arith), l.2, omega arith, l.1)

pub returns-then-len-size-clause-value : goal.returns-then-len-size-clause-value
returns-then-len-size-clause-value c =
    let n = length-map c.args.files.now vec_items in
    let s = long_nowhere c.args.sizes vec_items c.args.files.now (sym c.first_long.ensures ∙ c.in_default.is) in
    ((c.in_ok-size.ensures.0, omega arith), (λ f l. s f (omega arith)), c.in_ok-size.ensures.1, c.if-len-size.true)

pub returns-clause-fits : goal.returns-clause-fits
returns-clause-fits c =
    let n = length-map c.args.files.now vec_items in
    let s = long_nowhere c.args.sizes vec_items c.args.files.now (sym c.first_long.ensures ∙ c.in_default.is) in
    ((c.in_ok-size.ensures.0, omega arith), λ f l. s f (omega arith))

pub returns-clause-plan : goal.returns-clause-plan
returns-clause-plan c =
    let n = length-map c.args.files.now vec_items in
    let e = c.in_ok-size.ensures.1 in
    let s = long_nowhere c.args.sizes vec_items c.args.files.now (sym c.first_long.ensures ∙ c.in_default.is) in
    planned c.args.sizes (shape c.new.result) _ c.args.len c.new.ensures c.in_ok-size.ensures.0 (omega arith) (omega arith) (λ f l. s f (omega arith))
