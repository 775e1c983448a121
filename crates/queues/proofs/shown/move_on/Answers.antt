use Rattle.std.proofs.Common.{◌≡◌, ◌+◌, get_or, arith, rules}
use Rattle.std.proofs.lemmas.List.{get_or_default, places}
use Rattle.std.proofs.lemmas.List.Edits.{map_over_more}
use Rattle.queues.proofs.shown.move_on.Goals as goal

pub overflow_add-begin : goal.overflow_add-begin
overflow_add-begin c =
    let i = c.loop-begin.begin-index in
    let same : get_or c.loop-begin.begin-items i 0 ≡ get_or c.args.begins.now i 0 = rw c.loop-begin.invariant (search (rules, places)) in
    omega (arith, same, c.requires.fits i 0 c.loop-begin-test.true)

pub loop-begin-preserved : goal.loop-begin-preserved
loop-begin-preserved c =
    let i = c.loop-begin.begin-index in
    let xs = c.loop-begin.begin-items in
    map_over_more (λ b. b + c.args.n) c.args.begins.now xs i (get_or xs i 0) c.loop-begin-test.true c.loop-begin.invariant (get_or_default xs i 0 (get_or xs i 0) (omega arith))
