use Rattle.std.proofs.Common.{◌≡◌, List, ℕ, [], get_or, take, ap, ◌∙◌, arith}
use Rattle.std.proofs.lemmas.List.{get_or-take, length-take}
use Rattle.disc.specs.Blocks.{at, blocks}
use Rattle.disc.proofs.Cuts.{chunks_blocks}
use Rattle.disc.proofs.Rows.{puts_none, spent_none, puts_more, spent_more}
use Rattle.disc.proofs.blocks.put_row.Goals as goal

pub loop-i-init : goal.loop-i-init
loop-i-init c = (puts_none _ _ _ _ _, spent_none _ _ _ (blocks c.args.disc.now) c.args.torn.now)

pub loop-i-preserved : goal.loop-i-preserved
loop-i-preserved c =
    let long = length-take c.args.n c.as_chunks.result.0.now in
    let e : get_or (take c.args.n c.as_chunks.result.0.now) c.loop-i.i [] ≡ at (blocks c.args.bytes.now) c.loop-i.i =
    get_or-take c.args.n c.as_chunks.result.0.now c.loop-i.i [] (omega arith)
    ∙ ap (λ (d : List (List ℕ)). at d c.loop-i.i) (c.as_chunks.ensures.front ∙ chunks_blocks c.args.bytes.now) in
    let d = c.loop-i.invariant.0 in
    let p = c.loop-i.invariant.1 in
    let b = c.put.ensures.disc in
    let s = c.put.ensures.power in
    let m = puts_more c.args.first (at (blocks c.args.bytes.now)) c.args.power.now (blocks c.args.disc.now) c.args.torn.now c.loop-i.i in
    let n = spent_more c.args.first (at (blocks c.args.bytes.now)) c.args.power.now (blocks c.args.disc.now) c.args.torn.now c.loop-i.i in
    ((cc), (cc))
