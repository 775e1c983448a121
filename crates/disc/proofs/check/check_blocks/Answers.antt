use Rattle.std.proofs.Common.{◌≡◌, ◌<◌, false, length, sym, ap, ◌∙◌, arith}
use Rattle.disc.specs.Blocks.{at, blocks}
use Rattle.disc.specs.Layout.{head_at}
use Rattle.disc.specs.Check.{too_long}
use Rattle.disc.specs.Plans.{shape}
use Rattle.disc.proofs.Cuts.{cut_block, length_blocks}
use Rattle.disc.proofs.Verdicts.{lengths_refused, missing_refused, blocks_passed}
use Rattle.disc.proofs.check.check_blocks.Goals as goal
use Rattle.disc.proofs.check.check_blocks.Goals.{else-first-count-via-then-first-count+else-is_too_long, else-first-count-via-else-first-count}

pub returns-then-is_too_long : goal.returns-then-is_too_long
returns-then-is_too_long c =
    let n = length_blocks c.args.disc.now in
    lengths_refused (shape c.args.plan) (blocks c.args.disc.now) c.head_at-first.result (let b = c.args.plan.fit.bits in omega arith)
    (c.head_at-first.ensures.value ∙ ap (head_at (shape c.args.plan)) c.current_of.ensures.value) (omega arith)
    (ap (too_long (shape c.args.plan)) (sym (cut_block c.args.disc.now c.head_at-first.result (omega arith))) ∙ sym c.is_too_long.ensures ∙ c.if-is_too_long.true)

pub returns-then-count-room : goal.returns-then-count-room
returns-then-count-room c =
    let n = length_blocks c.args.disc.now in
    let s : c.head_at-first.result < length (blocks c.args.disc.now) → too_long (shape c.args.plan) (at (blocks c.args.disc.now) c.head_at-first.result) ≡ false =
    λ l. elim c.else-first-count.branch [
      | else-first-count-via-then-first-count+else-is_too_long w ↦
          ap (too_long (shape c.args.plan)) (sym (cut_block c.args.disc.now c.head_at-first.result (omega arith))) ∙ sym w.is_too_long.ensures ∙ w.if-is_too_long.false
      | else-first-count-via-else-first-count w ↦ absurd (let o = w.if-first-count.false in omega arith)
    ] in
    missing_refused (shape c.args.plan) (blocks c.args.disc.now) c.head_at-first.result (let b = c.args.plan.fit.bits in omega arith)
    (c.head_at-first.ensures.value ∙ ap (head_at (shape c.args.plan)) c.current_of.ensures.value) _ n s (let r = c.room.ensures.value in omega arith)

pub returns : goal.returns
returns c =
    let n = length_blocks c.args.disc.now in
    let s : c.head_at-first.result < length (blocks c.args.disc.now) → too_long (shape c.args.plan) (at (blocks c.args.disc.now) c.head_at-first.result) ≡ false =
    λ l. elim c.else-first-count.branch [
      | else-first-count-via-then-first-count+else-is_too_long w ↦
          ap (too_long (shape c.args.plan)) (sym (cut_block c.args.disc.now c.head_at-first.result (omega arith))) ∙ sym w.is_too_long.ensures ∙ w.if-is_too_long.false
      | else-first-count-via-else-first-count w ↦ absurd (let o = w.if-first-count.false in omega arith)
    ] in
    blocks_passed (shape c.args.plan) (blocks c.args.disc.now) c.head_at-first.result (let b = c.args.plan.fit.bits in omega arith)
    (c.head_at-first.ensures.value ∙ ap (head_at (shape c.args.plan)) c.current_of.ensures.value) s (let r = c.room.ensures.value in omega arith)
