use Rattle.std.proofs.Common.{◌≡◌, ◌-◌, ◌≤◌, length, take, drop, ◌∙◌, arith}
use Rattle.std.proofs.lemmas.List.{length-drop, length-take-le, get_or-take, get_or-drop}
use Rattle.paging.proofs.Putting.{put_more}
use Rattle.paging.proofs.Paging.store_bytes.Goals as goal

pub loop-done-preserved : goal.loop-done-preserved
loop-done-preserved c =
    let bs = c.args.bytes.now in
    let d = c.loop-done.done in
    let whole : length (take (length bs - d) (drop d bs)) ≡ length bs - d = length-take-le (length bs - d) (drop d bs) (omega (arith, length-drop d bs)) in
    let less : c.store_run-done.result ≤ length bs - d = omega (arith, c.store_run-done.ensures.long, whole) in (
      omega arith,
      put_more _ _ _ _ _ _ _ _ _ _ c.requires.process (omega arith) c.loop-done.invariant.1 c.store_run-done.ensures.put
          (λ j l. get_or-take (length bs - d) (drop d bs) j 0 (omega arith) ∙ get_or-drop d bs j 0),
    )
