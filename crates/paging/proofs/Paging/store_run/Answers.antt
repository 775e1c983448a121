use Rattle.std.proofs.Common.{◌≡◌, ◌+◌, ◌-◌, ◌≤◌, length, get_or, take, ap, ◌∙◌, arith}
use Rattle.std.proofs.lemmas.List.{length-take-le, get_or-take}
use Rattle.paging.specs.Tables.{place}
use Rattle.octets.proofs.Parts.{part_in, part_long}
use Rattle.paging.proofs.Parts.{part_else}
use Rattle.paging.proofs.Putting.{put_page}
use Rattle.paging.proofs.Paging.store_run.Goals as goal

pub returns : goal.returns
returns c =
    let f = c.args.frames.now in
    let at = c.place_of-at.result in
    let n = c.min-n.result in
    let bs = c.args.bytes.now in
    let ys = c.copy_from_slice.new.self in
    let e : ys ≡ take n bs = c.copy_from_slice.ensures.after in
    let small : n ≤ length bs = omega (arith, c.min-n.ensures) in
    let fits : at + n ≤ length f = omega (arith, c.place_of-at.ensures.within, c.min-n.ensures) in
    let long : length ys ≡ at + n - at = omega (arith, ap length e, length-take-le n bs small) in
    let is : at ≡ place f c.args.p c.args.a = c.place_of-at.ensures.value in
    record {
      long = c.min-n.ensures;
      put = put_page c.args.self.now f _ c.requires.sound c.args.p c.args.a n (λ k. get_or bs k 0) (c.requires.process, omega arith) (omega (arith, c.min-n.ensures))
          (part_long f ys at (at + n) long (omega arith) fits)
          (λ k l. rw (← is) (part_in f ys at (at + n) long (omega arith) fits k (omega arith) ∙ ap (λ zs. get_or zs k 0) e ∙ get_or-take n bs k 0 l))
          (rw (← is) (part_else f ys at (at + n) long (omega arith) fits));
    }
