use Rattle.std.proofs.Common.{arith}
use Rattle.paging.proofs.Finding.{Located, located_new, located_old, located_value, located_holds, located_within}
use Rattle.paging.proofs.Cache.find.Goals as goal
use Rattle.paging.proofs.Cache.find.Goals.{then-page-self+else-page-paging, else-page-self}

pub returns : goal.returns
returns c =
    let g = c.args.paging.now in
    let f = c.args.frames.now in
    let p = c.args.p in
    let a = c.args.a in
    let s = c.requires.sound in
    let l : Located g f p a c.if-page-self.self = elim c.if-page-self.branch [
      | then-page-self+else-page-paging w ↦ located_new g f p a _ _ (c.requires.process, omega (arith, w.if-page-paging.false)) w.self-is w.frame.ensures.value
      | else-page-self w ↦ located_old g f p a _ _ (omega arith) w.self-is w.if-page-self.false c.requires.holds
    ] in
    record { value = located_value g f s p a _ l; within = located_within g f s p a _ l; holds = located_holds g f s p a _ l }
