use Rattle.std.proofs.Common.{◌≡◌, ◌/◌, refl, ap, arith}
use Rattle.paging.specs.Changes.{Begun}
use Rattle.paging.proofs.Moving.{held_same}
use Rattle.paging.proofs.Counting.{enough_free, enough_with}
use Rattle.paging.proofs.Living.{begun_none, begun_more}
use Rattle.paging.proofs.Paging.begin.Goals as goal

pub loop-i-init : goal.loop-i-init
loop-i-init c = begun_none _ _ _ _ c.requires.sound c.requires.none

pub give_page-requires : goal.give_page-requires
give_page-requires c =
    let g = c.args.self.now in
    let has = held_same g c.loop-i.self c.args.p c.loop-i.i (ap (λ x. x.pages) c.loop-i.invariant.state) c.requires.sound.rows (omega arith) in
    record {
      sound = c.loop-i.invariant.sound;
      process = omega arith;
      room = omega (arith, has);
      some = omega (arith, ap (λ x. x.free) c.loop-i.invariant.state, enough_free c.args.sizes g c.requires.enough c.requires.sound.rows c.args.p c.requires.process);
    }

pub loop-i-preserved : goal.loop-i-preserved
loop-i-preserved c =
    let room = enough_free c.args.sizes c.args.self.now c.requires.enough c.requires.sound.rows c.args.p c.requires.process in
    begun_more _ _ _ _ _ _ _ _ _ _ _ c.requires.sound (omega arith) (omega (arith, room)) c.loop-i.invariant c.give_page.ensures.state c.give_page.ensures.kept c.zero_page.ensures.sound
    c.zero_page.ensures.filled (λ a o. refl)

pub returns : goal.returns
returns c =
    let z = c.args.sizes in
    let g = c.args.self.now in
    let b : Begun g c.args.frames.now c.loop-i.self c.loop-i.frames c.args.p (z.memory / 4096) (λ _. 0) =
    (let e : c.loop-i.i ≡ z.memory / 4096 = omega arith in rw e at c.loop-i.invariant) in
    record { begun = b; enough = rw b.state (enough_with z g c.requires.enough c.requires.sound.rows c.args.p c.requires.process (z.memory / 4096) (omega arith) (omega (arith, c.requires.none))) }
