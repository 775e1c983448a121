use Rattle.std.proofs.Common.{◌≡◌, ◌-◌, ◌/◌, ap, arith}
use Rattle.paging.specs.Changes.{Ended}
use Rattle.paging.proofs.Moving.{held_same}
use Rattle.paging.proofs.Counting.{enough_low, enough_with}
use Rattle.paging.proofs.Living.{ended_none, ended_more}
use Rattle.paging.proofs.Paging.end.Goals as goal

pub loop-init : goal.loop-init
loop-init c = ended_none _ _ _ _ c.requires.sound (omega arith)

pub take_page-requires : goal.take_page-requires
take_page-requires c =
    let g = c.args.self.now in
    let has = held_same g c.loop.self c.args.p _ (ap (λ x. x.pages) c.loop.invariant.state) c.requires.sound.rows (omega arith) in
    record {
      sound = c.loop.invariant.sound;
      process = omega arith;
      some = omega (arith, has);
      room = omega (arith, ap (λ x. x.free) c.loop.invariant.state, enough_low c.args.sizes g c.requires.enough c.requires.sound.rows c.args.p c.requires.process (omega arith));
    }

pub loop-preserved : goal.loop-preserved
loop-preserved c =
    ended_more _ _ _ _ _ _ _ _ _ c.requires.sound (omega arith) (omega arith) (omega arith) c.loop.invariant c.take_page.ensures.state c.take_page.ensures.sound c.take_page.ensures.others

pub returns : goal.returns
returns c =
    let z = c.args.sizes in
    let g = c.args.self.now in
    let b : Ended g c.args.frames.now c.loop.self c.loop.frames c.args.p 0 = (let e : z.memory / 4096 - c.loop.counter ≡ 0 = omega arith in rw e at c.loop.invariant) in
    record { ended = b; enough = rw b.state (enough_with z g c.requires.enough c.requires.sound.rows c.args.p c.requires.process 0 (omega arith) (omega (arith, c.requires.all))) }
