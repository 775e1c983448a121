use Rattle.std.proofs.Common.{◌≡◌, ◌/◌, ap, ◌∙◌, arith}
use Rattle.paging.specs.Tables.{byte_of}
use Rattle.paging.specs.Changes.{Begun}
use Rattle.paging.proofs.Moving.{held_same, held_other}
use Rattle.paging.proofs.Counting.{enough_free, enough_with}
use Rattle.paging.proofs.Living.{begun_none, begun_more}
use Rattle.paging.proofs.Paging.begin_copy.Goals as goal

pub loop-page-init : goal.loop-page-init
loop-page-init c = begun_none _ _ _ _ c.requires.sound c.requires.none

pub give_page-requires : goal.give_page-requires
give_page-requires c =
    let g = c.args.self.now in
    let has = held_same g c.loop-page.self c.args.to c.loop-page.page (ap (λ x. x.pages) c.loop-page.invariant.state) c.requires.sound.rows (omega arith) in
    record {
      sound = c.loop-page.invariant.sound;
      process = omega arith;
      room = omega (arith, has);
      some = omega (arith, ap (λ x. x.free) c.loop-page.invariant.state, enough_free c.args.sizes g c.requires.enough c.requires.sound.rows c.args.to c.requires.processes.1);
    }

pub copy_page-requires : goal.copy_page-requires
copy_page-requires c =
    let g = c.args.self.now in
    let has = held_same g c.loop-page.self c.args.to c.loop-page.page (ap (λ x. x.pages) c.loop-page.invariant.state) c.requires.sound.rows (omega arith) in
    let got = held_same c.loop-page.self c.give_page.new.self c.args.to _ (ap (λ x. x.pages) c.give_page.ensures.state) c.loop-page.invariant.sound.rows (omega arith) in
    let was = held_other g c.loop-page.self c.args.to _ c.args.from (ap (λ x. x.pages) c.loop-page.invariant.state) c.requires.apart in
    let still = held_other c.loop-page.self c.give_page.new.self c.args.to _ c.args.from (ap (λ x. x.pages) c.give_page.ensures.state) c.requires.apart in
    record { sound = c.give_page.ensures.sound; processes = (omega arith, omega arith); pages = (omega (arith, was, still), omega (arith, has, got)) }

pub loop-page-preserved : goal.loop-page-preserved
loop-page-preserved c =
    let g = c.args.self.now in
    let room = enough_free c.args.sizes g c.requires.enough c.requires.sound.rows c.args.to c.requires.processes.1 in
    let was = held_other g c.loop-page.self c.args.to _ c.args.from (ap (λ x. x.pages) c.loop-page.invariant.state) c.requires.apart in
    begun_more _ _ _ _ _ _ _ _ _ _ _ c.requires.sound (omega arith) (omega (arith, room)) c.loop-page.invariant c.give_page.ensures.state c.give_page.ensures.kept c.copy_page.ensures.sound
    c.copy_page.ensures.filled
    (λ a o. c.give_page.ensures.kept.bytes c.args.from a (omega arith, omega (arith, was)) ∙ c.loop-page.invariant.others.bytes c.args.from a c.requires.apart (omega arith, omega arith))

pub returns : goal.returns
returns c =
    let z = c.args.sizes in
    let g = c.args.self.now in
    let b : Begun g c.args.frames.now c.loop-page.self c.loop-page.frames c.args.to (z.memory / 4096) (byte_of c.args.frames.now c.args.from) =
    (let e : c.loop-page.page ≡ z.memory / 4096 = omega arith in rw e at c.loop-page.invariant) in
    record { begun = b; enough = rw b.state (enough_with z g c.requires.enough c.requires.sound.rows c.args.to c.requires.processes.1 (z.memory / 4096) (omega arith) (omega (arith, c.requires.none))) }
