use Rattle.paging.specs.Tables.{place}
use Rattle.paging.proofs.Putting.{number_stored}
use Rattle.paging.proofs.Finding.{found_by}
use Rattle.paging.proofs.Cache.store.Goals as goal

pub returns-clause-stored : goal.returns-clause-stored
returns-clause-stored g c =
    let here = found_by c.args.paging.now c.args.p c.args.a (place c.args.frames.now c.args.p c.args.a) c.in_ok-at.at c.find.result c.in_ok-at.was c.find.ensures.value in
    number_stored g.met.N.Number.laws c.args.paging.now c.args.frames.now c.write.new.row c.requires.sound c.args.p c.args.a c.in_ok-at.at c.args.value (c.requires.process, here.0) c.requires.aligned here.1 c.write.ensures.row

pub returns-clause-only : goal.returns-clause-only
returns-clause-only g c =
    let here = found_by c.args.paging.now c.args.p c.args.a (place c.args.frames.now c.args.p c.args.a) c.in_ok-at.at c.find.result c.in_ok-at.was c.find.ensures.value in
    (number_stored g.met.N.Number.laws c.args.paging.now c.args.frames.now c.write.new.row c.requires.sound c.args.p c.args.a c.in_ok-at.at c.args.value (c.requires.process, here.0) c.requires.aligned here.1 c.write.ensures.row).only

pub returns-clause-holds : goal.returns-clause-holds
returns-clause-holds g c =
    let here = found_by c.args.paging.now c.args.p c.args.a (place c.args.frames.now c.args.p c.args.a) c.in_ok-at.at c.find.result c.in_ok-at.was c.find.ensures.value in
    (number_stored g.met.N.Number.laws c.args.paging.now c.args.frames.now c.write.new.row c.requires.sound c.args.p c.args.a c.in_ok-at.at c.args.value (c.requires.process, here.0) c.requires.aligned here.1 c.write.ensures.row).only.caches c.args.p _ c.find.ensures.holds
