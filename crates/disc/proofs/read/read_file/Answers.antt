use Rattle.std.proofs.Common.{length, arith}
use Rattle.disc.specs.Plans.{shape}
use Rattle.disc.proofs.Held.{large_of, opened, stretch_as}
use Rattle.disc.proofs.read.read_file.Goals as goal

pub header_of-head-requires : goal.header_of-head-requires
header_of-head-requires c = record { large = large_of c.args.sizes c.args.disc.now (shape c.new-plan.result) c.new-plan.ensures c.requires.taken }

pub invariant_of-read : goal.invariant_of-read
invariant_of-read c =
    record { large = large_of c.args.sizes c.args.disc.now (shape c.new-plan.result) c.new-plan.ensures c.requires.taken; size = c.header_of-head.ensures.size }

pub read-requires-clause-within : goal.read-requires-clause-within
read-requires-clause-within c =
    let n = (opened c.args.sizes c.args.disc.now c.args.f c.header_of-head.result.now (shape c.new-plan.result) c.new-plan.ensures c.requires.taken c.requires.file
    c.header_of-head.ensures.value).long in
    omega arith

pub read-requires-clause-sound : goal.read-requires-clause-sound
read-requires-clause-sound c =
    (opened c.args.sizes c.args.disc.now c.args.f c.header_of-head.result.now (shape c.new-plan.result) c.new-plan.ensures c.requires.taken c.requires.file
    c.header_of-head.ensures.value).sound

pub returns : goal.returns
returns c =
    let o = opened c.args.sizes c.args.disc.now c.args.f c.header_of-head.result.now (shape c.new-plan.result) c.new-plan.ensures c.requires.taken c.requires.file
    c.header_of-head.ensures.value in
    stretch_as c.read.new.out _ _ (length c.args.out.now) c.args.from c.read.ensures o.same
