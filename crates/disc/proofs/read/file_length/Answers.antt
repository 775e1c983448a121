use Rattle.std.proofs.Common.{◌∙◌, arith}
use Rattle.disc.specs.Plans.{shape}
use Rattle.disc.proofs.Held.{large_of, opened}
use Rattle.disc.proofs.read.file_length.Goals as goal

pub header_of-requires : goal.header_of-requires
header_of-requires c = record { large = large_of c.args.sizes c.args.disc.now (shape c.new-plan.result) c.new-plan.ensures c.requires.taken }

pub returns : goal.returns
returns c =
    let o = opened c.args.sizes c.args.disc.now c.args.f c.header_of.result.now (shape c.new-plan.result) c.new-plan.ensures c.requires.taken c.requires.file
    c.header_of.ensures.value in
    let s = o.small in
    let e = c.length_of.ensures.value in
    record { value = e ∙ o.long; within = omega arith }
