use Rattle.std.proofs.Common.{length, arith}
use Rattle.disc.specs.Plans.{shape}
use Rattle.disc.specs.Lent.{header_of, file_of}
use Rattle.disc.proofs.Places.{file_length}
use Rattle.disc.proofs.Held.{stretch}
use Rattle.disc.proofs.files.Files.read.Goals as goal

pub returns : goal.returns
returns c =
    let s = c.args.self.now in
    let d = s.plan.fit.deep in
    let n = file_length (shape s.plan) (header_of s) s.disc.now c.args.f c.requires.file s.large (omega arith) in
    stretch (file_of s c.args.f) c.loop-k.out (length c.args.out.now) c.args.from (omega arith)
    (omega arith) (λ k l. c.loop-k.invariant k (omega arith))
