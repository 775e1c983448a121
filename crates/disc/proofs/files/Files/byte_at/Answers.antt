use Rattle.std.proofs.Common.{ℕ, ◌+◌, ◌*◌, ◌/◌, ap, ◌∙◌, arith}
use Rattle.disc.specs.Layout.{place}
use Rattle.disc.specs.Plans.{shape}
use Rattle.disc.specs.Lent.{header_of}
use Rattle.disc.proofs.Places.{file_byte}
use Rattle.disc.proofs.files.Files.byte_at.Goals as goal

pub returns : goal.returns
returns c =
    let s = c.args.self.now in
    let d = s.plan.fit.deep in
    file_byte (shape s.plan) (header_of s) s.disc.now c.args.f c.requires.file s.large c.args.at c.place_of-block.result c.requires.within (omega arith)
    (c.place_of-block.ensures.value ∙ ap (λ (x : ℕ). place (shape s.plan) x (c.args.f * s.plan.each + c.args.at / 512)) c.copy_of.ensures.value)
