use Rattle.std.proofs.Common.{◌+◌, ◌*◌, ap, ◌∙◌, arith, ℕ}
use Rattle.disc.specs.Layout.{place}
use Rattle.disc.specs.Plans.{shape}
use Rattle.disc.specs.Lent.{header_of}
use Rattle.disc.proofs.Held.{block_as}
use Rattle.disc.proofs.files.Files.is_same_block.Goals as goal

pub returns : goal.returns
returns c =
    let s = c.args.self.now in
    c.is_same_row.ensures
    ∙ block_as (shape s.plan) (header_of s) s.disc.now c.args.bytes.now c.args.f c.args.b c.place_of-block.result _ c.requires.file s.large c.requires.block c.requires.long (omega arith) (omega arith)
    (c.place_of-block.ensures.value ∙ ap (λ (x : ℕ). place (shape s.plan) x (c.args.f * s.plan.each + c.args.b)) c.copy_of.ensures.value)
