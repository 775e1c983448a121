use Rattle.std.proofs.Common.{ap, ◌∙◌, arith, length-drop, length-take}
use Rattle.disc.specs.Layout.{head_at}
use Rattle.disc.specs.Plans.{shape}
use Rattle.disc.proofs.Places.{header_bytes}
use Rattle.disc.proofs.layout.header_of.Goals as goal

pub returns : goal.returns
returns c =
    record {
      value = header_bytes (shape c.args.plan) c.args.disc.now c.head_at-first.result _ (omega arith)
          (c.head_at-first.ensures.value ∙ ap (head_at (shape c.args.plan)) c.current_of.ensures.value) (omega arith);
      size = simp (length-take, length-drop) (omega arith);
    }
