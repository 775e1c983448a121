use Rattle.std.proofs.Common.{length, set, ap, ◌∙◌, arith}
use Rattle.disc.specs.Blocks.{blocks}
use Rattle.disc.proofs.Cuts.{blocks_put}
use Rattle.disc.proofs.blocks.overwrite.Goals as goal

pub returns : goal.returns
returns c =
    let e = c.copy_from_slice.ensures.after in
    blocks_put c.args.disc.now c.copy_from_slice.new.self c.args.block _ (omega arith) (omega arith) (ap length e ∙ omega arith) ∙ ap (λ ys. set (blocks c.args.disc.now) c.args.block ys) e
