use Rattle.instructions.proofs.Masks as masks
use Rattle.instructions.proofs.fields.join.Goals as goal

pub returns : goal.returns
returns c = let a = c.args in masks.join a.count a.high a.low c.requires.1.0 c.requires.1.1
