use Rattle.instructions.proofs.Signs.{sign_extended_word}
use Rattle.instructions.proofs.fields.sign_extend.Goals as goal

pub returns : goal.returns
returns c = sign_extended_word c.args.count c.args.bits c.cast_signed.result c.requires.0 c.requires.1.0 c.requires.1.1 c.cast_signed.ensures
