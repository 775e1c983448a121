use Rattle.std.proofs.Common.{◌≡◌, Some, None, rules}
use Rattle.instructions.specs.Encode.{encode_of}
use Rattle.instructions.proofs.Inverse.{answer_inverse}
use Rattle.instructions.proofs.encoding.encode.Goals as goal

pub returns-then-not-is_formed-clause-inverse : goal.returns-then-not-is_formed-clause-inverse
returns-then-not-is_formed-clause-inverse c =
    let e : None ≡ encode_of c.args.instruction = search rules in
    answer_inverse _ _ e

pub returns-clause-inverse : goal.returns-clause-inverse
returns-clause-inverse c =
    let e : Some c.word_of.result ≡ encode_of c.args.instruction = search rules in
    answer_inverse _ _ e
