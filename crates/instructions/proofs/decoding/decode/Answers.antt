use Rattle.std.proofs.Common.{◌≡◌, ◌^◌, ◌<◌, arith, rules}
use Rattle.instructions.specs.Decode.{decode_of}
use Rattle.instructions.proofs.Inverse.{encode_back}
use Rattle.instructions.proofs.decoding.decode.Goals as goal

pub returns-clause-back : goal.returns-clause-back
returns-clause-back c =
    let h : c.args.word < 2 ^ 32 = omega arith in
    let e : c.ok.result ≡ decode_of c.args.word = search rules in
    rw e (encode_back c.args.word h)
