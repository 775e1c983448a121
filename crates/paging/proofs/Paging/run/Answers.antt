use Rattle.std.proofs.Common.{◌∙◌, arith}
use Rattle.paging.proofs.Putting.{run_long, run_byte}
use Rattle.paging.proofs.Paging.run.Goals as goal

pub returns : goal.returns
returns c =
    let f = c.args.frames.now in
    let e = c.place_of-at.ensures in
    let long = run_long f c.args.p c.args.a c.place_of-at.result c.min.result e.value (omega arith) e.within in
    record {
      long = long ∙ c.min.ensures;
      some = (omega (arith, long, c.min.ensures), omega (arith, long, c.min.ensures));
      bytes = run_byte f c.args.p c.args.a c.place_of-at.result c.min.result e.value (omega arith) e.within;
    }
