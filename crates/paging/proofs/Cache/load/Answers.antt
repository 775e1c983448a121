use Rattle.std.proofs.Common.{ap, ◌∙◌}
use Rattle.std.specs.Prelude.{slice_index}
use Rattle.paging.specs.Tables.{place}
use Rattle.paging.proofs.Putting.{number_here}
use Rattle.paging.proofs.Finding.{found_by, loaded_some}
use Rattle.paging.proofs.Cache.load.Goals as goal

pub returns : goal.returns
returns g c =
    let f = c.args.frames.now in
    let here = found_by c.args.paging.now c.args.p c.args.a (place f c.args.p c.args.a) c.in_ok-at.at c.find.result c.in_ok-at.was c.find.ensures.value in
    record {
      value = loaded_some c.args.paging.now c.args.p c.args.a _ _ here.0 (c.read.ensures ∙ ap (g.N.Number.from (slice_index f)) here.1 ∙ number_here g.met.N.Number.laws f c.args.p c.args.a c.requires.aligned);
      holds = c.find.ensures.holds;
    }
