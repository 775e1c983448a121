use Rattle.std.proofs.Common.{arith}
use Rattle.processes.proofs.Changed.{kept_on}
use Rattle.processes.proofs.Piped.{tabled_piped}
use Rattle.processes.proofs.Tables.put_pipe.Goals as goal

pub returns : goal.returns
returns c m =
    record {
      kept = kept_on _ _ _ (kept_on _ _ _ (kept_on _ _ _ c.set_open.ensures.kept c.set_open-2.ensures.kept) c.set_handle.ensures.kept) c.set_handle-2.ensures.kept;
      tabled = λ w h.
          tabled_piped _ w c.args.p c.args.ends m (omega (arith, h.places, c.requires.runs.0))
          (c.set_handle-2.ensures.tabled _ (c.set_handle.ensures.tabled _ (c.set_open-2.ensures.tabled _ (c.set_open.ensures.tabled w h))));
    }
