use Rattle.std.proofs.Common.{sym, ◌∙◌}
use Rattle.processes.proofs.Piped.{all_there}
use Rattle.processes.proofs.Tables.find_pipe.Goals as goal

pub returns : goal.returns
returns c w h =
    all_there _ w h _ _ _ _ _ _ (sym c.free_pipe.ensures.seen ∙ c.in_ok-pipe.was) (sym c.free_open.ensures.seen ∙ c.in_ok-read_open.was)
    (sym c.free_open-2.ensures.seen ∙ c.in_ok-write_open.was) (sym c.free_handle.ensures.seen ∙ c.in_ok-read_handle.was)
    (sym c.free_handle-2.ensures.seen ∙ c.in_ok-write_handle.was)
