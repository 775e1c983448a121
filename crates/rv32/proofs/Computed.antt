-- Programs, computed.
use Rattle.std.proofs.Common.{refl}
use Rattle.octets.specs.Rows.{pick, over, lowest_from}
use Rattle.turns.specs.World.{is_free, is_running, is_left, left_with, is_nothing, is_write_end, is_read_end, leads_to, closed}
use Rattle.turns.specs.World.{with_processes, with_process, with_open, with_pipe, with_file, with_keys, with_shown, with_turn, with_parent, with_cpu, with_memory, with_handles}
use Rattle.turns.specs.World.{opened, end_behind, without_parent, orphaned, loaded, nobody, process, runs_in, handle_of, end_of, leaves, writes_to, writes_by, writes, does}
use Rattle.turns.specs.World.{passes, spends, goes_on, after_call, acts, instruction, event, run, begin, ticks}
use Rattle.rv32.specs.Act.{completed, effected, act_of}
use Rattle.rv32.specs.Programs.{sizes, bytes_of, li, with_text, hi, hello, stray, after, HelloShows, StrayEnds}

-- to unfold this is to unfold all that a run computes with
computes : Unit {0}
unfolding pick over lowest_from is_free is_running is_left left_with is_nothing is_write_end is_read_end leads_to closed with_processes with_process with_open with_pipe with_file with_keys with_shown with_turn with_parent with_cpu with_memory with_handles opened end_behind without_parent orphaned loaded nobody process runs_in handle_of end_of leaves writes_to writes_by writes does passes spends goes_on after_call acts instruction event run begin ticks completed effected act_of sizes bytes_of li with_text hi hello stray after
computes = tt

pub hello_shows : HelloShows
unfolding computes
hello_shows = (refl, refl, refl)

pub stray_ends : StrayEnds
unfolding computes
stray_ends = (refl, refl)
