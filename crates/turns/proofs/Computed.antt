-- Corners, computed. Assumes nothing.
use Rattle.std.proofs.Common.{refl}
use Rattle.octets.specs.Rows.{pick, over, lowest_from}
use Rattle.turns.specs.World.{is_free, is_running, is_left, left_with, is_nothing, is_write_end, is_read_end, leads_to, closed, with_processes, with_process, with_open, with_pipe, with_file, with_keys, with_shown, with_turn}
use Rattle.turns.specs.World.{with_parent, with_cpu, with_memory, with_handles, opened, end_behind, free_handle, second_handle, named, moved, without_parent, orphaned, loaded, nobody, process, runs_in, has_open, in_use, some_end, writers, readers}
use Rattle.turns.specs.World.{free_process, free_open, second_open, free_pipe, is_child, left_child, handle_of, end_of, with_handle, into_memory, leaves, forks, waits, execs, opens, closes, copies, pipes_through, reads_from, reads_by, reads, writes_to, writes_by, writes, ends_at, ends, does}
use Rattle.turns.specs.World.{passes, spends, goes_on, after_call, acts, instruction, event, run, begin, ticks}
use Rattle.turns.specs.Corners.{small, bare, first, calls, mine, last, left, orphan, stopped, Corners}

-- to unfold this is to unfold all that the world computes with
unfoldable pub computes : Unit {0}
unfolding pick over lowest_from is_free is_running is_left left_with is_nothing is_write_end is_read_end leads_to closed with_processes with_process with_open with_pipe with_file with_keys with_shown with_turn with_parent with_cpu with_memory with_handles opened end_behind free_handle second_handle named moved without_parent orphaned loaded nobody process runs_in has_open in_use some_end writers readers free_process free_open second_open free_pipe is_child left_child handle_of end_of with_handle into_memory leaves forks waits execs opens closes copies pipes_through reads_from reads_by reads writes_to writes_by writes ends_at ends does passes spends goes_on after_call acts instruction event run begin ticks
computes = tt

pub corners : Corners
unfolding computes small bare first calls mine last left orphan stopped
corners =
    record {
      read_nothing = refl;
      write_nothing = refl;
      read_beyond = refl;
      read_wraps_not = refl;
      read_all = refl;
      read_too_much = refl;
      no_handle = refl;
      far_handle = refl;
      no_keys = refl;
      read_at_end = refl;
      gap = refl;
      longest = refl;
      too_long = refl;
      too_long_leaves = refl;
      ends = refl;
      end_beyond = refl;
      end_beyond_leaves = refl;
      end_screen = refl;
      opens_screen = refl;
      no_name = refl;
      exec_screen = refl;
      copy_itself = refl;
      copy_itself_leaves = refl;
      copy_over = refl;
      copy_none = refl;
      copy_far = refl;
      close_none = refl;
      own_writer = refl;
      no_writer = refl;
      no_reader = refl;
      other_writer = refl;
      part = refl;
      part_is_front = refl;
      full = refl;
      wrong_end = refl;
      second_pipe = refl;
      pipe_beyond = refl;
      pipe_at_end = refl;
      pipe_again = refl;
      wait_alone = refl;
      wait_running = refl;
      wait_stranger = refl;
      orphan_parent = refl;
      orphan_first = refl;
      orphan_second = refl;
      orphan_third = refl;
      not_yet_free = refl;
      fork_answer = refl;
      fork_child = refl;
      shared_place = refl;
      leave_number = refl;
      unknown = refl;
      keys = refl;
      key_byte = refl;
      stopped_tick = refl;
      stopped_key = refl;
    }
