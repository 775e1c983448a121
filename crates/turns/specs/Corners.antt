-- Corners of the calls and of keys, computed on a small world. Assumes nothing: these are definitions and statements.
use Rattle.std.specs.Prelude.{◌≡◌, ℕ, ◌+◌, ◌*◌, List, [], ◌∷◌, Some, None, slice_index_or}
use Rattle.turns.specs.Core.{Core, wrong}
use Rattle.turns.specs.World.{World, process, does, event, run, begin, opened, pipe_of, file_of, no}
use Rattle.turns.specs.declared.vocabulary.Sizes.{Sizes}
use Rattle.turns.specs.declared.vocabulary.State.TheVariants.{Left}
use Rattle.turns.specs.declared.vocabulary.Call.{Call}
use Rattle.turns.specs.declared.vocabulary.Call.TheVariants.{Leave, Fork, Wait, Exec, Open, Close, Copy, Pipe, Read, Write, End, Unknown}
use Rattle.turns.specs.declared.vocabulary.Outcome.{Outcome}
use Rattle.turns.specs.declared.vocabulary.Outcome.TheVariants.{Answer, Stays}
use Rattle.turns.specs.declared.vocabulary.Event.TheVariants.{Tick, Key}

unfoldable pub small : Sizes
small = record { processes = 3; opens = 4; pipes = 1; handles = 5; memory = 4096; pipe = 4; file = 256; files = 2; screens = 1; turn = 8 }

-- a core that has no instructions and one register: the answer of the last call
unfoldable pub bare : Core ℕ
bare = record { fresh = λ m. m; act = λ c m. wrong; answered = λ c a. a }

-- process 0 runs "ab", and file 1 is "old"
unfoldable pub first : World ℕ
first = begin bare small ((97 ∷ 98 ∷ []) ∷ (111 ∷ 108 ∷ 100 ∷ []) ∷ [])

-- calls of processes, one after the other
unfoldable pub calls : World ℕ → List (ℕ × Call) → World ℕ
calls w [] = w
calls w (c ∷ cs) = calls (does bare small w c.0 c.1).world cs

-- what becomes of the last call of process 0 behind other calls of it
unfoldable pub mine : List Call → List (ℕ × Call)
mine [] = []
mine (c ∷ cs) = (0, c) ∷ mine cs

unfoldable pub last : List Call → Call → Outcome
last cs c = (does bare small (calls first (mine cs)) 0 c).outcome

unfoldable pub left : List Call → World ℕ
left cs = calls first (mine cs)

-- process 1 is left by its child 2, then leaves itself: 2 is process 0's to wait for
unfoldable pub orphan : World ℕ
orphan = calls first ((0, Fork) ∷ (1, Fork) ∷ (2, Leave 7) ∷ (1, Leave 5) ∷ [])

-- process 0 has left, its child runs
unfoldable pub stopped : World ℕ
stopped = calls first ((0, Fork) ∷ (0, Leave 3) ∷ [])

pub record Corners : Type 0 where
  -- n = 0 gives 0 before all else: before memory, before the handle
  pub read_nothing : last [] (Read 9 4294967295 0) ≡ Answer 0
  pub write_nothing : last [] (Write 9 4294967295 0) ≡ Answer 0
  -- then memory, judged by the n that is asked for, by sums that do not wrap
  pub read_beyond : last [] (Read 9 4096 1) ≡ Answer no
  pub read_wraps_not : last [] (Read 0 4294967295 2) ≡ Answer no
  pub read_all : last (Open 1 ∷ []) (Read 3 0 4096) ≡ Answer 3
  pub read_too_much : last (Open 1 ∷ []) (Read 3 1 4096) ≡ Answer no
  -- then the handle
  pub no_handle : last [] (Read 3 0 1) ≡ Answer no
  pub far_handle : last [] (Read 4294967295 0 1) ≡ Answer no
  pub no_keys : last [] (Read 0 4095 1) ≡ Stays
  -- files: their end, a gap of zeros, their greatest length, an end beyond the end
  pub read_at_end : last (Open 1 ∷ Read 3 0 3 ∷ []) (Read 3 0 1) ≡ Answer 0
  pub gap : file_of (left (Open 1 ∷ Open 1 ∷ Read 3 200 3 ∷ End 4 ∷ Write 3 0 1 ∷ [])) 1 ≡ 0 ∷ 0 ∷ 0 ∷ 97 ∷ []
  pub longest : last (Open 1 ∷ []) (Write 3 0 256) ≡ Answer 256
  pub too_long : last (Open 1 ∷ []) (Write 3 0 257) ≡ Answer no
  pub too_long_leaves : file_of (left (Open 1 ∷ Write 3 0 257 ∷ [])) 1 ≡ 111 ∷ 108 ∷ 100 ∷ []
  pub ends : file_of (left (Open 1 ∷ Read 3 200 1 ∷ End 3 ∷ [])) 1 ≡ 111 ∷ []
  pub end_beyond : last (Open 1 ∷ Open 1 ∷ Read 3 200 3 ∷ End 4 ∷ []) (End 3) ≡ Answer 0
  pub end_beyond_leaves : file_of (left (Open 1 ∷ Open 1 ∷ Read 3 200 3 ∷ End 4 ∷ End 3 ∷ [])) 1 ≡ []
  pub end_screen : last [] (End 0) ≡ Answer no
  -- names: files, then screens
  pub opens_screen : last [] (Open 2) ≡ Answer 3
  pub no_name : last [] (Open 3) ≡ Answer no
  pub exec_screen : last [] (Exec 2) ≡ Answer no
  -- copy onto itself changes nothing; copy over a used handle lets the old go; handles have an end
  pub copy_itself : last [] (Copy 0 0) ≡ Answer 0
  pub copy_itself_leaves : left (Copy 0 0 ∷ []) ≡ first
  pub copy_over : slice_index_or (process bare (left (Open 1 ∷ Copy 3 0 ∷ [])) 0).handles 0 None ≡ Some 1
  pub copy_none : last [] (Copy 3 0) ≡ Answer no
  pub copy_far : last [] (Copy 0 5) ≡ Answer no
  pub close_none : last [] (Close 3) ≡ Answer no
  -- a pipe whose only writer is its reader is waited for; without a writer it is at its end; without a reader nothing goes in
  pub own_writer : last (Pipe 200 ∷ []) (Read 3 0 1) ≡ Stays
  pub no_writer : last (Pipe 200 ∷ Close 4 ∷ []) (Read 3 0 1) ≡ Answer 0
  pub no_reader : last (Pipe 200 ∷ Close 3 ∷ []) (Write 4 0 1) ≡ Answer no
  pub other_writer : (does bare small (calls first ((0, Pipe 200) ∷ (0, Fork) ∷ (0, Close 4) ∷ [])) 0 (Read 3 0 1)).outcome ≡ Stays
  -- as many as fit; a full pipe is waited for; the wrong end; no second pipe
  pub part : last (Pipe 200 ∷ []) (Write 4 0 10) ≡ Answer 4
  pub part_is_front : pipe_of (left (Pipe 200 ∷ Write 4 0 10 ∷ [])) 0 ≡ 97 ∷ 98 ∷ 0 ∷ 0 ∷ []
  pub full : last (Pipe 200 ∷ Write 4 0 10 ∷ []) (Write 4 0 1) ≡ Stays
  pub wrong_end : last (Pipe 200 ∷ []) (Write 3 0 1) ≡ Answer no
  pub second_pipe : last (Pipe 200 ∷ []) (Pipe 200) ≡ Answer no
  pub pipe_beyond : last [] (Pipe 4095) ≡ Answer no
  pub pipe_at_end : last [] (Pipe 4094) ≡ Answer 0
  -- a pipe is free again when nobody has it, and a new one is empty
  pub pipe_again : pipe_of (left (Pipe 200 ∷ Write 4 0 2 ∷ Close 3 ∷ Close 4 ∷ Pipe 200 ∷ [])) 0 ≡ []
  -- waiting: without children, while all run, a stranger's child, orphans, the lowest place first, no place before it is waited for
  pub wait_alone : last [] Wait ≡ Answer no
  pub wait_running : last (Fork ∷ []) Wait ≡ Stays
  pub wait_stranger : (does bare small (calls first ((0, Fork) ∷ (0, Fork) ∷ (2, Leave 1) ∷ [])) 1 Wait).outcome ≡ Answer no
  pub orphan_parent : (process bare orphan 2).parent ≡ 0
  pub orphan_first : (does bare small orphan 0 Wait).outcome ≡ Answer (5 * 256 + 2)
  pub orphan_second : (does bare small (calls orphan ((0, Wait) ∷ [])) 0 Wait).outcome ≡ Answer (7 * 256 + 3)
  pub orphan_third : (does bare small (calls orphan ((0, Wait) ∷ (0, Wait) ∷ [])) 0 Wait).outcome ≡ Answer no
  pub not_yet_free : (does bare small orphan 0 Fork).outcome ≡ Answer no
  -- fork: a child is what its parent was, goes on with 0 and shares its open things
  pub fork_answer : last [] Fork ≡ Answer 2
  pub fork_child : (process bare (left (Fork ∷ [])) 1).cpu ≡ 0
  pub shared_place : (opened (calls first ((0, Open 1) ∷ (0, Fork) ∷ (1, Read 3 0 2) ∷ [])) 1).at ≡ 2
  -- leaving: n modulo 256
  pub leave_number : (process bare (left (Leave 511 ∷ [])) 0).state ≡ Left 255
  pub unknown : last [] Unknown ≡ Answer no
  -- keys: beyond a pipe's size, and of no screen, they are lost; a key is a byte
  pub keys : (run bare small first (Key 0 1 ∷ Key 0 2 ∷ Key 0 3 ∷ Key 0 4 ∷ Key 0 5 ∷ Key 1 6 ∷ [])).keys ≡ (1 ∷ 2 ∷ 3 ∷ 4 ∷ []) ∷ []
  pub key_byte : (event bare small first (Key 0 300)).keys ≡ (44 ∷ []) ∷ []
  -- without process 0 ticks do nothing, and keys are still taken
  pub stopped_tick : event bare small stopped Tick ≡ stopped
  pub stopped_key : (event bare small stopped (Key 0 107)).keys ≡ (107 ∷ []) ∷ []
