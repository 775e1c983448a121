-- The world: what programs that take turns see of a machine. Memory of their own, files, pipes, screens and each other; no frames, tables, blocks or caches.
-- It is what is drawn on the blackboard. Assumes nothing: these are definitions.
use Rattle.std.specs.Prelude.{ℕ, zero, suc, ◌+◌, ◌-◌, ◌*◌, ◌%◌, Bool, true, false, not, ◌&&◌, ◌||◌, List, [], ◌∷◌, ◌++◌, map, length, take, drop, replicate, is_none, Some, None, Option, ◌==◌, nat_le, nat_lt, slice_index_or, slice_set}
use Rattle.octets.specs.Rows.{pick, over, lowest, lowest_from, some}
use Rattle.turns.specs.Core.{Core, Act, quiet, store, asks, wrong}
use Rattle.turns.specs.declared.vocabulary.Sizes.{Sizes}
use Rattle.turns.specs.declared.vocabulary.State.{State}
use Rattle.turns.specs.declared.vocabulary.State.TheVariants.{Free, Runs, Left}
use Rattle.turns.specs.declared.vocabulary.End.{End}
use Rattle.turns.specs.declared.vocabulary.End.TheVariants.{Nothing, Screen, File, WriteEnd, ReadEnd}
use Rattle.turns.specs.declared.vocabulary.OpenThing.{OpenThing}
use Rattle.turns.specs.declared.vocabulary.Call.{Call}
use Rattle.turns.specs.declared.vocabulary.Call.TheVariants as call
use Rattle.turns.specs.declared.vocabulary.Outcome.{Outcome}
use Rattle.turns.specs.declared.vocabulary.Outcome.TheVariants.{Answer, Gone, Stays}
use Rattle.turns.specs.declared.vocabulary.Event.{Event}
use Rattle.turns.specs.declared.vocabulary.Event.TheVariants.{Tick, Key}

-- WHAT THERE IS

-- A process: a handle leads to an open thing, by its number, or to none
pub record Process (Cpu : Type 0) : Type 0 where
  pub state : State
  pub parent : ℕ
  pub cpu : Cpu
  pub memory : List ℕ
  pub handles : List (Option ℕ)

-- The whole blackboard. keys: what was typed at each screen and not yet read; shown: what each screen shows; turn: whose turn it is; used: how many of its
-- instructions are over
pub record World (Cpu : Type 0) : Type 0 where
  pub processes : List (Process Cpu)
  pub opens : List OpenThing
  pub pipes : List (List ℕ)
  pub files : List (List ℕ)
  pub keys : List (List ℕ)
  pub shown : List (List ℕ)
  pub turn : ℕ
  pub used : ℕ

-- What a call leaves: the world then, and what becomes of the call
pub record Done (Cpu : Type 0) : Type 0 where
  pub world : World Cpu
  pub outcome : Outcome

unfoldable pub is_free : State → Bool
is_free Free = true
is_free Runs = false
is_free (Left n) = false

unfoldable pub is_running : State → Bool
is_running Free = false
is_running Runs = true
is_running (Left n) = false

unfoldable pub is_left : State → Bool
is_left Free = false
is_left Runs = false
is_left (Left n) = true

-- the number with which a process has left
unfoldable pub left_with : State → ℕ
left_with Free = 0
left_with Runs = 0
left_with (Left n) = n

unfoldable pub is_nothing : End → Bool
is_nothing Nothing = true
is_nothing (Screen t) = false
is_nothing (File f) = false
is_nothing (WriteEnd j) = false
is_nothing (ReadEnd j) = false

-- an end to write into pipe j
unfoldable pub is_write_end : ℕ → End → Bool
is_write_end j Nothing = false
is_write_end j (Screen t) = false
is_write_end j (File f) = false
is_write_end j (WriteEnd i) = i == j
is_write_end j (ReadEnd i) = false

-- an end to read from pipe j
unfoldable pub is_read_end : ℕ → End → Bool
is_read_end j Nothing = false
is_read_end j (Screen t) = false
is_read_end j (File f) = false
is_read_end j (WriteEnd i) = false
is_read_end j (ReadEnd i) = i == j

-- a handle leads to the open thing k
unfoldable pub leads_to : ℕ → Option ℕ → Bool
leads_to k None = false
leads_to k (Some i) = i == k

-- an open thing that was never used
unfoldable pub closed : OpenThing
closed = record { end = Nothing; at = 0 }

-- ONE THING CHANGED, ALL ELSE AS IT WAS

module _ {Cpu : Type 0} where
  unfoldable pub with_processes : World Cpu → List (Process Cpu) → World Cpu
  with_processes w qs = record w { processes = qs }

  unfoldable pub with_process : World Cpu → ℕ → Process Cpu → World Cpu
  with_process w p q = record w { processes = slice_set w.processes p q }

  unfoldable pub with_open : World Cpu → ℕ → OpenThing → World Cpu
  with_open w k o = record w { opens = slice_set w.opens k o }

  unfoldable pub with_pipe : World Cpu → ℕ → List ℕ → World Cpu
  with_pipe w j bs = record w { pipes = slice_set w.pipes j bs }

  unfoldable pub with_file : World Cpu → ℕ → List ℕ → World Cpu
  with_file w f bs = record w { files = slice_set w.files f bs }

  unfoldable pub with_keys : World Cpu → ℕ → List ℕ → World Cpu
  with_keys w t bs = record w { keys = slice_set w.keys t bs }

  unfoldable pub with_shown : World Cpu → ℕ → List ℕ → World Cpu
  with_shown w t bs = record w { shown = slice_set w.shown t bs }

  unfoldable pub with_turn : World Cpu → ℕ → ℕ → World Cpu
  with_turn w t u = record w { turn = t; used = u }

  unfoldable pub with_parent : Process Cpu → ℕ → Process Cpu
  with_parent q p = record q { parent = p }

  unfoldable pub with_cpu : Process Cpu → Cpu → Process Cpu
  with_cpu q c = record q { cpu = c }

  unfoldable pub with_memory : Process Cpu → List ℕ → Process Cpu
  with_memory q m = record q { memory = m }

  unfoldable pub with_handles : Process Cpu → List (Option ℕ) → Process Cpu
  with_handles q hs = record q { handles = hs }

-- LOOKING AT IT

-- the answer of a call that is turned down
abbrev pub no : ℕ
no = 4294967295

module _ {Cpu : Type 0} where
  -- the open thing k
  unfoldable pub opened : World Cpu → ℕ → OpenThing
  opened w k = slice_index_or w.opens k closed

  abbrev pub pipe_of : World Cpu → ℕ → List ℕ
  pipe_of w j = slice_index_or w.pipes j []

  abbrev pub file_of : World Cpu → ℕ → List ℕ
  file_of w f = slice_index_or w.files f []

  abbrev pub keys_of : World Cpu → ℕ → List ℕ
  keys_of w t = slice_index_or w.keys t []

  abbrev pub shown_on : World Cpu → ℕ → List ℕ
  shown_on w t = slice_index_or w.shown t []

  -- the end behind a handle
  unfoldable pub end_behind : World Cpu → Option ℕ → End
  end_behind w None = Nothing
  end_behind w (Some k) = (opened w k).end

  -- the lowest free handle of a process, and the lowest behind it; the number of handles, or more, if there is none
  unfoldable pub free_handle : Sizes → Process Cpu → ℕ
  free_handle z q = lowest (λ h. is_none (slice_index_or q.handles h None)) z.handles

  unfoldable pub second_handle : Sizes → Process Cpu → ℕ
  second_handle z q = lowest_from (λ h. is_none (slice_index_or q.handles h None)) (suc (free_handle z q)) (z.handles - suc (free_handle z q))

  -- what a name stands for: a file, or behind the files a screen
  unfoldable pub named : Sizes → World Cpu → ℕ → End
  named z w f = pick (nat_lt f (length w.files)) (File f) (pick (nat_lt f (length w.files + z.screens)) (Screen (f - length w.files)) Nothing)

-- STEPS THAT CALLS ARE MADE OF

module _ {Cpu : Type 0} where
  -- a call has this answer; is turned down, and nothing has changed; stays, to be made again in the next turn
  abbrev pub answers : World Cpu → ℕ → Done Cpu
  answers v a = record { world = v; outcome = Answer a }

  abbrev pub turned_down : World Cpu → Done Cpu
  turned_down w = answers w no

  abbrev pub stays : World Cpu → Done Cpu
  stays w = record { world = w; outcome = Stays }

  -- the open thing k moves on in its file by n
  unfoldable pub moved : World Cpu → ℕ → ℕ → World Cpu
  moved w k n = with_open w k (record { end = (opened w k).end; at = (opened w k).at + n })

  -- what is read from file f by the open thing k, which asks for n bytes
  abbrev pub in_file : World Cpu → ℕ → ℕ → ℕ → List ℕ
  in_file w k f n = take n (drop (opened w k).at (file_of w f))

  -- as many bytes as fit into pipe j
  abbrev pub fitting : Sizes → World Cpu → ℕ → List ℕ → List ℕ
  fitting z w j bs = take (z.pipe - length (pipe_of w j)) bs

  -- children of p get process 0 for a parent
  unfoldable pub without_parent : ℕ → Process Cpu → Process Cpu
  without_parent p q = with_parent q (pick (q.parent == p) 0 q.parent)

  unfoldable pub orphaned : World Cpu → ℕ → World Cpu
  orphaned w p = with_processes w (map (without_parent p) w.processes)

-- a program in memory: at address 0, with zeros behind it, cut off at the memory's end
unfoldable pub loaded : Sizes → List ℕ → List ℕ
loaded z bs = take z.memory (over (replicate z.memory 0) 0 bs)

module _ {Cpu : Type 0} (core : Core Cpu) where
  -- what is in a place with nobody
  unfoldable pub nobody : Process Cpu
  nobody = record { state = Free; parent = 0; cpu = core.fresh 0; memory = []; handles = [] }

  -- what is in place p
  unfoldable pub process : World Cpu → ℕ → Process Cpu
  process w p = slice_index_or w.processes p nobody

  -- somebody runs in place p
  unfoldable pub runs_in : World Cpu → ℕ → Bool
  runs_in w p = is_running (process w p).state

  -- a running process p has a handle on the open thing k
  unfoldable pub has_open : World Cpu → ℕ → ℕ → Bool
  has_open w k p = runs_in w p && some (λ h. leads_to k (slice_index_or (process w p).handles h None)) (length (process w p).handles)

  -- an open thing is in use if somebody who runs has a handle on it
  unfoldable pub in_use : World Cpu → ℕ → Bool
  in_use w k = some (has_open w k) (length w.processes)

  -- some open thing in use is such an end
  unfoldable pub some_end : World Cpu → (End → Bool) → Bool
  some_end w such = some (λ k. such (opened w k).end && in_use w k) (length w.opens)

  -- somebody can write into pipe j; somebody can read from it
  unfoldable pub writers : World Cpu → ℕ → Bool
  writers w j = some_end w (is_write_end j)

  unfoldable pub readers : World Cpu → ℕ → Bool
  readers w j = some_end w (is_read_end j)

  -- the lowest free place of each kind; the number of places, or more, if there is none
  unfoldable pub free_process : Sizes → World Cpu → ℕ
  free_process z w = lowest (λ p. is_free (process w p).state) z.processes

  unfoldable pub free_open : Sizes → World Cpu → ℕ
  free_open z w = lowest (λ k. not (in_use w k)) z.opens

  unfoldable pub second_open : Sizes → World Cpu → ℕ
  second_open z w = lowest_from (λ k. not (in_use w k)) (suc (free_open z w)) (z.opens - suc (free_open z w))

  unfoldable pub free_pipe : Sizes → World Cpu → ℕ
  free_pipe z w = lowest (λ j. not (writers w j || readers w j)) z.pipes

  -- place i has a child of p; process 0 is nobody's child
  unfoldable pub is_child : World Cpu → ℕ → ℕ → Bool
  is_child w p i = not (i == 0) && (not (is_free (process w i).state) && (process w i).parent == p)

  -- the lowest place of a child of p that has left; the number of places if there is none
  unfoldable pub left_child : Sizes → World Cpu → ℕ → ℕ
  left_child z w p = lowest (λ i. is_child w p i && is_left (process w i).state) z.processes

  -- what handle h of process p leads to, and the end behind it
  unfoldable pub handle_of : World Cpu → ℕ → ℕ → Option ℕ
  handle_of w p h = slice_index_or (process w p).handles h None

  unfoldable pub end_of : World Cpu → ℕ → ℕ → End
  end_of w p h = end_behind w (handle_of w p h)

  -- THE CALLS

  -- handle h of process p leads to this from now on
  unfoldable pub with_handle : World Cpu → ℕ → ℕ → Option ℕ → World Cpu
  with_handle w p h o = with_process w p (with_handles (process w p) (slice_set (process w p).handles h o))

  -- bytes come into p's memory at address a
  unfoldable pub into_memory : World Cpu → ℕ → ℕ → List ℕ → World Cpu
  into_memory w p a bs = with_process w p (with_memory (process w p) (over (process w p).memory a bs))

  -- 0 leave n: the process has left, with n modulo 256; its handles are gone; its children get parent 0
  unfoldable pub leaves : World Cpu → ℕ → ℕ → Done Cpu
  leaves w p n =
      record {
        world = with_process (orphaned w p) p (record { state = Left (n % 256); parent = (process w p).parent; cpu = core.fresh 0; memory = []; handles = [] });
        outcome = Gone;
      }

  -- 1 fork: the lowest free place gets a child that is what the parent is; the child goes on with 0, the parent with the child's number + 1
  unfoldable pub forks : Sizes → World Cpu → ℕ → Done Cpu
  forks z w p =
      pick (nat_le z.processes (free_process z w)) (turned_down w)
      (answers
      (with_process w (free_process z w)
      (record { state = Runs; parent = p; cpu = core.answered (process w p).cpu 0; memory = (process w p).memory; handles = (process w p).handles }))
      (suc (free_process z w)))

  -- 2 wait: of the children that have left the one in the lowest place becomes free: its number of leaving × 256 + its place + 1; while all run it stays
  unfoldable pub waits : Sizes → World Cpu → ℕ → Done Cpu
  waits z w p =
      pick (not (some (is_child w p) z.processes)) (turned_down w)
      (pick (nat_lt (left_child z w p) z.processes)
      (answers (with_process w (left_child z w p) nobody) (left_with (process w (left_child z w p)).state * 256 + suc (left_child z w p)))
      (stays w))

  -- 3 exec f: the program in file f is put into memory and started; handles are kept; nothing comes back
  unfoldable pub execs : Sizes → World Cpu → ℕ → ℕ → Done Cpu
  execs z w p f =
      pick (nat_lt f (length w.files))
      (record {
        world = with_process w p
            (record { state = Runs; parent = (process w p).parent; cpu = core.fresh z.memory; memory = loaded z (file_of w f); handles = (process w p).handles });
        outcome = Gone;
      })
      (turned_down w)

  -- 4 open f: the lowest free handle on the lowest free open thing, for file f from its beginning, or for screen f − files: the handle
  unfoldable pub opens : Sizes → World Cpu → ℕ → ℕ → Done Cpu
  opens z w p f =
      pick (is_nothing (named z w f) || (nat_le z.opens (free_open z w) || nat_le z.handles (free_handle z (process w p)))) (turned_down w)
      (answers (with_handle (with_open w (free_open z w) (record { end = named z w f; at = 0 })) p (free_handle z (process w p)) (Some (free_open z w)))
      (free_handle z (process w p)))

  -- 5 close h: the handle is free: 0
  unfoldable pub closes : World Cpu → ℕ → ℕ → Done Cpu
  closes w p h = pick (is_none (handle_of w p h)) (turned_down w) (answers (with_handle w p h None) 0)

  -- 6 copy h g: handle g is what h is, from now on: g
  unfoldable pub copies : Sizes → World Cpu → ℕ → ℕ → ℕ → Done Cpu
  copies z w p h g = pick (is_none (handle_of w p h) || nat_le z.handles g) (turned_down w) (answers (with_handle w p g (handle_of w p h)) g)

  -- 7 pipe a: the two lowest free handles on the two lowest free open things, an end to read from and one to write into; their numbers, a byte each, at a and
  -- a + 1: 0
  unfoldable pub pipes_through : Sizes → World Cpu → ℕ → ℕ → Done Cpu
  pipes_through z w p a =
      pick (nat_lt z.memory (a + 2) || (nat_le z.pipes (free_pipe z w) || (nat_le z.opens (second_open z w) || nat_le z.handles (second_handle z (process w p)))))
      (turned_down w)
      (answers
      (with_process
      (with_pipe
      (with_open (with_open w (free_open z w) (record { end = ReadEnd (free_pipe z w); at = 0 })) (second_open z w) (record { end = WriteEnd (free_pipe z w); at = 0 }))
      (free_pipe z w) [])
      p
      (with_memory
      (with_handles (process w p)
      (slice_set (slice_set (process w p).handles (free_handle z (process w p)) (Some (free_open z w))) (second_handle z (process w p)) (Some (second_open z w))))
      (over (process w p).memory a (free_handle z (process w p) ∷ second_handle z (process w p) ∷ []))))
      0)

  -- up to n bytes come to address a of process p through the open thing k, which is this end
  unfoldable pub reads_from : World Cpu → ℕ → ℕ → ℕ → ℕ → End → Done Cpu
  reads_from w p k a n Nothing = turned_down w
  reads_from w p k a n (WriteEnd j) = turned_down w
  reads_from w p k a n (File f) = answers (moved (into_memory w p a (in_file w k f n)) k (length (in_file w k f n))) (length (in_file w k f n))
  reads_from w p k a n (Screen t) =
      pick (length (keys_of w t) == 0) (stays w)
      (answers (with_keys (into_memory w p a (take n (keys_of w t))) t (drop n (keys_of w t))) (length (take n (keys_of w t))))
  reads_from w p k a n (ReadEnd j) =
      pick (length (pipe_of w j) == 0) (pick (writers w j) (stays w) (answers w 0))
      (answers (with_pipe (into_memory w p a (take n (pipe_of w j))) j (drop n (pipe_of w j))) (length (take n (pipe_of w j))))

  unfoldable pub reads_by : World Cpu → ℕ → ℕ → ℕ → Option ℕ → Done Cpu
  reads_by w p a n None = turned_down w
  reads_by w p a n (Some k) = reads_from w p k a n (opened w k).end

  -- 8 read h a n: up to n bytes come to a: from a file from its place on, from keys, or from a pipe; how many
  unfoldable pub reads : Sizes → World Cpu → ℕ → ℕ → ℕ → ℕ → Done Cpu
  reads z w p h a n = pick (n == 0) (answers w 0) (pick (nat_lt z.memory (a + n)) (turned_down w) (reads_by w p a n (handle_of w p h)))

  -- bytes go out through the open thing k, which is this end
  unfoldable pub writes_to : Sizes → World Cpu → ℕ → List ℕ → End → Done Cpu
  writes_to z w k bs Nothing = turned_down w
  writes_to z w k bs (ReadEnd j) = turned_down w
  writes_to z w k bs (File f) =
      pick (nat_lt z.file ((opened w k).at + length bs)) (turned_down w)
      (answers (moved (with_file w f (over (file_of w f) (opened w k).at bs)) k (length bs)) (length bs))
  writes_to z w k bs (Screen t) = answers (with_shown w t (shown_on w t ++ bs)) (length bs)
  writes_to z w k bs (WriteEnd j) =
      pick (not (readers w j)) (turned_down w)
      (pick (nat_le z.pipe (length (pipe_of w j))) (stays w)
      (answers (with_pipe w j (pipe_of w j ++ fitting z w j bs)) (length (fitting z w j bs))))

  unfoldable pub writes_by : Sizes → World Cpu → List ℕ → Option ℕ → Done Cpu
  writes_by z w bs None = turned_down w
  writes_by z w bs (Some k) = writes_to z w k bs (opened w k).end

  -- the n bytes at address a of process p
  abbrev pub in_memory : World Cpu → ℕ → ℕ → ℕ → List ℕ
  in_memory w p a n = take n (drop a (process w p).memory)

  -- 9 write h a n: n bytes go out: into a file at its place, over what is there and on; to a screen; or into a pipe, as many as fit; how many
  unfoldable pub writes : Sizes → World Cpu → ℕ → ℕ → ℕ → ℕ → Done Cpu
  writes z w p h a n = pick (n == 0) (answers w 0) (pick (nat_lt z.memory (a + n)) (turned_down w) (writes_by z w (in_memory w p a n) (handle_of w p h)))
  -- 10 save: all files are as they are, also after a cut: 0. What that means is said where cuts are (specs/Promise)

module _ {Cpu : Type 0} where
  -- the file behind the open thing k ends at its place, if it goes on behind it
  unfoldable pub ends_at : World Cpu → ℕ → End → Done Cpu
  ends_at w k Nothing = turned_down w
  ends_at w k (Screen t) = turned_down w
  ends_at w k (WriteEnd j) = turned_down w
  ends_at w k (ReadEnd j) = turned_down w
  ends_at w k (File f) = answers (with_file w f (take (opened w k).at (file_of w f))) 0

  -- 11 end h: the file ends at the handle's place: 0
  unfoldable pub ends : World Cpu → Option ℕ → Done Cpu
  ends w None = turned_down w
  ends w (Some k) = ends_at w k (opened w k).end

module _ {Cpu : Type 0} (core : Core Cpu) where
  -- a call of process p
  unfoldable pub does : Sizes → World Cpu → ℕ → Call → Done Cpu
  does z w p (call.Leave n) = leaves core w p n
  does z w p call.Fork = forks core z w p
  does z w p call.Wait = waits core z w p
  does z w p (call.Exec f) = execs core z w p f
  does z w p (call.Open f) = opens core z w p f
  does z w p (call.Close h) = closes core w p h
  does z w p (call.Copy h g) = copies core z w p h g
  does z w p (call.Pipe a) = pipes_through core z w p a
  does z w p (call.Read h a n) = reads core z w p h a n
  does z w p (call.Write h a n) = writes core z w p h a n
  does z w p call.Save = answers w 0
  does z w p (call.End h) = ends w (handle_of core w p h)
  does z w p call.Unknown = turned_down w

-- TURNS AND EVENTS

-- the place behind this one; after the last comes place 0
abbrev pub after_turn : ℕ → ℕ → ℕ
after_turn places turn = pick (nat_lt (turn + 1) places) (turn + 1) 0

module _ {Cpu : Type 0} where
  -- the turn passes on
  unfoldable pub passes : Sizes → World Cpu → World Cpu
  passes z w = with_turn w (after_turn z.processes w.turn) 0

  -- one instruction of the turn is over
  unfoldable pub spends : Sizes → World Cpu → World Cpu
  spends z w = pick (nat_lt (suc w.used) z.turn) (with_turn w w.turn (suc w.used)) (passes z w)

module _ {Cpu : Type 0} (core : Core Cpu) where
  -- how process p goes on, where its call left this world and had this outcome
  unfoldable pub goes_on : Sizes → World Cpu → ℕ → Outcome → World Cpu
  goes_on z v p (Answer a) = spends z (with_process v p (with_cpu (process core v p) (core.answered (process core v p).cpu a)))
  goes_on z v p Gone = spends z v
  goes_on z v p Stays = passes z v

  unfoldable pub after_call : Sizes → ℕ → Done Cpu → World Cpu
  after_call z p d = goes_on z d.world p d.outcome

  -- one instruction of process p; a wrong one, and a store beyond the memory, end it as leave 255 does
  unfoldable pub acts : Sizes → World Cpu → ℕ → Act Cpu → World Cpu
  acts z w p (quiet c) = spends z (with_process w p (with_cpu (process core w p) c))
  acts z w p (store a bs c) =
      pick (nat_le (a + length bs) z.memory) (spends z (with_process w p (with_cpu (with_memory (process core w p) (over (process core w p).memory a bs)) c)))
      (spends z (leaves core w p 255).world)
  acts z w p (asks c) = after_call z p (does core z w p c)
  acts z w p wrong = spends z (leaves core w p 255).world

  -- the instruction of the process whose turn it is
  unfoldable pub instruction : World Cpu → Act Cpu
  instruction w = core.act (process core w w.turn).cpu (process core w w.turn).memory

  -- A tick: if process 0 does not run, nothing; else, if the process whose turn it is runs, one instruction or call of it; else the turn passes on.
  -- A key: byte b is put behind the keys of screen t; beyond a pipe's size, or without such a screen, it is lost
  unfoldable pub event : Sizes → World Cpu → Event → World Cpu
  event z w Tick = pick (runs_in core w 0) (pick (runs_in core w w.turn) (acts z w w.turn (instruction w)) (passes z w)) w
  event z w (Key t b) = pick (nat_lt t z.screens && nat_lt (length (keys_of w t)) z.pipe) (with_keys w t (keys_of w t ++ b % 256 ∷ [])) w

  -- a row of events
  unfoldable pub run : Sizes → World Cpu → List Event → World Cpu
  run z w [] = w
  run z w (e ∷ es) = run z (event z w e) es

  -- at the start there is process 0, with the program in file 0, and handles 0, 1 and 2 on screen 0, all three by open thing 0
  unfoldable pub begin : Sizes → List (List ℕ) → World Cpu
  begin z fs =
      record {
        processes = record {
          state = Runs;
          parent = 0;
          cpu = core.fresh z.memory;
          memory = loaded z (slice_index_or fs 0 []);
          handles = Some 0 ∷ Some 0 ∷ Some 0 ∷ replicate (z.handles - 3) None;
        } ∷ replicate (z.processes - 1) (nobody core);
        opens = record { end = Screen 0; at = 0 } ∷ replicate (z.opens - 1) closed;
        pipes = replicate z.pipes [];
        files = fs;
        keys = replicate z.screens [];
        shown = replicate z.screens [];
        turn = 0;
        used = 0;
      }

-- n ticks
unfoldable pub ticks : ℕ → List Event
ticks zero = []
ticks (suc n) = Tick ∷ ticks n
