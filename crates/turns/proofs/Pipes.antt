-- What goes through a pipe. Assumes nothing.
use Rattle.std.proofs.Common.{◌≡◌, ℕ, zero, suc, ◌<◌, Bool, true, false, not, ◌||◌, ◌⊎◌, List, [], ◌∷◌, ◌++◌, length, get_or, take, drop, Some, None, Option, sym, refl, ap, ◌∙◌, subst, inl, inr, arith}
use Rattle.octets.specs.Rows.{pick, over}
use Rattle.octets.proofs.Tests.{pick_both, pick_true}
use Rattle.turns.specs.Core.{Core, Act, quiet, store, asks, wrong}
use Rattle.turns.specs.World.{World, Process, Done, process, nobody, runs_in, event, run}
use Rattle.turns.specs.World.{with_process, with_processes, with_open, with_pipe, with_file, with_keys, with_shown, with_turn, with_cpu, with_memory, into_memory, orphaned, leaves, pipe_of, end_of}
use Rattle.turns.specs.declared.vocabulary.Sizes.{Sizes}
use Rattle.turns.specs.declared.vocabulary.Event.{Event}
use Rattle.turns.specs.declared.vocabulary.Event.TheVariants.{Tick, Key}
use Rattle.turns.proofs.Step.{Ways, key_by, event_by}
use Rattle.std.proofs.lemmas.List.{append-nil, append_assoc, length-take, take-append-drop, length-set, get_or-set_same, get_or-set_other}
use Rattle.std.proofs.lemmas.Bool.{both_ways, cases_eq, or_parts, and_from, leb-false, not-true}
use Rattle.octets.proofs.Lowest.{lowest_holds}
use Rattle.octets.proofs.Over.{take_over}
use Rattle.turns.specs.World.{answers, is_running, handle_of, end_behind, in_memory, fitting, moved, with_handle, readers, writers, free_pipe, passes, spends, goes_on, after_call, acts, instruction}
use Rattle.turns.specs.World.{forks, waits, execs, opens, closes, copies, pipes_through, reads_from, reads_by, reads, writes_to, writes_by, writes, ends_at, ends, does}
use Rattle.turns.specs.Happens.{asked, made, Took, Gave, Flow, still, took, gave, Flows, none, more, pipe_in_use, StaysInUse}
use Rattle.turns.specs.Theorems.{InOrder, FirstInFirstOut}
use Rattle.turns.specs.declared.vocabulary.End.{End}
use Rattle.turns.specs.declared.vocabulary.End.TheVariants.{Nothing, Screen, File, WriteEnd, ReadEnd}
use Rattle.turns.specs.declared.vocabulary.Call.{Call}
use Rattle.turns.specs.declared.vocabulary.Call.TheVariants as call
use Rattle.turns.specs.declared.vocabulary.Outcome.{Outcome}
use Rattle.turns.specs.declared.vocabulary.Outcome.TheVariants.{Answer, Gone, Stays}

module _ {Cpu : Type 0} (core : Core Cpu) where
  -- somebody runs only in a place that there is
  pub runs_within : (w : World Cpu) (p : ℕ) → runs_in core w p ≡ true → p < length w.processes
  unfolding runs_in process nobody is_running
  runs_within w p = go w.processes p
    where
      go : (qs : List (Process Cpu)) (p : ℕ) → is_running (get_or qs p (nobody core)).state ≡ true → p < length qs
      go [] p r = absurd (both_ways false refl r)
      go (q ∷ qs) zero r = omega arith
      go (q ∷ qs) (suc p) r = omega (arith, go qs p r)

  -- how a process goes on leaves the pipes alone
  goes_pipes : (z : Sizes) (v : World Cpu) (p : ℕ) (o : Outcome) → (goes_on core z v p o).pipes ≡ v.pipes
  unfolding goes_on spends passes with_turn with_process
  goes_pipes z v p (Answer a) = pick_both (λ (x : World Cpu). x.pipes ≡ v.pipes) _ _ _ (λ _. refl) (λ _. refl)
  goes_pipes z v p Gone = pick_both (λ (x : World Cpu). x.pipes ≡ v.pipes) _ _ _ (λ _. refl) (λ _. refl)
  goes_pipes z v p Stays = refl

  -- and it goes on with its answer
  goes_process : (z : Sizes) (v : World Cpu) (p a : ℕ) → p < length v.processes →
      process core (goes_on core z v p (Answer a)) p ≡ with_cpu (process core v p) (core.answered (process core v p).cpu a)
  unfolding goes_on spends passes with_turn with_process process
  goes_process z v p a l = pick_both (λ (x : World Cpu). process core x p ≡ with_cpu (process core v p) (core.answered (process core v p).cpu a)) _ _ _
      (λ _. get_or-set_same v.processes p _ _ l) (λ _. get_or-set_same v.processes p _ _ l)

  module _ (z : Sizes) (w : World Cpu) (j : ℕ) (l : j < length w.pipes) (u : pipe_in_use core w j ≡ true) (r : runs_in core w w.turn ≡ true) where
    -- the world after what a call has done
    abbrev Then : Done Cpu → World Cpu
    Then d = after_call core z w.turn d

    abbrev Flowed : Call → Done Cpu → Type 0
    Flowed c d = (out : List ℕ) × (into : List ℕ) × Flow core z w (Then d) j (Some c) out into

    stills : (c : Call) (d : Done Cpu) → get_or d.world.pipes j [] ≡ pipe_of w j → Flowed c d
    unfolding after_call
    stills c d h = ([], [], still (ap (λ (ps : List (List ℕ)). get_or ps j []) (goes_pipes z d.world w.turn d.outcome) ∙ h))

    same_pipes : (c : Call) (d : Done Cpu) → d.world.pipes ≡ w.pipes → Flowed c d
    same_pipes c d h = stills c d (ap (λ (ps : List (List ℕ)). get_or ps j []) h)

    -- a read from pipe j that has something
    takes : (h a n : ℕ) → end_of core w w.turn h ≡ ReadEnd j →
        Took core w (Then (answers (with_pipe (into_memory core w w.turn a (take n (pipe_of w j))) j (drop n (pipe_of w j))) (length (take n (pipe_of w j)))))
        w.turn j (Some (call.Read h a n)) (take n (pipe_of w j))
    unfolding after_call with_pipe into_memory with_process process with_memory with_cpu
    takes h a n e =
        let b : World Cpu = with_pipe (into_memory core w w.turn a (take n (pipe_of w j))) j (drop n (pipe_of w j)) in
        let t : w.turn < length w.processes = runs_within w w.turn r in
        let f : process core b w.turn ≡ with_memory (process core w w.turn) (over (process core w w.turn).memory a (take n (pipe_of w j))) = get_or-set_same w.processes w.turn _ _ t in
        let g = goes_process z b w.turn (length (take n (pipe_of w j))) (rw (length-set w.processes w.turn (with_memory (process core w w.turn) (over (process core w w.turn).memory a (take n (pipe_of w j))))) t) in
        let q : process core (goes_on core z b w.turn (Answer (length (take n (pipe_of w j))))) w.turn ≡
        with_cpu (with_memory (process core w w.turn) (over (process core w w.turn).memory a (take n (pipe_of w j)))) (core.answered (process core w w.turn).cpu (length (take n (pipe_of w j)))) =
        g ∙ ap (λ (x : Process Cpu). with_cpu x (core.answered x.cpu (length (take n (pipe_of w j))))) f in
        record {
          handle = h;
          address = a;
          wanted = n;
          called = refl;
          end = e;
          front = sym (ap (λ t. take n (pipe_of w j) ++ t) (ap (λ (ps : List (List ℕ)). get_or ps j []) (goes_pipes z b w.turn (Answer (length (take n (pipe_of w j))))) ∙ get_or-set_same w.pipes j _ [] l)
              ∙ take-append-drop n (pipe_of w j));
          count = length-take n (pipe_of w j);
          arrived = ap (λ (x : Process Cpu). take (length (take n (pipe_of w j))) (drop a x.memory)) q ∙ take_over (process core w w.turn).memory a (take n (pipe_of w j));
          answer = ap (λ (x : Process Cpu). x.cpu) q;
        }

    -- a write into pipe j that has room
    gives : (h a n : ℕ) → end_of core w w.turn h ≡ WriteEnd j →
        Gave core z w (Then (answers (with_pipe w j (pipe_of w j ++ fitting z w j (in_memory core w w.turn a n))) (length (fitting z w j (in_memory core w w.turn a n)))))
        w.turn j (Some (call.Write h a n)) (fitting z w j (in_memory core w w.turn a n))
    unfolding after_call with_pipe process with_cpu
    gives h a n e =
        let b : World Cpu = with_pipe w j (pipe_of w j ++ fitting z w j (in_memory core w w.turn a n)) in
        let g = goes_process z b w.turn (length (fitting z w j (in_memory core w w.turn a n))) (runs_within w w.turn r) in
        record {
          handle = h;
          address = a;
          offered = n;
          called = refl;
          end = e;
          fitted = refl;
          behind = ap (λ (ps : List (List ℕ)). get_or ps j []) (goes_pipes z b w.turn (Answer (length (fitting z w j (in_memory core w w.turn a n))))) ∙ get_or-set_same w.pipes j _ [] l;
          answer = ap (λ (x : Process Cpu). x.cpu) g;
        }

    read_at : (i h a n : ℕ) → end_of core w w.turn h ≡ ReadEnd i → (j ≡ i) ⊎ (j ≡ i → ⊥) →
        Flowed (call.Read h a n) (answers (with_pipe (into_memory core w w.turn a (take n (pipe_of w i))) i (drop n (pipe_of w i))) (length (take n (pipe_of w i))))
    unfolding with_pipe into_memory with_process
    read_at i h a n e (inl q) =
        subst (λ i. Flowed (call.Read h a n) (answers (with_pipe (into_memory core w w.turn a (take n (pipe_of w i))) i (drop n (pipe_of w i))) (length (take n (pipe_of w i))))) q
        (_, _, took _ (takes h a n (e ∙ ap ReadEnd (sym q))))
    read_at i h a n e (inr q) = stills _ _ (get_or-set_other w.pipes i j _ [] q)

    write_at : (i h a n : ℕ) → end_of core w w.turn h ≡ WriteEnd i → (j ≡ i) ⊎ (j ≡ i → ⊥) →
        Flowed (call.Write h a n) (answers (with_pipe w i (pipe_of w i ++ fitting z w i (in_memory core w w.turn a n))) (length (fitting z w i (in_memory core w w.turn a n))))
    unfolding with_pipe
    write_at i h a n e (inl q) =
        subst (λ i. Flowed (call.Write h a n) (answers (with_pipe w i (pipe_of w i ++ fitting z w i (in_memory core w w.turn a n))) (length (fitting z w i (in_memory core w w.turn a n))))) q
        (_, _, gave _ (gives h a n (e ∙ ap WriteEnd (sym q))))
    write_at i h a n e (inr q) = stills _ _ (get_or-set_other w.pipes i j _ [] q)

    both : (c : Call) (t : Bool) (x y : Done Cpu) → (t ≡ true → Flowed c x) → (t ≡ false → Flowed c y) → Flowed c (pick t x y)
    both c = pick_both (Flowed c)

    reading : (h k a n : ℕ) (e : End) → end_of core w w.turn h ≡ e → Flowed (call.Read h a n) (reads_from core w w.turn k a n e)
    unfolding reads_from into_memory moved with_open with_process with_keys
    reading h k a n Nothing e = same_pipes _ _ refl
    reading h k a n (WriteEnd i) e = same_pipes _ _ refl
    reading h k a n (File f) e = same_pipes _ _ refl
    reading h k a n (Screen t) e = both _ _ _ _ (λ _. same_pipes _ _ refl) (λ _. same_pipes _ _ refl)
    reading h k a n (ReadEnd i) e =
        both _ _ _ _ (λ _. both _ _ _ _ (λ _. same_pipes _ _ refl) (λ _. same_pipes _ _ refl)) (λ _. read_at i h a n e (cases_eq j i))

    read_through : (h a n : ℕ) (o : Option ℕ) → handle_of core w w.turn h ≡ o → Flowed (call.Read h a n) (reads_by core w w.turn a n o)
    unfolding reads_by end_of end_behind
    read_through h a n None q = same_pipes _ _ refl
    read_through h a n (Some k) q = reading h k a n _ (ap (end_behind w) q)

    writing : (h k a n : ℕ) (e : End) → end_of core w w.turn h ≡ e → Flowed (call.Write h a n) (writes_to core z w k (in_memory core w w.turn a n) e)
    unfolding writes_to moved with_open with_file with_shown
    writing h k a n Nothing e = same_pipes _ _ refl
    writing h k a n (ReadEnd i) e = same_pipes _ _ refl
    writing h k a n (File f) e = both _ _ _ _ (λ _. same_pipes _ _ refl) (λ _. same_pipes _ _ refl)
    writing h k a n (Screen t) e = same_pipes _ _ refl
    writing h k a n (WriteEnd i) e = both _ _ _ _ (λ _. same_pipes _ _ refl) (λ _. both _ _ _ _ (λ _. same_pipes _ _ refl) (λ _. write_at i h a n e (cases_eq j i)))

    write_through : (h a n : ℕ) (o : Option ℕ) → handle_of core w w.turn h ≡ o → Flowed (call.Write h a n) (writes_by core z w (in_memory core w w.turn a n) o)
    unfolding writes_by end_of end_behind
    write_through h a n None q = same_pipes _ _ refl
    write_through h a n (Some k) q = writing h k a n _ (ap (end_behind w) q)

    -- a new pipe is none that is in use
    not_new : free_pipe core z w < z.pipes → j ≡ free_pipe core z w → ⊥
    unfolding free_pipe pipe_in_use
    not_new f q = both_ways _ (not-true _ (lowest_holds (λ i. not (writers core w i || readers core w i)) z.pipes f))
        (subst (λ i. (writers core w i || readers core w i) ≡ true) q u)

    ending : (c : Call) (k : ℕ) (e : End) → Flowed c (ends_at w k e)
    unfolding ends_at with_file
    ending c k Nothing = same_pipes _ _ refl
    ending c k (Screen t) = same_pipes _ _ refl
    ending c k (WriteEnd i) = same_pipes _ _ refl
    ending c k (ReadEnd i) = same_pipes _ _ refl
    ending c k (File f) = same_pipes _ _ refl

    end_through : (c : Call) (o : Option ℕ) → Flowed c (ends w o)
    unfolding ends
    end_through c None = same_pipes _ _ refl
    end_through c (Some k) = ending c k _

    by_call : (c : Call) → Flowed c (does core z w w.turn c)
    unfolding does leaves forks waits execs opens closes copies pipes_through reads writes with_handle with_process with_processes orphaned with_open with_pipe
    by_call (call.Leave n) = same_pipes _ _ refl
    by_call call.Fork = both _ _ _ _ (λ _. same_pipes _ _ refl) (λ _. same_pipes _ _ refl)
    by_call call.Wait = both _ _ _ _ (λ _. same_pipes _ _ refl) (λ _. both _ _ _ _ (λ _. same_pipes _ _ refl) (λ _. same_pipes _ _ refl))
    by_call (call.Exec f) = both _ _ _ _ (λ _. same_pipes _ _ refl) (λ _. same_pipes _ _ refl)
    by_call (call.Open f) = both _ _ _ _ (λ _. same_pipes _ _ refl) (λ _. same_pipes _ _ refl)
    by_call (call.Close h) = both _ _ _ _ (λ _. same_pipes _ _ refl) (λ _. same_pipes _ _ refl)
    by_call (call.Copy h g) = both _ _ _ _ (λ _. same_pipes _ _ refl) (λ _. same_pipes _ _ refl)
    by_call (call.Pipe a) = both _ _ _ _ (λ _. same_pipes _ _ refl)
        (λ e. stills _ _ (get_or-set_other w.pipes (free_pipe core z w) j [] [] (not_new (leb-false _ _ (or_parts _ _ (or_parts _ _ e).1).0))))
    by_call (call.Read h a n) = both _ _ _ _ (λ _. same_pipes _ _ refl) (λ _. both _ _ _ _ (λ _. same_pipes _ _ refl) (λ _. read_through h a n _ refl))
    by_call (call.Write h a n) = both _ _ _ _ (λ _. same_pipes _ _ refl) (λ _. both _ _ _ _ (λ _. same_pipes _ _ refl) (λ _. write_through h a n _ refl))
    by_call call.Save = same_pipes _ _ refl
    by_call (call.End h) = end_through _ _
    by_call call.Unknown = same_pipes _ _ refl

    abbrev Flowing : World Cpu → Act Cpu → Type 0
    Flowing v i = (out : List ℕ) × (into : List ℕ) × Flow core z w v j (asked i) out into

    spends_pipes : (v : World Cpu) → v.pipes ≡ w.pipes → (spends z v).pipes ≡ w.pipes
    unfolding spends passes with_turn
    spends_pipes v h = pick_both (λ (x : World Cpu). x.pipes ≡ w.pipes) _ _ _ (λ _. h) (λ _. h)

    quietly : (v : World Cpu) (i : Act Cpu) → v.pipes ≡ w.pipes → Flowing (spends z v) i
    quietly v i h = ([], [], still (ap (λ (ps : List (List ℕ)). get_or ps j []) (spends_pipes v h)))

    by_act : (i : Act Cpu) → Flowing (acts core z w w.turn i) i
    unfolding acts with_process leaves orphaned with_processes asked
    by_act (quiet c) = quietly _ (quiet c) refl
    by_act (store a bs c) = pick_both (λ v. Flowing v (store a bs c)) _ _ _ (λ _. quietly _ (store a bs c) refl) (λ _. quietly _ (store a bs c) refl)
    by_act (asks c) = by_call c
    by_act wrong = quietly _ wrong refl

  flow_tick : (z : Sizes) (w : World Cpu) (j : ℕ) → j < length w.pipes → pipe_in_use core w j ≡ true →
      (out : List ℕ) × (into : List ℕ) × Flow core z w (event core z w Tick) j (made core w Tick) out into
  unfolding event made passes with_turn
  flow_tick z w j l u =
      pick_both (λ v. (out : List ℕ) × (into : List ℕ) × Flow core z w v j (made core w Tick) out into) _ _ _
      (λ a. pick_both (λ v. (out : List ℕ) × (into : List ℕ) × Flow core z w v j (made core w Tick) out into) _ _ _
      (λ b. subst (λ o. (out : List ℕ) × (into : List ℕ) × Flow core z w (acts core z w w.turn (instruction core w)) j o out into) (sym (pick_true _ _ _ (and_from _ _ a b)))
      (by_act z w j l u b (instruction core w)))
      (λ _. ([], [], still refl)))
      (λ _. ([], [], still refl))

  flow : (z : Sizes) (w : World Cpu) (j : ℕ) (e : Event) → j < length w.pipes → pipe_in_use core w j ≡ true →
      (out : List ℕ) × (into : List ℕ) × Flow core z w (event core z w e) j (made core w e) out into
  unfolding with_keys
  flow z w j Tick l u = flow_tick z w j l u
  flow z w j (Key t b) l u = key_by core (λ v. (out : List ℕ) × (into : List ℕ) × Flow core z w v j (made core w (Key t b)) out into) z w t b ([], [], still refl) (λ _ _. ([], [], still refl))

  -- what a flow leaves
  flow_sum : (z : Sizes) (w v : World Cpu) (j : ℕ) (c : Option Call) (out into : List ℕ) → Flow core z w v j c out into → pipe_of w j ++ into ≡ out ++ pipe_of v j
  flow_sum z w v j c _ _ (still h) = append-nil _ ∙ sym h
  flow_sum z w v j c _ _ (took bs h) = append-nil _ ∙ h.front
  flow_sum z w v j c _ _ (gave bs h) = sym h.behind

  -- there are as many pipes as before
  pipes_ways : (z : Sizes) (w : World Cpu) (p : ℕ) → Ways core (λ v. length v.pipes ≡ length w.pipes) z w p
  unfolding with_process with_processes with_open with_pipe with_file with_keys with_shown into_memory leaves orphaned
  pipes_ways z w p =
      record {
        here = refl;
        placed = λ v i q n h. h;
        opens = λ v k o n h. h;
        keyed = λ v t n e h. h;
        left = λ n. refl;
        taken = λ h a j n e l. length-set _ _ _;
        given = λ h a j n e r. length-set _ _ _;
        emptied = λ v e l h. length-set _ _ _ ∙ h;
        shown = λ h t a n e. refl;
        written = λ h f k a n e q l. refl;
        ended = λ h f n e. refl;
      }

  as_many : (z : Sizes) (w : World Cpu) (e : Event) → length (event core z w e).pipes ≡ length w.pipes
  unfolding with_turn with_keys
  as_many z w e = event_by core (λ v. length v.pipes ≡ length w.pipes) z w refl (λ _ _. pipes_ways z w w.turn) (λ v t u h. h) (λ t b _ _. refl) e

  flows : (z : Sizes) (j : ℕ) (w : World Cpu) (es : List Event) → j < length w.pipes → StaysInUse core z w j es →
      (outs : List ℕ) × (intos : List ℕ) × Flows core z j w es outs intos × (pipe_of w j ++ intos ≡ outs ++ pipe_of (run core z w es) j)
  unfolding run StaysInUse
  flows z j w [] l u = ([], [], none w, append-nil _)
  flows z j w (e ∷ es) l u =
      let f = flow z w j e l u.0 in
      let r = flows z j (event core z w e) es (omega (arith, as_many z w e)) u.1 in (
        f.0 ++ r.0,
        f.1 ++ r.1,
        more w e es f.0 f.1 r.0 r.1 f.2 r.2,
        sym (append_assoc (pipe_of w j) f.1 r.1) ∙ ap (λ t. t ++ r.1) (flow_sum z w _ j _ f.0 f.1 f.2)
            ∙ append_assoc f.0 (pipe_of (event core z w e) j) r.1 ∙ ap (λ t. f.0 ++ t) r.3 ∙ sym (append_assoc f.0 r.0 _),
      )

pub in_order : (Cpu : Type 0) → InOrder Cpu
in_order Cpu core z w j e l u = flow core z w j e l u

pub first_in_first_out : (Cpu : Type 0) → FirstInFirstOut Cpu
first_in_first_out Cpu core z w j es l u = flows core z j w es l u
