-- The ways in which an event changes a world, each once: what holds of all of them holds of every event. Assumes nothing.
use Rattle.std.proofs.Common.{◌≡◌, ℕ, suc, ◌+◌, ◌-◌, ◌%◌, ◌<◌, ◌≤◌, Bool, true, false, ◌≢◌, ◌⊎◌, List, [], ◌∷◌, ◌++◌, length, take, drop, set, Some, None, Option, sym, refl, ap, ◌∙◌, subst, inl, inr, arith}
use Rattle.std.proofs.lemmas.Bool.{leb-true, leb-false, ltb-true, ltb-false, or_parts, and_parts, not-false, cases_lt}
use Rattle.std.proofs.lemmas.List.{length-take, length-drop, length-set, get_or-set_same, get_or-set_other}
use Rattle.octets.specs.Rows.{pick, over}
use Rattle.octets.proofs.Tests.{pick_both}
use Rattle.octets.proofs.Lowest.{lowest_from_ge}
use Rattle.turns.specs.Core.{Core, Act, quiet, store, asks, wrong}
use Rattle.turns.specs.World.{World, Process, Done, answers, turned_down, stays, nobody, process, runs_in, opened, pipe_of, file_of, keys_of, shown_on, readers, handle_of, end_behind, end_of}
use Rattle.turns.specs.World.{with_process, with_open, with_pipe, with_file, with_keys, with_shown, with_turn, with_cpu, with_memory, with_handles, with_handle, into_memory, moved, loaded, fitting, in_memory}
use Rattle.turns.specs.World.{free_process, free_open, second_open, free_pipe, free_handle, second_handle, left_child, is_nothing, named}
use Rattle.turns.specs.World.{leaves, forks, waits, execs, opens, closes, copies, pipes_through, reads_from, reads_by, reads, writes_to, writes_by, writes, ends_at, ends, does}
use Rattle.turns.specs.World.{passes, spends, goes_on, after_call, acts, instruction, event, run, begin}
use Rattle.turns.specs.Ranges.{Fits}
use Rattle.turns.specs.Theorems.{Comes, Real}
use Rattle.turns.specs.declared.vocabulary.Sizes.{Sizes}
use Rattle.turns.specs.declared.vocabulary.State.TheVariants.{Runs}
use Rattle.turns.specs.declared.vocabulary.End.{End}
use Rattle.turns.specs.declared.vocabulary.End.TheVariants.{Nothing, Screen, File, WriteEnd, ReadEnd}
use Rattle.turns.specs.declared.vocabulary.OpenThing.{OpenThing}
use Rattle.turns.specs.declared.vocabulary.Call.{Call}
use Rattle.turns.specs.declared.vocabulary.Call.TheVariants as call
use Rattle.turns.specs.declared.vocabulary.Outcome.TheVariants.{Gone}
use Rattle.turns.specs.declared.vocabulary.Event.{Event}
use Rattle.turns.specs.declared.vocabulary.Event.TheVariants.{Tick, Key}

-- an end that has a name: a file that there is, or a screen
pub data Named {Cpu : Type 0} (z : Sizes) (w : World Cpu) : End → Type 0 where
  a_file : (f : ℕ) → f < length w.files → Named z w (File f)
  a_screen : (t : ℕ) → t < z.screens → Named z w (Screen t)

module _ {Cpu : Type 0} (core : Core Cpu) where
  -- of the world that a call in w leaves; if it stays, that is w
  pub data After (w : World Cpu) (P : World Cpu → Type 0) : Done Cpu → Type 0 where
    on : {v : World Cpu} {a : ℕ} → P v → After w P (answers v a)
    gone : {v : World Cpu} → P v → After w P (record { world = v; outcome = Gone })
    stayed : After w P (stays w)

  -- what a handle of p becomes, in a world v on the way from w
  pub data Handle (z : Sizes) (w : World Cpu) (p : ℕ) (v : World Cpu) : Option ℕ → Type 0 where
    none : Handle z w p v None
    copied : (h : ℕ) → Handle z w p v (handle_of core w p h)
    new : (k : ℕ) → k < z.opens → (k < length v.opens → Real z (opened v k).end ⊎ Named z w (opened v k).end) → Handle z w p v (Some k)

  -- where bytes that are read come from
  pub data Source (w : World Cpu) : List ℕ → Type 0 where
    from_file : (f m n : ℕ) → Source w (take n (drop m (file_of w f)))
    from_keys : (t n : ℕ) → Source w (take n (keys_of w t))
    from_pipe : (j n : ℕ) → Source w (take n (pipe_of w j))

  -- the processes that p's doing in w puts into a world v, and where
  pub data New (z : Sizes) (w : World Cpu) (p : ℕ) (v : World Cpu) : ℕ → Process Cpu → Type 0 where
    ticked : (c : Cpu) → New z w p v p (with_cpu (process core v p) c)
    stored : (a : ℕ) (bs : List ℕ) (c : Cpu) → core.act (process core w p).cpu (process core w p).memory ≡ store a bs c → a + length bs ≤ z.memory →
        New z w p v p (with_cpu (with_memory (process core w p) (over (process core w p).memory a bs)) c)
    filled : (a : ℕ) (bs : List ℕ) → Source w bs → a + length bs ≤ z.memory → New z w p v p (with_memory (process core w p) (over (process core w p).memory a bs))
    handled : (h : ℕ) (o : Option ℕ) → Handle z w p v o → New z w p v p (with_handles (process core w p) (set (process core w p).handles h o))
    piped : (h g k l a x y : ℕ) → Handle z w p v (Some k) → Handle z w p v (Some l) → a + 2 ≤ z.memory → x < z.handles → y < z.handles →
        New z w p v p
        (with_memory (with_handles (process core w p) (set (set (process core w p).handles h (Some k)) g (Some l))) (over (process core w p).memory a (x ∷ y ∷ [])))
    begun : (f : ℕ) → New z w p v p
        (record { state = Runs; parent = (process core w p).parent; cpu = core.fresh z.memory; memory = loaded z (file_of w f); handles = (process core w p).handles })
    born : free_process core z w < z.processes → New z w p v (free_process core z w)
        (record { state = Runs; parent = p; cpu = core.answered (process core w p).cpu 0; memory = (process core w p).memory; handles = (process core w p).handles })
    reaped : left_child core z w p < z.processes → New z w p v (left_child core z w p) (nobody core)

  -- the open things that a call in w puts into a world v, and where: a new one, or one that has moved on in its file
  pub data Opened (z : Sizes) (w v : World Cpu) : ℕ → OpenThing → Type 0 where
    made : (k : ℕ) (e : End) → Real z e ⊎ Named z w e → Opened z w v k (record { end = e; at = 0 })
    went : (k f n : ℕ) → (opened w k).end ≡ File f → v.opens ≡ w.opens → (n ≡ 0) ⊎ (((opened w k).at + n ≤ length (file_of w f)) ⊎ ((opened w k).at + n ≤ z.file)) →
        Opened z w v k (record { end = (opened v k).end; at = (opened v k).at + n })

  -- the ways in which an instruction of process p changes a world w, for a property that it shall have afterwards
  pub record Ways (P : World Cpu → Type 0) (z : Sizes) (w : World Cpu) (p : ℕ) : Type 0 where
    pub here : P w
    pub placed : (v : World Cpu) (i : ℕ) (q : Process Cpu) → New z w p v i q → P v → P (with_process v i q)
    pub opens : (v : World Cpu) (k : ℕ) (o : OpenThing) → Opened z w v k o → P v → P (with_open v k o)
    pub keyed : (v : World Cpu) (t n : ℕ) → v.keys ≡ w.keys → P v → P (with_keys v t (drop n (keys_of w t)))
    pub left : (n : ℕ) → P (leaves core w p n).world
    pub taken : (h a j n : ℕ) → end_of core w p h ≡ ReadEnd j → a + length (take n (pipe_of w j)) ≤ z.memory →
        P (with_pipe (into_memory core w p a (take n (pipe_of w j))) j (drop n (pipe_of w j)))
    pub given : (h a j n : ℕ) → end_of core w p h ≡ WriteEnd j → readers core w j ≡ true → P (with_pipe w j (pipe_of w j ++ fitting z w j (in_memory core w p a n)))
    pub emptied : (v : World Cpu) → v.pipes ≡ w.pipes → free_pipe core z w < z.pipes → P v → P (with_pipe v (free_pipe core z w) [])
    pub shown : (h t a n : ℕ) → end_of core w p h ≡ Screen t → P (with_shown w t (shown_on w t ++ in_memory core w p a n))
    pub written : (h f k a n : ℕ) → end_of core w p h ≡ File f → handle_of core w p h ≡ Some k → (opened w k).at + length (in_memory core w p a n) ≤ z.file →
        P (with_file w f (over (file_of w f) (opened w k).at (in_memory core w p a n)))
    pub ended : (h f n : ℕ) → end_of core w p h ≡ File f → P (with_file w f (take n (file_of w f)))

  -- a name stands for an end that there is
  names : (z : Sizes) (w : World Cpu) (f : ℕ) → is_nothing (named z w f) ≡ false → Named z w (named z w f)
  unfolding named is_nothing
  names z w f =
      pick_both (λ e. is_nothing e ≡ false → Named z w e) _ _ _ (λ t _. a_file f (ltb-true _ _ t))
      (λ s. pick_both (λ e. is_nothing e ≡ false → Named z w e) _ _ _ (λ t _. a_screen (f - length w.files) (omega (arith, ltb-true _ _ t, ltb-false _ _ s)))
      (λ _ e. let x : ◌≡◌ {A = Bool} true false = e in absurd (truth x)))
    where
      truth : ◌≡◌ {A = Bool} true false → ⊥
      truth x = let n : ◌≡◌ {A = ℕ} 0 1 = cc in omega arith

  second_open_behind : (z : Sizes) (w : World Cpu) → free_open core z w < second_open core z w
  unfolding second_open
  second_open_behind z w = lowest_from_ge _ (suc (free_open core z w)) (z.opens - suc (free_open core z w))

  -- an open thing that was put there is there
  open_there : (w : World Cpu) (k : ℕ) (o : OpenThing) → k < length w.opens → opened (with_open w k o) k ≡ o
  unfolding opened with_open
  open_there w k o l = get_or-set_same w.opens k o _ l

  -- so are both ends of a new pipe
  pipe_first : (w : World Cpu) (i k : ℕ) (x y : OpenThing) (j : ℕ) → i < k → i < length w.opens → opened (with_pipe (with_open (with_open w i x) k y) j []) i ≡ x
  unfolding opened with_open with_pipe
  pipe_first w i k x y j h l = let n : i ≢ k = omega arith in get_or-set_other (set w.opens i x) k i y _ n ∙ get_or-set_same w.opens i x _ l

  pipe_second : (w : World Cpu) (i k : ℕ) (x y : OpenThing) (j : ℕ) → k < length w.opens → opened (with_pipe (with_open (with_open w i x) k y) j []) k ≡ y
  unfolding opened with_open with_pipe
  pipe_second w i k x y j l = get_or-set_same (set w.opens i x) k y _ (rw (length-set w.opens i x) l)

  second_handle_behind : (z : Sizes) (q : Process Cpu) → free_handle z q < second_handle z q
  unfolding second_handle
  second_handle_behind z q = lowest_from_ge _ (suc (free_handle z q)) (z.handles - suc (free_handle z q))

  module _ (P : World Cpu → Type 0) (z : Sizes) (w : World Cpu) (p : ℕ) (a : Ways P z w p) where
    both : (t : Bool) (x y : Done Cpu) → (t ≡ true → After w P x) → (t ≡ false → After w P y) → After w P (pick t x y)
    both = pick_both (After w P)

    down : After w P (turned_down w)
    down = on a.here

    -- part of what is asked for fits where all of it does
    part_fits : (d n : ℕ) (xs : List ℕ) → d + n ≤ z.memory → d + length (take n xs) ≤ z.memory
    part_fits d n xs l = rw length-take (omega arith)

    reading_by : (h k d n : ℕ) (e : End) → (opened w k).end ≡ e → end_of core w p h ≡ e → d + n ≤ z.memory → After w P (reads_from core w p k d n e)
    unfolding reads_from into_memory moved with_process
    reading_by h k d n Nothing q r l = down
    reading_by h k d n (WriteEnd j) q r l = down
    reading_by h k d n (File f) q r l =
        on (a.opens _ k _ (went k f _ q refl (some_of (opened w k).at n (file_of w f))) (a.placed w p _ (filled d _ (from_file f (opened w k).at n) (part_fits d n _ l)) a.here))
      where
        some_of : (m n : ℕ) (xs : List ℕ) → (length (take n (drop m xs)) ≡ 0) ⊎ ((m + length (take n (drop m xs)) ≤ length xs) ⊎ (m + length (take n (drop m xs)) ≤ z.file))
        some_of m n xs = elim (cases_lt m (length xs)) [
          | inl h ↦ inr (inl (simp (length-take, length-drop) (omega arith)))
          | inr h ↦ inl (simp (length-take, length-drop) (omega arith))
        ]
    reading_by h k d n (Screen t) q r l =
        both _ _ _ (λ _. stayed) (λ _. on (a.keyed _ t n refl (a.placed w p _ (filled d _ (from_keys t n) (part_fits d n _ l)) a.here)))
    reading_by h k d n (ReadEnd j) q r l = both _ _ _ (λ _. both _ _ _ (λ _. stayed) (λ _. on a.here)) (λ _. on (a.taken h d j n r (part_fits d n _ l)))

    read_through : (h d n : ℕ) (o : Option ℕ) → handle_of core w p h ≡ o → d + n ≤ z.memory → After w P (reads_by core w p d n o)
    unfolding reads_by end_of end_behind
    read_through h d n None q l = down
    read_through h d n (Some k) q l = reading_by h k d n _ refl (ap (end_behind w) q) l

    writing_by : (h k d n : ℕ) (e : End) → handle_of core w p h ≡ Some k → end_of core w p h ≡ e → (opened w k).end ≡ e → After w P (writes_to core z w k (in_memory core w p d n) e)
    unfolding writes_to moved with_file
    writing_by h k d n Nothing q r s = down
    writing_by h k d n (ReadEnd j) q r s = down
    writing_by h k d n (File f) q r s =
        both _ _ _ (λ _. down) (λ t. on (a.opens _ k _ (went k f _ s refl (inr (inr (ltb-false _ _ t)))) (a.written h f k d n r q (ltb-false _ _ t))))
    writing_by h k d n (Screen t) q r s = on (a.shown h t d n r)
    writing_by h k d n (WriteEnd j) q r s = both _ _ _ (λ _. down) (λ t. both _ _ _ (λ _. stayed) (λ _. on (a.given h d j n r (not-false _ t))))

    write_through : (h d n : ℕ) (o : Option ℕ) → handle_of core w p h ≡ o → After w P (writes_by core z w (in_memory core w p d n) o)
    unfolding writes_by end_of end_behind
    write_through h d n None q = down
    write_through h d n (Some k) q = writing_by h k d n _ q (ap (end_behind w) q) refl

    ending_by : (h k : ℕ) (e : End) → end_of core w p h ≡ e → After w P (ends_at w k e)
    unfolding ends_at
    ending_by h k Nothing r = down
    ending_by h k (Screen t) r = down
    ending_by h k (WriteEnd j) r = down
    ending_by h k (ReadEnd j) r = down
    ending_by h k (File f) r = on (a.ended h f _ r)

    end_through : (h : ℕ) (o : Option ℕ) → handle_of core w p h ≡ o → After w P (ends w o)
    unfolding ends end_of end_behind
    end_through h None q = down
    end_through h (Some k) q = ending_by h k _ (ap (end_behind w) q)

    opening : (f : ℕ) → After w P (opens core z w p f)
    unfolding opens with_handle process with_open
    opening f = both _ _ _ (λ _. down) (λ e. let q = or_parts _ _ e in one (names z w f q.0) (leb-false _ _ (or_parts _ _ q.1).0))
      where
        one : Named z w (named z w f) → free_open core z w < z.opens →
            After w P (answers (with_handle core (with_open w (free_open core z w) (record { end = named z w f; at = 0 })) p (free_handle z (process core w p)) (Some (free_open core z w))) (free_handle z (process core w p)))
        one n l = on (a.placed _ p _ (handled _ _ (new _ l (λ b. inr (rw (open_there w (free_open core z w) _ (omega (arith, length-set w.opens (free_open core z w) (record { end = named z w f; at = 0 })))) n))))
            (a.opens w _ _ (made _ _ (inr n)) a.here))

    piping : (d : ℕ) → After w P (pipes_through core z w p d)
    unfolding pipes_through with_open with_pipe Real
    piping d = both _ _ _ (λ _. down) (λ e. let q = or_parts _ _ e in let r = or_parts _ _ q.1 in let s = or_parts _ _ r.1 in two (ltb-false _ _ q.0) (leb-false _ _ r.0) (leb-false _ _ s.0) (leb-false _ _ s.1))
      where
        one : OpenThing
        one = record { end = ReadEnd (free_pipe core z w); at = 0 }

        other : OpenThing
        other = record { end = WriteEnd (free_pipe core z w); at = 0 }

        ready : World Cpu
        ready = with_pipe (with_open (with_open w (free_open core z w) one) (second_open core z w) other) (free_pipe core z w) []

        two : d + 2 ≤ z.memory → free_pipe core z w < z.pipes → second_open core z w < z.opens → second_handle z (process core w p) < z.handles →
            After w P (answers (with_process ready p
            (with_memory (with_handles (process core w p) (set (set (process core w p).handles (free_handle z (process core w p)) (Some (free_open core z w))) (second_handle z (process core w p)) (Some (second_open core z w))))
            (over (process core w p).memory d (free_handle z (process core w p) ∷ second_handle z (process core w p) ∷ [])))) 0)
        two m j l g =
            let f : free_open core z w < z.opens = omega (arith, second_open_behind z w) in
            let n : length ready.opens ≡ length w.opens = length-set (set w.opens (free_open core z w) one) (second_open core z w) other ∙ length-set w.opens (free_open core z w) one in
            on (a.placed ready p _
            (piped (free_handle z (process core w p)) (second_handle z (process core w p)) (free_open core z w) (second_open core z w) d (free_handle z (process core w p)) (second_handle z (process core w p))
            (new (free_open core z w) f (λ b. inl (subst (λ (o : OpenThing). Real z o.end) (sym (pipe_first w (free_open core z w) (second_open core z w) one other (free_pipe core z w) (second_open_behind z w) (omega arith))) j)))
            (new (second_open core z w) l (λ b. inl (subst (λ (o : OpenThing). Real z o.end) (sym (pipe_second w (free_open core z w) (second_open core z w) one other (free_pipe core z w) (omega arith))) j)))
            m (omega (arith, second_handle_behind z (process core w p))) g)
            (a.emptied (with_open (with_open w (free_open core z w) one) (second_open core z w) other) refl j
            (a.opens (with_open w (free_open core z w) one) (second_open core z w) other (made (second_open core z w) (WriteEnd (free_pipe core z w)) (inl j))
            (a.opens w (free_open core z w) one (made (free_open core z w) (ReadEnd (free_pipe core z w)) (inl j)) a.here))))

    pub does_by : (c : Call) → After w P (does core z w p c)
    unfolding does forks waits execs closes copies with_handle reads writes leaves
    does_by (call.Leave n) = gone (a.left n)
    does_by call.Fork = both _ _ _ (λ _. down) (λ e. on (a.placed w _ _ (born (leb-false _ _ e)) a.here))
    does_by call.Wait = both _ _ _ (λ _. down) (λ _. both _ _ _ (λ e. on (a.placed w _ _ (reaped (ltb-true _ _ e)) a.here)) (λ _. stayed))
    does_by (call.Exec f) = both _ _ _ (λ _. gone (a.placed w p _ (begun f) a.here)) (λ _. down)
    does_by (call.Open f) = opening f
    does_by (call.Close h) = both _ _ _ (λ _. down) (λ _. on (a.placed w p _ (handled _ _ none) a.here))
    does_by (call.Copy h g) = both _ _ _ (λ _. down) (λ _. on (a.placed w p _ (handled g _ (copied h)) a.here))
    does_by (call.Pipe d) = piping d
    does_by (call.Read h d n) = both _ _ _ (λ _. on a.here) (λ _. both _ _ _ (λ _. down) (λ e. read_through h d n _ refl (ltb-false _ _ e)))
    does_by (call.Write h d n) = both _ _ _ (λ _. on a.here) (λ _. both _ _ _ (λ _. down) (λ _. write_through h d n _ refl))
    does_by call.Save = on a.here
    does_by (call.End h) = end_through h _ refl
    does_by call.Unknown = down

    -- Q is what is to hold once the instruction's time is spent
    module _ (Q : World Cpu → Type 0) (spent : (v : World Cpu) → P v → Q (spends z v)) (passed : Q (passes z w)) where
      after_by : (d : Done Cpu) → After w P d → Q (after_call core z p d)
      unfolding after_call goes_on
      after_by _ (on h) = spent _ (a.placed _ p _ (ticked _) h)
      after_by _ (gone h) = spent _ h
      after_by _ stayed = passed

      pub acts_by : (i : Act Cpu) → core.act (process core w p).cpu (process core w p).memory ≡ i → Q (acts core z w p i)
      unfolding acts
      acts_by (quiet c) e = spent _ (a.placed w p _ (ticked c) a.here)
      acts_by (store d bs c) e = pick_both Q _ _ _ (λ l. spent _ (a.placed w p _ (stored d bs c e (leb-true _ _ l)) a.here)) (λ _. spent _ (a.left 255))
      acts_by (asks c) e = after_by _ (does_by c)
      acts_by wrong e = spent _ (a.left 255)

  -- an event that is a tick of the process whose turn it is, with a property that sees turns
  pub tick_by : (P Q : World Cpu → Type 0) (z : Sizes) (w : World Cpu) → (runs_in core w 0 ≡ true → runs_in core w w.turn ≡ true → Ways P z w w.turn) →
      ((v : World Cpu) → P v → Q (spends z v)) → (runs_in core w 0 ≡ true → Q (passes z w)) → (runs_in core w 0 ≡ false → Q w) → Q (event core z w Tick)
  unfolding event instruction
  tick_by P Q z w a spent passed idle =
      pick_both Q _ _ _ (λ r. pick_both Q _ _ _ (λ t. acts_by P z w w.turn (a r t) Q spent (passed r) _ refl) (λ _. passed r)) idle

  -- a key is put behind the others, or lost
  pub key_by : (P : World Cpu → Type 0) (z : Sizes) (w : World Cpu) (t b : ℕ) → P w →
      (t < z.screens → length (keys_of w t) < z.pipe → P (with_keys w t (keys_of w t ++ b % 256 ∷ []))) → P (event core z w (Key t b))
  unfolding event
  key_by P z w t b here typed = pick_both P _ _ _ (λ e. let q = and_parts _ _ e in typed (ltb-true _ _ q.0) (ltb-true _ _ q.1)) (λ _. here)

  -- what does not see turns has to be looked at only for what an instruction changes, and for keys
  pub event_by : (P : World Cpu → Type 0) (z : Sizes) (w : World Cpu) → P w → (runs_in core w 0 ≡ true → runs_in core w w.turn ≡ true → Ways P z w w.turn) →
      ((v : World Cpu) (t u : ℕ) → P v → P (with_turn v t u)) →
      ((t b : ℕ) → t < z.screens → length (keys_of w t) < z.pipe → P (with_keys w t (keys_of w t ++ b % 256 ∷ []))) → (e : Event) → P (event core z w e)
  unfolding spends passes
  event_by P z w here a turned typed Tick =
      tick_by P P z w a (λ v h. pick_both P _ _ _ (λ _. turned v _ _ h) (λ _. turned v _ _ h)) (λ _. turned w _ _ here) (λ _. here)
  event_by P z w here a turned typed (Key t b) = key_by P z w t b here (typed t b)

  -- what events keep, rows of events keep; what the start has too, all worlds that come about have
  pub run_by : (P : World Cpu → Type 0) (z : Sizes) → ((w : World Cpu) (e : Event) → P w → P (event core z w e)) → (w : World Cpu) (es : List Event) → P w → P (run core z w es)
  unfolding run
  run_by P z step w [] h = h
  run_by P z step w (e ∷ es) h = run_by P z step (event core z w e) es (step w e h)

  pub comes_by : (P : World Cpu → Type 0) (z : Sizes) → ((fs : List (List ℕ)) → Fits z fs → P (begin core z fs)) →
      ((w : World Cpu) (e : Event) → P w → P (event core z w e)) → (w : World Cpu) → Comes core z w → P w
  unfolding Comes
  comes_by P z start step w c = subst P c.3 (run_by P z step _ c.1 (start c.0 c.2))
