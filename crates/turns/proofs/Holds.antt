-- Every handle in use leads to an open thing that is something. Assumes nothing.
use Rattle.std.proofs.Common.{◌≡◌, ℕ, zero, suc, ◌-◌, ◌<◌, true, false, ◌&&◌, ◌⊎◌, List, [], ◌∷◌, map, length, get_or, take, set, replicate, Some, None, Option, sym, refl, ap, ◌∙◌, subst, inl, inr, arith}
use Rattle.octets.proofs.Tests.{get_or_set_by, get_or_all}
use Rattle.turns.specs.Core.{Core}
use Rattle.turns.specs.World.{World, Process, process, nobody, runs_in, event}
use Rattle.turns.specs.World.{with_process, with_processes, with_open, with_pipe, with_file, with_keys, with_shown, with_turn, with_cpu, with_memory, with_handles, into_memory, orphaned, leaves, pipe_of}
use Rattle.turns.specs.declared.vocabulary.Sizes.{Sizes}
use Rattle.turns.specs.declared.vocabulary.Event.{Event}
use Rattle.turns.proofs.Step.{Ways, New, ticked, stored, filled, handled, piped, begun, born, reaped, event_by, comes_by}
use Rattle.std.proofs.lemmas.List.{length-set}
use Rattle.std.proofs.lemmas.Bool.{both_ways, and_from, and_parts, ltb-true, eqb-true, eq-eqb}
use Rattle.octets.specs.Rows.{lowest, some}
use Rattle.octets.proofs.Lowest.{lowest_holds, some_at}
use Rattle.turns.specs.World.{is_running, has_open, in_use, leads_to, opened, closed, handle_of, begin}
use Rattle.turns.specs.Ranges.{Fits}
use Rattle.turns.specs.Theorems.{Comes, Real}
use Rattle.turns.specs.declared.vocabulary.End.{End}
use Rattle.turns.specs.declared.vocabulary.OpenThing.{OpenThing}
use Rattle.turns.proofs.Step.{Named, a_file, a_screen, Handle, none, copied, new, Opened, made, went, from_pipe}
use Rattle.turns.proofs.Others.{orphans}
use Rattle.turns.proofs.Pipes.{runs_within}
use Rattle.turns.proofs.Shapes.{Tables, table_ways, table_start}

some_not_none : (k : ℕ) → ◌≡◌ {A = Option ℕ} None (Some k) → ⊥
some_not_none k e = let x : ◌≡◌ {A = ℕ} 0 1 = cc in omega arith

leads_some : (k : ℕ) (o : Option ℕ) → leads_to k o ≡ true → o ≡ Some k
unfolding leads_to
leads_some k None e = absurd (both_ways false refl e)
leads_some k (Some i) e = ap Some (eqb-true i k e)

some_leads : (k : ℕ) (o : Option ℕ) → o ≡ Some k → leads_to k o ≡ true
unfolding leads_to
some_leads k None e = absurd (some_not_none k e)
some_leads k (Some i) e = let q : i ≡ k = cc in eq-eqb i k q

-- a handle that leads somewhere is one that there is
handle_within : (hs : List (Option ℕ)) (h k : ℕ) → get_or hs h None ≡ Some k → h < length hs
handle_within [] h k e = absurd (some_not_none k e)
handle_within (o ∷ hs) zero k e = omega arith
handle_within (o ∷ hs) (suc h) k e = omega (arith, handle_within hs h k e)

real_named : {Cpu : Type 0} (z : Sizes) (w : World Cpu) (e : End) → length w.files ≡ z.files → Real z e ⊎ Named z w e → Real z e
unfolding Real
real_named z w e l (inl h) = h
real_named z w _ l (inr (a_file f h)) = omega arith
real_named z w _ l (inr (a_screen t h)) = h

module _ {Cpu : Type 0} (core : Core Cpu) where
  -- who runs and has a handle on an open thing has it in use
  pub uses : (w : World Cpu) (p h k : ℕ) → runs_in core w p ≡ true → handle_of core w p h ≡ Some k → in_use core w k ≡ true
  unfolding in_use has_open handle_of
  uses w p h k r e =
      some_at (has_open core w k) (length w.processes) p (runs_within core w p r)
      (and_from _ _ r (some_at (λ i. leads_to k (get_or (process core w p).handles i None)) (length (process core w p).handles) h (handle_within _ h k e) (some_leads k _ e)))

  -- and what is in use, somebody has who runs
  pub used_by : (w : World Cpu) (k : ℕ) → in_use core w k ≡ true → (p : ℕ) × (h : ℕ) × (runs_in core w p ≡ true) × (handle_of core w p h ≡ Some k)
  unfolding in_use has_open handle_of
  used_by w k u =
      let p : ℕ = lowest (has_open core w k) (length w.processes) in
      let a : (runs_in core w p && some (λ i. leads_to k (get_or (process core w p).handles i None)) (length (process core w p).handles)) ≡ true =
      lowest_holds (has_open core w k) (length w.processes) (ltb-true _ _ u) in
      let b : some (λ i. leads_to k (get_or (process core w p).handles i None)) (length (process core w p).handles) ≡ true = (and_parts (runs_in core w p) _ a).1 in
      let h : ℕ = lowest (λ i. leads_to k (get_or (process core w p).handles i None)) (length (process core w p).handles) in (
        p,
        h,
        (and_parts (runs_in core w p) _ a).0,
        leads_some k _ (lowest_holds (λ i. leads_to k (get_or (process core w p).handles i None)) (length (process core w p).handles) (ltb-true _ _ b)),
      )

  -- handles of a process that runs lead to what there is in world v
  abbrev Leads : Sizes → World Cpu → Process Cpu → Type 0
  Leads z v x = is_running x.state ≡ true → (h k : ℕ) → get_or x.handles h None ≡ Some k → (k < z.opens) × Real z (opened v k).end

  -- of a world v on the way from w: what was in use in w still is something, and so is all that handles lead to
  pub record Held (z : Sizes) (w v : World Cpu) : Type 0 where
    pub tables : Tables z v
    pub old : (k : ℕ) → in_use core w k ≡ true → (k < z.opens) × Real z (opened v k).end
    pub leads : (q : ℕ) → Leads z v (process core v q)

  -- other parts of the world do not matter
  held_same : (z : Sizes) (w v u : World Cpu) → u.processes ≡ v.processes → u.opens ≡ v.opens → Tables z u → Held z w v → Held z w u
  unfolding process opened
  held_same z w v u a b t g = record { tables = t; old = λ k x. rw b (g.old k x); leads = λ q. rw (a, b) (g.leads q) }

  module _ (z : Sizes) (w : World Cpu) (p : ℕ) (s : Held z w w) (r : runs_in core w p ≡ true) where
    -- handles that p had
    had : (v : World Cpu) → Held z w v → (h k : ℕ) → get_or (process core w p).handles h None ≡ Some k → (k < z.opens) × Real z (opened v k).end
    unfolding handle_of
    had v g h k e = g.old k (uses w p h k r e)

    -- and what becomes of them
    becomes : (v : World Cpu) → Held z w v → (o : Option ℕ) → Handle core z w p v o → (k : ℕ) → o ≡ Some k → (k < z.opens) × Real z (opened v k).end
    unfolding handle_of
    becomes v g _ none k e = absurd (some_not_none k e)
    becomes v g _ (copied h) k e = had v g h k e
    becomes v g _ (new i l m) k e = let q : i ≡ k = cc in subst (λ j. (j < z.opens) × Real z (opened v j).end) q (l, real_named z w _ s.tables.files (m (omega (arith, g.tables.opens))))

    leads_new : (v : World Cpu) (i : ℕ) (x : Process Cpu) → Held z w v → New core z w p v i x → Leads z v x
    unfolding with_cpu with_memory with_handles nobody is_running
    leads_new v _ _ g (ticked c) = g.leads p
    leads_new v _ _ g (stored a bs c e l) = λ _. had v g
    leads_new v _ _ g (filled a bs e l) = λ _. had v g
    leads_new v _ _ g (handled i o n) = λ _ h k.
        get_or_set_by (λ x. x ≡ Some k → (k < z.opens) × Real z (opened v k).end) (process core w p).handles i h o None (λ _. becomes v g o n k) (had v g h k)
    leads_new v _ _ g (piped i j m n a x y b c l d e) = λ _ h k.
        get_or_set_by (λ x. x ≡ Some k → (k < z.opens) × Real z (opened v k).end) (set (process core w p).handles i (Some m)) j h (Some n) None (λ _. becomes v g (Some n) c k)
        (get_or_set_by (λ x. x ≡ Some k → (k < z.opens) × Real z (opened v k).end) (process core w p).handles i h (Some m) None (λ _. becomes v g (Some m) b k) (had v g h k))
    leads_new v _ _ g (begun f) = λ _. had v g
    leads_new v _ _ g (born l) = λ _. had v g
    leads_new v _ _ g (reaped l) = λ t. absurd (both_ways false refl t)

    held_placed : (v : World Cpu) (i : ℕ) (x : Process Cpu) → New core z w p v i x → Held z w v → Held z w (with_process v i x)
    unfolding with_process process opened
    held_placed v i x n g =
        record {
          tables = (table_ways core z w p s.tables).placed v i x n g.tables;
          old = g.old;
          leads = λ q. get_or_set_by (Leads z v) v.processes i q x _ (λ _. leads_new v i x g n) (g.leads q);
        }

    -- an open thing that is something is put there
    kept : (v : World Cpu) (k : ℕ) (o : OpenThing) → (Real z (opened v k).end → Real z o.end) → (i : ℕ) → (i < z.opens) × Real z (opened v i).end →
        (i < z.opens) × Real z (opened (with_open v k o) i).end
    unfolding opened with_open
    kept v k o f i h =
        (h.0, get_or_set_by (λ (x : OpenThing). Real z x.end) v.opens k i o closed (λ e. f (subst (λ n. Real z (get_or v.opens n closed).end) e h.1)) h.1)

    real_open : (v : World Cpu) (k : ℕ) (o : OpenThing) → Opened core z w v k o → Real z (opened v k).end → Real z o.end
    real_open v _ _ (made k e b) h = real_named z w e s.tables.files b
    real_open v _ _ (went k f n e same b) h = h

    held_opens : (v : World Cpu) (k : ℕ) (o : OpenThing) → Opened core z w v k o → Held z w v → Held z w (with_open v k o)
    unfolding process with_open
    held_opens v k o n g =
        record {
          tables = (table_ways core z w p s.tables).opens v k o n g.tables;
          old = λ i u. kept v k o (real_open v k o n) i (g.old i u);
          leads = λ q t h i a. kept v k o (real_open v k o n) i (g.leads q t h i a);
        }

    held_left : (n : ℕ) → Held z w (leaves core w p n).world
    unfolding process with_process with_processes leaves orphaned is_running opened
    held_left n =
        record {
          tables = (table_ways core z w p s.tables).left n;
          old = s.old;
          leads = λ q. get_or_set_by (Leads z w) (map _ w.processes) p q _ _ (λ _ t. absurd (both_ways false refl t))
              (let o = orphans core p w.processes q in λ t h k e. s.leads q (subst (λ x. is_running x ≡ true) o.state t) h k (subst (λ (hs : List (Option ℕ)). get_or hs h None ≡ Some k) o.handles e));
        }

    held_ways : Ways core (Held z w) z w p
    unfolding with_process with_pipe with_file with_keys with_shown into_memory
    held_ways =
        record {
          here = s;
          placed = held_placed;
          opens = held_opens;
          keyed = λ v t n e h. held_same z w v _ refl refl ((table_ways core z w p s.tables).keyed v t n e h.tables) h;
          left = held_left;
          taken = λ h a j n e l. held_same z w (into_memory core w p a (take n (pipe_of w j))) _ refl refl ((table_ways core z w p s.tables).taken h a j n e l) (held_placed w p _ (filled a (take n (pipe_of w j)) (from_pipe j n) l) s);
          given = λ h a j n e t. held_same z w w _ refl refl ((table_ways core z w p s.tables).given h a j n e t) s;
          emptied = λ v e l h. held_same z w v _ refl refl ((table_ways core z w p s.tables).emptied v e l h.tables) h;
          shown = λ h t a n e. held_same z w w _ refl refl ((table_ways core z w p s.tables).shown h t a n e) s;
          written = λ h f k a n e q l. held_same z w w _ refl refl ((table_ways core z w p s.tables).written h f k a n e q l) s;
          ended = λ h f n e. held_same z w w _ refl refl ((table_ways core z w p s.tables).ended h f n e) s;
        }

  -- what is in use is what handles lead to
  held_self : (z : Sizes) (v : World Cpu) → Tables z v → ((q : ℕ) → Leads z v (process core v q)) → Held z v v
  unfolding handle_of runs_in
  held_self z v t g = record { tables = t; old = λ k u. let b = used_by v k u in g b.0 b.2 b.1 k b.3; leads = g }

  held_step : (z : Sizes) (w : World Cpu) (e : Event) → Held z w w → Held z (event core z w e) (event core z w e)
  unfolding with_turn with_keys
  held_step z w e s =
      let h : Held z w (event core z w e) =
      event_by core (Held z w) z w s (λ _ t. held_ways z w w.turn s t)
      (λ v t u h. held_same z w v _ refl refl (record { processes = h.tables.processes; opens = h.tables.opens; pipes = h.tables.pipes; files = h.tables.files; keys = h.tables.keys; shown = h.tables.shown }) h)
      (λ t b _ _. held_same z w w _ refl refl (record { processes = s.tables.processes; opens = s.tables.opens; pipes = s.tables.pipes; files = s.tables.files; keys = length-set _ _ _ ∙ s.tables.keys; shown = s.tables.shown }) s) e in
      held_self z (event core z w e) h.tables h.leads

  held_start : (z : Sizes) (fs : List (List ℕ)) → Fits z fs → Held z (begin core z fs) (begin core z fs)
  unfolding begin process nobody is_running opened Real
  held_start z fs f = held_self z (begin core z fs) (table_start core z fs f) first
    where
      screen : (k : ℕ) → ◌≡◌ {A = Option ℕ} (Some 0) (Some k) → (k < z.opens) × Real z (opened (begin core z fs) k).end
      screen k e = let q : 0 ≡ k = cc in subst (λ n. (n < z.opens) × Real z (opened (begin core z fs) n).end) q (f.sizes.opens.0, f.sizes.screens.0)

      handle : (h k : ℕ) → get_or (Some 0 ∷ Some 0 ∷ Some 0 ∷ replicate (z.handles - 3) None) h None ≡ Some k → (k < z.opens) × Real z (opened (begin core z fs) k).end
      handle zero k e = screen k e
      handle (suc zero) k e = screen k e
      handle (suc (suc zero)) k e = screen k e
      handle (suc (suc (suc h))) k e = absurd (some_not_none k (sym (get_or_all (z.handles - 3) h None) ∙ e))

      first : (q : ℕ) → Leads z (begin core z fs) (process core (begin core z fs) q)
      first zero = λ _. handle
      first (suc q) = rw (get_or_all (z.processes - 1) q (nobody core)) (λ t. absurd (both_ways false refl t))

  pub held : (z : Sizes) (w : World Cpu) → Comes core z w → Held z w w
  held z w c = comes_by core (λ v. Held z v v) z (held_start z) (held_step z) w c
