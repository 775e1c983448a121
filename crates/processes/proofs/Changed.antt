-- One thing changed in the tables, and in the world. Assumes nothing.
use Rattle.std.proofs.Common.{◌≡◌, ℕ, zero, suc, ◌+◌, ◌%◌, ◌<◌, ◌≤◌, Bool, true, false, eqb, List, [], ◌∷◌, map, length, get_or, set, None, Option, sym, refl, ap, ◌∙◌, subst, ⊎_elim, arith}
use Rattle.std.specs.Prelude.{if◌then◌else◌}
use Rattle.std.proofs.lemmas.List.{length-map, length-set, get_or-set_same, get_or-set_other}
use Rattle.std.proofs.lemmas.Bool.{cases_eq, eq-eqb, ne_eqb, both_ways, lt-ltb, le-ltb}
use Rattle.octets.specs.Rows.{pick}
use Rattle.octets.proofs.Tests.{pick_true, pick_false, get_or_set_by, get_or_all}
use Rattle.turns.specs.World.{process, nobody, opened, closed, is_running, with_process, with_open, with_handle, after_turn, passes, spends, moved, orphaned, leaves}
use Rattle.turns.specs.declared.vocabulary.State.{State}
use Rattle.turns.specs.declared.vocabulary.State.TheVariants.{Free, Runs, Left}
use Rattle.turns.specs.World as W
use Rattle.turns.specs.Ranges.{InRange}
use Rattle.turns.specs.declared.vocabulary.Sizes.{Sizes}
use Rattle.turns.specs.declared.vocabulary.OpenThing.{OpenThing}
use Rattle.rv32.specs.declared.cpu.Cpu.{Cpu}
use Rattle.rv32.specs.Act.{core}
use Rattle.rv32.specs.Execute.{answered, fresh}
use Rattle.processes.specs.declared.Process.{Process}
use Rattle.processes.specs.declared.Tables.{Tables}
use Rattle.processes.specs.Tabled.{Tabled, Same, Kept, Follows, FollowsIn, Worlds, place, thing, blank, shut}
use Rattle.processes.specs.Changes.{with_handles, without_parent, away, child, begun}

-- the tables with other places, other open things or another turn, whatever proves what their type says of them
abbrev Facts : (z : Sizes) (n u : ℕ) → Type 0
Facts z n u = InRange z × (n < z.processes) × (u < z.turn)

abbrev with_places : (t : Tables) → List Process → Facts t.sizes t.turn t.used → Tables
with_places t ps f = record t { processes = ps; in_range = f.0; turn_there = f.1; used_within = f.2 }

abbrev with_place : (t : Tables) → ℕ → Process → Facts t.sizes t.turn t.used → Tables
with_place t p q f = with_places t (set t.processes p q) f

abbrev with_thing : (t : Tables) → ℕ → OpenThing → Facts t.sizes t.turn t.used → Tables
with_thing t k o f = record t { opens = set t.opens k o; in_range = f.0; turn_there = f.1; used_within = f.2 }

abbrev with_turn : (t : Tables) (n u : ℕ) → Facts t.sizes n u → Tables
with_turn t n u f = record t { turn = n; used = u; in_range = f.0; turn_there = f.1; used_within = f.2 }

pub kept_on : (t u v : Tables) → Kept t u → Kept u v → Kept t v
kept_on t u v a b = record { sizes = b.sizes ∙ a.sizes; states = λ q. b.states q ∙ a.states q }

-- PLACES

-- one place changes in the tables, and in the world
tabled_place : (t : Tables) (w : Worlds) (p : ℕ) (q : Process) (v : W.Process Cpu) (f : Facts t.sizes t.turn t.used) → length t.processes ≡ 64 → Tabled t w → p < t.sizes.processes → Same t.sizes q v →
    Tabled (with_place t p q f) (with_process w p v)
unfolding with_process process opened
tabled_place t w p q v f s h l e =
    let a : p < length t.processes = omega (arith, s, t.in_range.processes.1) in
    let b : p < length w.processes = omega (arith, h.places) in
    record {
      places = length-set w.processes p v ∙ h.places;
      each = λ r. ⊎_elim
          (λ (i : r ≡ p). rw (i, get_or-set_same t.processes p q blank a, get_or-set_same w.processes p v (nobody core) b) e)
          (λ n. rw (get_or-set_other t.processes p r q blank n, get_or-set_other w.processes p r v (nobody core) n) (h.each r))
          (cases_eq r p);
      ends = h.ends;
      opens = h.opens;
      turn = h.turn;
      used = h.used;
    }

set_state : (t : Tables) (p : ℕ) (q : Process) (r : ℕ) → p < length t.processes → (get_or (set t.processes p q) r blank).state ≡ (if eqb r p then q.state else (place t r).state)
set_state t p q r a =
    ⊎_elim
    (λ (i : r ≡ p). rw (i, get_or-set_same t.processes p q blank a, eq-eqb p p refl) refl)
    (λ n. rw (ne_eqb r p n) (ap (λ (y : Process). y.state) (get_or-set_other t.processes p r q blank n)))
    (cases_eq r p)

-- what is put there: place p of the tables, and of each world of them
module _ (t : Tables) (p : ℕ) (q : Process) (v : Worlds → W.Process Cpu) (s : length t.processes ≡ 64) (l : p < t.sizes.processes)
    (e : (w : Worlds) → Tabled t w → Same t.sizes q (v w)) {f : Facts t.sizes t.turn t.used} where
  -- its state stays
  pub follows_place : q.state ≡ (place t p).state → Follows t (with_place t p q f) (λ w. with_process w p (v w))
  follows_place k =
      record {
        kept = record {
          sizes = refl;
          states = λ r. get_or_set_by (λ (x : Process). x.state ≡ (place t r).state) t.processes p r q blank (λ (i : r ≡ p). rw i k) refl;
        };
        tabled = λ w h. tabled_place t w p q (v w) f s h l (e w h);
      }

  -- its state is another
  pub follows_state : FollowsIn t (with_place t p q f) p q.state (λ w. with_process w p (v w))
  follows_state =
      record {
        sizes = refl;
        states = λ r. set_state t p q r (omega (arith, s, l, t.in_range.processes.1));
        tabled = λ w h. tabled_place t w p q (v w) f s h l (e w h);
      }

-- what is put there is the same as in the world: other registers,
pub same_cpu : (z : Sizes) (q : Process) (v : W.Process Cpu) (c d : Cpu) → Same z q v → (is_running q.state ≡ true → c ≡ d) → Same z (record q { cpu = c }) (W.with_cpu v d)
unfolding W.with_cpu
same_cpu z q v c d e k = record { state = e.state; parent = e.parent; cpu = k; handles = e.handles; count = e.count }

-- another handle,
pub same_handle : (z : Sizes) (q : Process) (v : W.Process Cpu) (i : ℕ) (o : Option ℕ) → i < length q.handles → is_running q.state ≡ true → i < z.handles → Same z q v →
    Same z (with_handles q (set q.handles i o)) (W.with_handles v (set v.handles i o))
unfolding W.with_handles
same_handle z q v i o a r l e =
    let b : i < length v.handles = omega (arith, e.count r) in
    record {
      state = e.state;
      parent = e.parent;
      cpu = e.cpu;
      handles = λ k. ⊎_elim
          (λ (j : k ≡ i). rw (j, get_or-set_same q.handles i o None a, get_or-set_same v.handles i o None b))
          (λ n. rw (get_or-set_other q.handles i k o None n, get_or-set_other v.handles i k o None n) (e.handles k))
          (cases_eq k i);
      count = λ x. length-set v.handles i o ∙ e.count x;
    }

-- nobody who runs, and no handles,
pub same_away : (z : Sizes) (q : Process) (v : W.Process Cpu) → q.state ≡ v.state → q.parent ≡ v.parent → is_running q.state ≡ false → ((h : ℕ) → get_or q.handles h None ≡ None) → v.handles ≡ [] → Same z q v
same_away z q v a b e n m =
    record {
      state = a;
      parent = b;
      cpu = λ r. absurd (both_ways (is_running q.state) e r);
      handles = λ k. n k ∙ ap (λ (hs : List (Option ℕ)). get_or hs k None) (sym m);
      count = λ r. absurd (both_ways (is_running q.state) e r);
    }

-- a child,
pub same_child : (t : Tables) (w : Worlds) (p : ℕ) (c : Cpu) → Tabled t w → is_running (place t p).state ≡ true → c ≡ answered (place t p).cpu 0 →
    Same t.sizes (record { state = Runs; parent = p; cpu = c; handles = (place t p).handles }) (child w p)
same_child t w p c h r e =
    record {
      state = refl;
      parent = refl;
      cpu = λ _. e ∙ ap (λ (x : Cpu). answered x 0) ((h.each p).cpu r);
      handles = (h.each p).handles;
      count = λ _. (h.each p).count r;
    }

running : (x : State) → is_running x ≡ true → Runs ≡ x
unfolding is_running
running Free e = absurd (both_ways false refl e)
running Runs e = refl
running (Left n) e = absurd (both_ways false refl e)

-- or another program
pub same_begun : (z : Sizes) (q : Process) (v : W.Process Cpu) (c : Cpu) (m : List ℕ) → Same z q v → is_running q.state ≡ true → c ≡ fresh z.memory → Same z (record q { cpu = c }) (begun z.memory m v)
same_begun z q v c m e r k =
    record { state = sym (running q.state r); parent = e.parent; cpu = λ _. k; handles = e.handles; count = e.count }

-- ORPHANS

none_less : (b : Bool) → ◌≡◌ {A = ℕ} (if b then 0 else 0) 0
none_less true = refl
none_less false = refl

picked : (b : Bool) (m n : ℕ) → (if b then m else n) ≡ pick b m n
unfolding pick
picked true m n = refl
picked false m n = refl

orphan_at : (p q : ℕ) (vs : List (W.Process Cpu)) → get_or (map (W.without_parent p) vs) q (nobody core) ≡ W.without_parent p (get_or vs q (nobody core))
unfolding W.without_parent W.with_parent nobody
orphan_at p q [] = rw (← picked (eqb 0 p) 0 0, none_less (eqb 0 p)) refl
orphan_at p zero (v ∷ vs) = refl
orphan_at p (suc q) (v ∷ vs) = orphan_at p q vs

lost_at : (p q : ℕ) (xs : List Process) → get_or (map (without_parent p) xs) q blank ≡ without_parent p (get_or xs q blank)
lost_at p q [] = rw (none_less (eqb 0 p)) refl
lost_at p zero (x ∷ xs) = refl
lost_at p (suc q) (x ∷ xs) = lost_at p q xs

orphan_same : (z : Sizes) (p : ℕ) (q : Process) (v : W.Process Cpu) → Same z q v → Same z (without_parent p q) (W.without_parent p v)
unfolding W.without_parent W.with_parent
orphan_same z p q v e =
    record { state = e.state; parent = picked (eqb q.parent p) 0 q.parent ∙ ap (λ n. pick (eqb n p) 0 n) e.parent; cpu = e.cpu; handles = e.handles; count = e.count }

-- in all places p is lost for a parent
pub follows_lost : (t : Tables) (p : ℕ) (ps : List Process) → ps ≡ map (without_parent p) t.processes → {f : Facts t.sizes t.turn t.used} → Follows t (with_places t ps f) (λ w. orphaned w p)
unfolding orphaned W.with_processes process opened
follows_lost t p ps e =
    let at : (q : ℕ) → get_or ps q blank ≡ without_parent p (place t q) = λ q. ap (λ (xs : List Process). get_or xs q blank) e ∙ lost_at p q t.processes in
    record {
      kept = record { sizes = refl; states = λ q. ap (λ (x : Process). x.state) (at q) };
      tabled = λ w h.
          record {
            places = length-map w.processes (W.without_parent p) ∙ h.places;
            each = λ q. rw (at q, orphan_at p q w.processes) (orphan_same t.sizes p _ _ (h.each q));
            ends = h.ends;
            opens = h.opens;
            turn = h.turn;
            used = h.used;
          };
    }

-- and p has left
pub follows_left : (t u : Tables) (p n : ℕ) → Follows t u (λ w. orphaned w p) → length u.processes ≡ 64 → p < t.sizes.processes → {f : Facts u.sizes u.turn u.used} →
    FollowsIn t (with_place u p (away (Left (n % 256)) (place t p).parent (place u p)) f) p (Left (n % 256)) (λ w. (leaves core w p n).world)
unfolding leaves is_running
follows_left t u p n o s l {f} =
    let k : p < u.sizes.processes = subst (λ (z : Sizes). p < z.processes) (sym o.kept.sizes) l in
    let v : Worlds → W.Process Cpu = λ w. record { state = Left (n % 256); parent = (process core w p).parent; cpu = core.fresh 0; memory = []; handles = [] } in
    record {
      sizes = o.kept.sizes;
      states = λ q.
          set_state u p _ q (omega (arith, s, k, u.in_range.processes.1)) ∙ ap (λ x. if eqb q p then Left (n % 256) else x) (o.kept.states q);
      tabled = λ w h.
          tabled_place u (orphaned w p) p _ (v w) f s (o.tabled w h) k (same_away _ _ (v w) refl (h.each p).parent refl (λ i. get_or_all 16 i None) refl);
    }

-- OPEN THINGS

-- one open thing changes
pub follows_thing : (t : Tables) (k : ℕ) (o : OpenThing) (u : Worlds → OpenThing) → length t.opens ≡ 256 → k < t.sizes.opens → ((w : Worlds) → Tabled t w → o ≡ u w) → {f : Facts t.sizes t.turn t.used} →
    Follows t (with_thing t k o f) (λ w. with_open w k (u w))
unfolding with_open opened process closed
follows_thing t k o u s l e =
    record {
      kept = record { sizes = refl; states = λ q. refl };
      tabled = λ w h.
          let a : k < length t.opens = omega (arith, s, t.in_range.opens.1) in
          let b : k < length w.opens = omega (arith, h.ends) in
          record {
            places = h.places;
            each = h.each;
            ends = length-set w.opens k (u w) ∙ h.ends;
            opens = λ i. ⊎_elim
                (λ (j : i ≡ k). rw (j, get_or-set_same t.opens k o shut a, get_or-set_same w.opens k (u w) shut b) (e w h))
                (λ n. rw (get_or-set_other t.opens k i o shut n, get_or-set_other w.opens k i (u w) shut n) (h.opens i))
                (cases_eq i k);
            turn = h.turn;
            used = h.used;
          };
    }

pub follows_moved : (t : Tables) (k n : ℕ) → length t.opens ≡ 256 → k < t.sizes.opens → {f : Facts t.sizes t.turn t.used} →
    Follows t (with_thing t k (record { end = (thing t k).end; at = (thing t k).at + n }) f) (λ w. moved w k n)
unfolding moved
follows_moved t k n s l = follows_thing t k _ _ s l (λ w h. ap (λ (o : OpenThing). record { end = o.end; at = o.at + n }) (h.opens k))

-- TURNS

tabled_turn : (t : Tables) (w : Worlds) (n m u v : ℕ) (f : Facts t.sizes n u) → Tabled t w → n ≡ m → u ≡ v → Tabled (with_turn t n u f) (W.with_turn w m v)
unfolding W.with_turn process opened
tabled_turn t w n m u v _ h e f = record { places = h.places; each = h.each; ends = h.ends; opens = h.opens; turn = e; used = f }

pub follows_passed : (t : Tables) (n : ℕ) {f : Facts t.sizes n 0} → n ≡ after_turn t.sizes.processes t.turn → Follows t (with_turn t n 0 f) (passes t.sizes)
unfolding passes
follows_passed t n {f} e =
    record {
      kept = record { sizes = refl; states = λ q. refl };
      tabled = λ w h. tabled_turn t w n _ 0 0 f h (e ∙ ap (after_turn t.sizes.processes) h.turn) refl;
    }

-- one instruction of the turn is over, and the turn is not
pub follows_spent : (t : Tables) {f : Facts t.sizes t.turn (t.used + 1)} → Follows t (with_turn t t.turn (t.used + 1) f) (spends t.sizes)
unfolding spends
follows_spent t {f} =
    record {
      kept = record { sizes = refl; states = λ q. refl };
      tabled = λ w h.
          let e : t.used + 1 ≡ suc w.used = omega (arith, h.used) in
          subst (Tabled _) (sym (pick_true _ _ _ (lt-ltb _ _ (omega (arith, h.used, f.2))))) (tabled_turn t w _ _ _ _ f h h.turn e);
    }

-- and it is
pub follows_over : (t u : Tables) → t.sizes.turn ≤ t.used + 1 → Follows t u (passes t.sizes) → Follows t u (spends t.sizes)
unfolding spends
follows_over t u l f =
    record { kept = f.kept; tabled = λ w h. subst (Tabled u) (sym (pick_false _ _ _ (le-ltb _ _ (omega (arith, h.used))))) (f.tabled w h) }
