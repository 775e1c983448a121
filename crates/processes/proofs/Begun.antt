-- The tables at the start. Assumes nothing.
use Rattle.std.proofs.Common.{◌≡◌, ℕ, zero, suc, ◌-◌, ◌<◌, List, ◌∷◌, get_or, set, replicate, Some, None, Option, sym, refl, ap, ◌∙◌, arith}
use Rattle.std.proofs.lemmas.List.{length-replicate, get_or-set_same, get_or-set_other}
use Rattle.std.proofs.lemmas.Bool.{both_ways}
use Rattle.octets.proofs.Tests.{get_or_all}
use Rattle.turns.specs.Ranges.{InRange}
use Rattle.turns.specs.World.{process, nobody, opened, closed, is_running, begin, loaded}
use Rattle.turns.specs.World as W
use Rattle.turns.specs.declared.vocabulary.Sizes.{Sizes}
use Rattle.turns.specs.declared.vocabulary.State.TheVariants.{Free}
use Rattle.turns.specs.declared.vocabulary.End.TheVariants.{Screen}
use Rattle.turns.specs.declared.vocabulary.OpenThing.{OpenThing}
use Rattle.rv32.specs.declared.cpu.Cpu.{Cpu}
use Rattle.rv32.specs.Act.{core}
use Rattle.processes.specs.declared.Process.{Process}
use Rattle.processes.specs.declared.Tables.{Tables}
use Rattle.processes.specs.Tabled.{Tabled, Same, blank, shut}
use Rattle.processes.specs.Changes.{empty, first}

-- what holds of an element of a row of equals, and past it
either : {X : Type 0} (P : X → Type 0) (n k : ℕ) (x d : X) → P x → P d → P (get_or (replicate n x) k d)
either P zero k x d a b = b
either P (suc n) zero x d a b = a
either P (suc n) (suc k) x d a b = either P n k x d a b

nobody_in : (z : Sizes) (q : Process) → q.state ≡ Free → q.parent ≡ 0 → ((k : ℕ) → get_or q.handles k None ≡ None) → Same z q (nobody core)
unfolding nobody is_running
nobody_in z q s p n =
    record {
      state = s;
      parent = p;
      cpu = λ e. absurd (both_ways (is_running q.state) (ap is_running s) e);
      handles = n;
      count = λ e. absurd (both_ways (is_running q.state) (ap is_running s) e);
    }

place_at : (z : Sizes) (q : Process) (v : W.Process Cpu) (n p : ℕ) → Same z q v → Same z (get_or (set (replicate 64 empty) 0 q) p blank) (get_or (v ∷ replicate n (nobody core)) p (nobody core))
place_at z q v n zero e = rw (get_or-set_same (replicate 64 empty) 0 q blank (omega (arith, length-replicate 64 empty))) e
place_at z q v n (suc p) e =
    rw (get_or-set_other (replicate 64 empty) 0 (suc p) q blank (λ x. omega arith), get_or_all n p (nobody core))
    (either (λ x. Same z x (nobody core)) 64 (suc p) empty blank (nobody_in z empty refl refl (λ k. get_or_all 16 k None)) (nobody_in z blank refl refl (λ k. refl)))

thing_at : (o : OpenThing) (n k : ℕ) → get_or (set (replicate 256 shut) 0 o) k shut ≡ get_or (o ∷ replicate n shut) k shut
thing_at o n zero = get_or-set_same (replicate 256 shut) 0 o shut (omega (arith, length-replicate 256 shut))
thing_at o n (suc k) = get_or-set_other (replicate 256 shut) 0 (suc k) o shut (λ x. omega arith) ∙ get_or_all 256 (suc k) shut ∙ sym (get_or_all n k shut)

handle_at : (n k : ℕ) → get_or (first 0).handles k None ≡ get_or (Some 0 ∷ Some 0 ∷ Some 0 ∷ replicate n None) k None
handle_at n zero = refl
handle_at n (suc zero) = refl
handle_at n (suc (suc zero)) = refl
handle_at n (suc (suc (suc k))) = get_or_all 13 k None ∙ sym (get_or_all n k None)

-- the first process in place 0, and open thing 0 on screen 0
abbrev started : (z : Sizes) → Process → InRange z → 0 < z.processes → 0 < z.turn → Tables
started z q r a b =
    record {
      sizes = z;
      processes = set (replicate 64 empty) 0 q;
      opens = set (replicate 256 shut) 0 (record { end = Screen 0; at = 0 });
      turn = 0;
      used = 0;
      in_range = r;
      turn_there = a;
      used_within = b;
    }

pub tabled_started : (z : Sizes) (files : List (List ℕ)) (r : InRange z) {a : 0 < z.processes} {b : 0 < z.turn} → Tabled (started z (first z.memory) r a b) (begin core z files)
unfolding begin process opened closed
tabled_started z files r {a} {b} =
    record {
      places = omega (arith, length-replicate (z.processes - 1) (nobody core), r.processes.0);
      each = λ p. place_at z (first z.memory) _ (z.processes - 1) p
          (record {
            state = refl;
            parent = refl;
            cpu = λ _. refl;
            handles = handle_at (z.handles - 3);
            count = λ _. omega (arith, length-replicate {A = Option ℕ} (z.handles - 3) None, r.handles.0);
          });
      ends = omega (arith, length-replicate (z.opens - 1) shut, r.opens.0);
      opens = thing_at _ (z.opens - 1);
      turn = refl;
      used = refl;
    }
