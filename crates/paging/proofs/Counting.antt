-- There are as many free frames as processes lack pages. Assumes nothing.
use Rattle.std.proofs.Common.{◌≡◌, ℕ, zero, suc, ◌+◌, ◌-◌, ◌*◌, ◌/◌, ◌<◌, ◌≤◌, ◌≢◌, List, length, get_or, set, sym, refl, ⊎_elim, mul-le-mul, arith, get_or-set_other, get_or-set_same}
use Rattle.std.proofs.lemmas.Bool.{cases_eq}
use Rattle.turns.specs.declared.vocabulary.Sizes.{Sizes}
use Rattle.paging.specs.declared.Paging.{Paging}
use Rattle.paging.specs.Pages.{held, lacking, Enough, with_pages}

-- where no process has a page, all lack all
pub lacking_all : (m n : ℕ) (hs : List ℕ) → ((k : ℕ) → get_or hs k 0 ≡ 0) → lacking m n hs ≡ n * m
unfolding lacking
lacking_all m zero hs h = omega arith
lacking_all m (suc n) hs h = omega (arith, h n, lacking_all m n hs h)

-- a process lacks no more than all lack
pub lacking_one : (m n : ℕ) (hs : List ℕ) (p : ℕ) → p < n → m - get_or hs p 0 ≤ lacking m n hs
unfolding lacking
lacking_one m zero hs p h = absurd (omega arith)
lacking_one m (suc n) hs p h = ⊎_elim (λ (e : p ≡ n). rw e (omega arith)) (λ (ne : p ≢ n). omega (arith, lacking_one m n hs p (omega arith))) (cases_eq p n)

pub lacking_le : (m n : ℕ) (hs : List ℕ) → lacking m n hs ≤ n * m
unfolding lacking
lacking_le m zero hs = omega arith
lacking_le m (suc n) hs = omega (arith, lacking_le m n hs)

-- a process past the first n does not count
lacking_past : (m n : ℕ) (hs : List ℕ) (p v : ℕ) → n ≤ p → lacking m n (set hs p v) ≡ lacking m n hs
unfolding lacking
lacking_past m zero hs p v h = refl
lacking_past m (suc n) hs p v h = let ne : n ≢ p = omega arith in rw (get_or-set_other hs p n v 0 ne, lacking_past m n hs p v (omega arith))

-- what one process has more, all lack less
pub lacking_set : (m n : ℕ) (hs : List ℕ) (p v : ℕ) → p < n → p < length hs → v ≤ m → get_or hs p 0 ≤ m → lacking m n (set hs p v) + v ≡ lacking m n hs + get_or hs p 0
unfolding lacking
lacking_set m zero hs p v h l b d = absurd (omega arith)
lacking_set m (suc n) hs p v h l b d =
    ⊎_elim (λ (e : p ≡ n). rw (← e, get_or-set_same hs p v 0 l, lacking_past m p hs p v (omega arith)) (omega arith))
    (λ (ne : p ≢ n). let o : n ≢ p = λ e. ne (sym e) in rw (get_or-set_other hs p n v 0 o) (omega (arith, lacking_set m n hs p v (omega arith) l b d))) (cases_eq p n)

module _ (z : Sizes) (g : Paging) (u : Enough z g) (rows : length g.pages ≡ 64) (p : ℕ) (h : p < z.processes) where
  -- a process without pages finds them
  pub enough_free : z.memory / 4096 ≤ g.free + held g p
  enough_free = omega (arith, u.free, lacking_one (z.memory / 4096) z.processes g.pages p h)

  -- the equation lasts where a process gets its pages, or gives them back
  pub enough_with : (n : ℕ) → n ≤ z.memory / 4096 → held g p ≤ z.memory / 4096 → Enough z (with_pages g p n)
  enough_with n l d =
      record {
        processes = u.processes;
        small = u.small;
        whole = u.whole;
        free = omega (arith, u.free, lacking_set (z.memory / 4096) z.processes g.pages p n h (omega (arith, u.processes)) l d);
      }

  -- the stack never grows past its room
  pub enough_low : held g p ≤ z.memory / 4096 → g.free + held g p ≤ 16384
  enough_low d =
      omega (
        arith,
        u.free,
        lacking_set (z.memory / 4096) z.processes g.pages p 0 h (omega (arith, u.processes)) (omega arith) d,
        lacking_le (z.memory / 4096) z.processes (set g.pages p 0),
        mul-le-mul {n₁ = z.processes} {m₁ = z.memory / 4096} {n₂ = 64} {m₂ = 256} u.processes (omega (arith, u.small)),
      )
