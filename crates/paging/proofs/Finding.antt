-- A remembered page leads to the place of a byte. Assumes nothing.
use Rattle.std.proofs.Common.{◌≡◌, ℕ, ◌+◌, ◌*◌, ◌/◌, ◌%◌, ◌^◌, ◌<◌, Bool, true, false, cond, List, Some, None, Option, sym, refl, ap, ◌∙◌, arith}
use Rattle.std.proofs.lemmas.Bool.{lt-ltb, ltb-true}
use Rattle.paging.specs.declared.Paging.{Paging}
use Rattle.paging.specs.declared.Cache.{Cache}
use Rattle.paging.specs.Tables.{frame_of, place}
use Rattle.paging.specs.Pages.{held, Byte, Sound, Remembers}
use Rattle.paging.specs.Accesses.{has, if_has, Within}
use Rattle.paging.proofs.Filling.{place_above, place_within}

-- the page of address a is remembered
pub record Located (g : Paging) (f : List ℕ) (p a : ℕ) (c : Cache) : Type 0 where
  pub byte : Byte g p a
  pub page_is : c.page ≡ a / 4096
  pub base_is : c.base ≡ frame_of f p (a / 4096) * 4096

pub located_new : (g : Paging) (f : List ℕ) (p a n : ℕ) (c : Cache) → Byte g p a → c ≡ record { page = a / 4096; base = n * 4096 } → n ≡ frame_of f p (a / 4096) → Located g f p a c
located_new g f p a n c u e h = record { byte = u; page_is = ap (λ x. x.page) e; base_is = ap (λ x. x.base) e ∙ ap (λ x. x * 4096) h }

pub located_old : (g : Paging) (f : List ℕ) (p a : ℕ) (c d : Cache) → a < 2 ^ 32 → c ≡ d → a / 4096 ≡ d.page → Remembers g f p d → Located g f p a c
located_old g f p a c d small e h m =
    let b = m (omega arith) in
    record { byte = (b.0, rw (← h) at b.1); page_is = ap (λ x. x.page) e ∙ sym h; base_is = ap (λ x. x.base) e ∙ (rw (← h) at b.2) }

module _ (g : Paging) (f : List ℕ) (s : Sound g f) (p a : ℕ) (c : Cache) (l : Located g f p a c) where
  pub located_value : Some (c.base + a % 4096) ≡ if_has g p a (place f p a)
  unfolding place
  located_value = rw (lt-ltb (a / 4096) (held g p) l.byte.1, l.base_is)

  pub located_holds : Remembers g f p c
  located_holds _ = rw l.page_is (l.byte.0, l.byte.1, l.base_is)

  pub located_within : Within f a (Some (c.base + a % 4096))
  unfolding place
  located_within = (omega (arith, place_above g f s p a l.byte, l.base_is), omega (arith, place_within g f s p a l.byte, l.base_is))

-- what find answers, read the other way
pub found_some : (g : Paging) (p a v x : ℕ) → Some x ≡ if_has g p a v → (a / 4096 < held g p) × (x ≡ v)
found_some g p a v x e = go (has g p a) refl e
  where
    go : (b : Bool) → has g p a ≡ b → Some x ≡ cond b (Some v) None → (a / 4096 < held g p) × (x ≡ v)
    go true t h = (ltb-true _ _ t, cc)
    go false t h = let o : ◌≡◌ {A = ℕ} 0 1 = cc in absurd (omega arith)

-- the same after a `?`
pub found_by : (g : Paging) (p a v x : ℕ) (o : Option ℕ) → o ≡ Some x → o ≡ if_has g p a v → (a / 4096 < held g p) × (x ≡ v)
found_by g p a v x o e h = found_some g p a v x (sym e ∙ h)

pub found_none : (g : Paging) (p a v : ℕ) → None ≡ if_has g p a v → has g p a ≡ false
found_none g p a v e = go (has g p a) refl e
  where
    go : (b : Bool) → has g p a ≡ b → None ≡ cond b (Some v) None → has g p a ≡ false
    go true t h = let o : ◌≡◌ {A = ℕ} 0 1 = cc in absurd (omega arith)
    go false t h = t

-- a value at the place that find answers is the value at the address
pub loaded_some : {X : Type 0} (g : Paging) (p a : ℕ) (v w : X) → a / 4096 < held g p → v ≡ w → Some v ≡ if_has g p a w
loaded_some g p a v w h e = rw (lt-ltb (a / 4096) (held g p) h, e)
