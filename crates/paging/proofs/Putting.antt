-- Bytes are put into one page, or into several, one after the other. Assumes nothing.
use Rattle.std.proofs.Common.{◌≡◌, ℕ, ◌+◌, ◌-◌, ◌*◌, ◌/◌, ◌%◌, ◌<◌, ◌≤◌, List, length, get_or, take, drop, sym, refl, ap, ◌∙◌, inl, inr, ⊎_elim, arith}
use Rattle.std.proofs.lemmas.List.{length-take-le, length-drop, get_or-take, get_or-drop}
use Rattle.std.proofs.lemmas.Bool.{cases_lt}
use Rattle.octets.specs.Rows.{over}
use Rattle.octets.specs.Words.{NumberLaws}
use Rattle.std.specs.Prelude.{slice_index}
use Rattle.octets.proofs.Over.{length_over, get_or_over_in, get_or_over_out}
use Rattle.paging.specs.declared.Paging.{Paging}
use Rattle.paging.specs.Tables.{place, byte_of}
use Rattle.paging.specs.Pages.{held, Byte, Sound}
use Rattle.paging.specs.Changes.{Only, Put, Stored}
use Rattle.paging.specs.Frames.{ElseKept}
use Rattle.octets.proofs.Numbers.{aligned_in_page}
use Rattle.paging.proofs.Filling.{TablesKept, place_kept, caches_kept, sound_kept, place_above, place_within, place_apart}

-- bytes of one page lie side by side
pub place_next : (f : List ℕ) (p a k : ℕ) → a % 4096 + k < 4096 → place f p (a + k) ≡ place f p a + k
unfolding place
place_next f p a k h =
    let e : (a + k) / 4096 ≡ a / 4096 = omega arith in
    let d : (a + k) % 4096 ≡ a % 4096 + k = omega arith in
    rw (e, d) (omega arith)

pub byte_next : (f : List ℕ) (p a k : ℕ) → a % 4096 + k < 4096 → get_or f (place f p a + k) 0 ≡ byte_of f p (a + k)
unfolding byte_of
byte_next f p a k h = ap (λ x. get_or f x 0) (sym (place_next f p a k h))

pub byte_here : (f : List ℕ) (p a : ℕ) → get_or f (place f p a) 0 ≡ byte_of f p a
unfolding byte_of
byte_here f p a = refl

-- so a number all whose bytes lie in one page is the one that the process's bytes are
pub number_within : {N : Type 0} {size : ℕ} {from : (ℕ → ℕ) → ℕ → N} {bytes : N → List ℕ} → NumberLaws size from bytes → (f : List ℕ) (p a : ℕ) → a % 4096 + size ≤ 4096 → from (slice_index f) (place f p a) ≡ from (byte_of f p) a
number_within laws f p a page = laws.same (slice_index f) (byte_of f p) (place f p a) a (λ k h. byte_next f p a k (omega arith))

-- and so is one that stands at a multiple of its size
pub number_here : {N : Type 0} {size : ℕ} {from : (ℕ → ℕ) → ℕ → N} {bytes : N → List ℕ} → NumberLaws size from bytes → (f : List ℕ) (p a : ℕ) → a % size ≡ 0 → from (slice_index f) (place f p a) ≡ from (byte_of f p) a
number_here {size = size} laws f p a aligned =
    laws.same (slice_index f) (byte_of f p) (place f p a) a (λ k h. byte_next f p a k (aligned_in_page size a k laws.few laws.pages aligned h))

-- a part of a page, m bytes from place x on, is the bytes from address a on
module _ (f : List ℕ) (p a x m : ℕ) (is : x ≡ place f p a) (page : a % 4096 + m ≤ 4096) (within : x + 4096 ≤ length f + a % 4096) where
  pub run_long : length (take (x + m - x) (drop x f)) ≡ m
  run_long = let e : x + m - x ≡ m = omega arith in rw e (length-take-le m (drop x f) (omega (arith, length-drop x f)))

  pub run_byte : (k : ℕ) → k < length (take (x + m - x) (drop x f)) → get_or (take (x + m - x) (drop x f)) k 0 ≡ byte_of f p (a + k)
  run_byte k h = get_or-take (x + m - x) (drop x f) k 0 (omega (arith, run_long)) ∙ get_or-drop x f k 0 ∙ rw is (byte_next f p a k (omega (arith, run_long)))

-- n bytes of one page are written: all that lies elsewhere is kept
module _ (g : Paging) (f e : List ℕ) (s : Sound g f) (p a n : ℕ) (v : ℕ → ℕ) (u : Byte g p a) (page : a % 4096 + n ≤ 4096) (long : length e ≡ length f)
    (here : (k : ℕ) → k < n → get_or e (place f p a + k) 0 ≡ v k) (rest : ElseKept (place f p a) (place f p a + n) f e) where
  kept : TablesKept f e
  kept k l = rest.low k (omega (arith, place_above g f s p a u))

  byte : (k : ℕ) → k < n → Byte g p (a + k)
  byte k l = (u.0, omega (arith, u.1))

  out : (q x : ℕ) → Byte g q x → ((k : ℕ) → k < n → (q ≡ p) × (x ≡ a + k) → ⊥) → byte_of e q x ≡ byte_of f q x
  unfolding byte_of
  out q x t ne =
      rw (place_kept g f e s kept q x t)
      (⊎_elim (λ (l : place f q x < place f p a). rest.low _ l)
      (λ (h : place f p a ≤ place f q x). ⊎_elim
      (λ (l : place f q x < place f p a + n).
      let k = place f q x - place f p a in
      let less : k < n = omega arith in
      let same : place f q x ≡ place f p (a + k) = (let o : place f q x ≡ place f p a + k = omega arith in o ∙ sym (place_next f p a k (omega arith))) in
      absurd (ne k less (place_apart g f s q p x (a + k) t (byte k less) same)))
      (λ (l : place f p a + n ≤ place f q x). rest.high _ l) (cases_lt (place f q x) (place f p a + n)))
      (cases_lt (place f q x) (place f p a)))

  in_page : (k : ℕ) → k < n → byte_of e p (a + k) ≡ v k
  unfolding byte_of
  in_page k l = rw (place_kept g f e s kept p (a + k) (byte k l), place_next f p a k (omega arith)) (here k l)

  pub put_page : Put g f e p a n v
  put_page =
      record {
        here = in_page;
        same = λ x t o. out p x t (λ k l b. ⊎_elim (λ (h : x < a). omega (arith, b.1)) (λ (h : a + n ≤ x). omega (arith, b.1)) o);
        only = record { sound = sound_kept g f e s kept long; others = λ q x ne t. out q x t (λ k l b. ne b.0); caches = caches_kept g f e s kept };
      }

pub stored_over : (g : Paging) (f : List ℕ) (s : Sound g f) (p a : ℕ) (ys : List ℕ) → Byte g p a → a % 4096 + length ys ≤ 4096 → Stored g f (over f (place f p a) ys) p a ys
stored_over g f s p a ys u page =
    let w = place_within g f s p a u in
    put_page g f _ s p a (length ys) _ u page (length_over f (place f p a) ys (omega arith)) (λ k l. get_or_over_in f (place f p a) ys k 0 l)
    (record { low = λ k l. get_or_over_out f (place f p a) ys k 0 (omega arith) (inl l); high = λ k l. get_or_over_out f (place f p a) ys k 0 (omega arith) (inr l) })

-- a number is put at a multiple of its size
pub number_stored : {N : Type 0} {size : ℕ} {from : (ℕ → ℕ) → ℕ → N} {bytes : N → List ℕ} → NumberLaws size from bytes → (g : Paging) (f e : List ℕ) (s : Sound g f) (p a x : ℕ) (v : N) → Byte g p a → a % size ≡ 0
    → x ≡ place f p a → e ≡ over f x (bytes v) → Stored g f e p a (bytes v)
number_stored {size = size} {bytes = bytes} laws g f e s p a x v u aligned is row =
    rw (row, is) (stored_over g f s p a (bytes v) u (omega (arith, laws.some, laws.long v, aligned_in_page size a (size - 1) laws.few laws.pages aligned (omega (arith, laws.some)))))

-- nothing changed, or one change and then another
pub only_none : (p : ℕ) (g : Paging) (f : List ℕ) → Sound g f → Only p g f f
only_none p g f s = record { sound = s; others = λ q x ne t. refl; caches = λ q c m. m }

pub only_then : (p : ℕ) (g : Paging) (f e d : List ℕ) → Only p g f e → Only p g e d → Only p g f d
only_then p g f e d x y = record { sound = y.sound; others = λ q z ne t. y.others q z ne t ∙ x.others q z ne t; caches = λ q c m. y.caches q c (x.caches q c m) }

-- some bytes, and then those behind them
pub put_more : (g : Paging) (f e d : List ℕ) (p a k n : ℕ) (v w : ℕ → ℕ) → p < 64 → a + k ≤ held g p * 4096 → Put g f e p a k v → Put g e d p (a + k) n w → ((j : ℕ) → j < n → w j ≡ v (k + j))
    → Put g f d p a (k + n) v
put_more g f e d p a k n v w hp within x y alike =
    record {
      here = λ j l. ⊎_elim (λ (h : j < k). y.same (a + j) (hp, omega arith) (inl (omega arith)) ∙ x.here j h)
          (λ (h : k ≤ j). let o : a + k + (j - k) ≡ a + j = omega arith in let r : k + (j - k) ≡ j = omega arith in rw (o, r) at (y.here (j - k) (omega arith) ∙ alike (j - k) (omega arith))) (cases_lt j k);
      same = λ z t o. ⊎_elim (λ (h : z < a). y.same z t (inl (omega arith)) ∙ x.same z t (inl h)) (λ (h : a + (k + n) ≤ z). y.same z t (inr (omega arith)) ∙ x.same z t (inr (omega arith))) o;
      only = only_then p g f e d x.only y.only;
    }
