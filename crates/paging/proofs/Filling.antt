-- A frame is written whole, or bytes within it: what processes see of it. Assumes nothing.
use Rattle.std.proofs.Common.{◌≡◌, ℕ, ◌+◌, ◌*◌, ◌/◌, ◌%◌, ◌<◌, ◌≤◌, List, length, get_or, sym, ◌∙◌, ⊎_elim, arith}
use Rattle.std.proofs.lemmas.Bool.{cases_order}
use Rattle.octets.specs.Words.{word_at}
use Rattle.paging.specs.declared.Paging.{Paging}
use Rattle.paging.specs.declared.Cache.{Cache}
use Rattle.paging.specs.Tables.{entry_of, frame_of, place, byte_of, Tops, Slot, frame_at}
use Rattle.paging.specs.Tables.Slot.{page}
use Rattle.paging.specs.Pages.{Byte, InUse, Sound, Remembers}
use Rattle.paging.specs.Changes.{Filled}
use Rattle.paging.specs.Frames.{ElseKept}
use Rattle.paging.proofs.Slotting.{slot_number, slot_at, slot_below}
use Rattle.paging.proofs.Moving.{in_slots, cache_kept}

-- the tables are the same in e as in f
abbrev pub TablesKept : List ℕ → List ℕ → Type 0
TablesKept f e = (k : ℕ) → k < 327680 → get_or e k 0 ≡ get_or f k 0

module _ (g : Paging) (f e : List ℕ) (s : Sound g f) (kept : TablesKept f e) where
  word_kept : (k : ℕ) → k + 4 ≤ 327680 → word_at e k ≡ word_at f k
  word_kept k l = rw (kept k (omega arith), kept (k + 1) (omega arith), kept (k + 2) (omega arith), kept (k + 3) (omega arith))

  pub tops_kept : Tops e
  unfolding entry_of
  tops_kept p j hp hj = word_kept (p * 64 + j * 4) (omega arith) ∙ s.tops p j hp hj

  -- a slot in use holds what it held
  pub slot_kept : (t : Slot) → InUse g t → frame_at e t ≡ frame_at f t
  slot_kept t u =
      let v = in_slots g f s t u in
      slot_at e tops_kept t v ∙ word_kept (4096 + slot_number t * 4) (omega (arith, slot_below t v)) ∙ sym (slot_at f s.tops t v)

  pub place_kept : (p a : ℕ) → Byte g p a → place e p a ≡ place f p a
  unfolding place
  place_kept p a u = rw (slot_kept (page p (a / 4096)) u)

  pub caches_kept : (q : ℕ) (c : Cache) → Remembers g f q c → Remembers g e q c
  caches_kept q c m = cache_kept g g f e q c (λ i u. (u.1, slot_kept (page q i) u)) m

  -- the tables are in order where they stay
  pub sound_kept : length e ≡ length f → Sound g e
  sound_kept l =
      record {
        rows = s.rows;
        few = s.few;
        low = s.low;
        long = omega (arith, s.long);
        tops = tops_kept;
        usable = λ t u. rw (slot_kept t u, l) (s.usable t u);
        apart = λ t v u w same. s.apart t v u w (sym (slot_kept t u) ∙ same ∙ slot_kept v w);
      }

-- where bytes lie
module _ (g : Paging) (f : List ℕ) (s : Sound g f) where
  pub place_above : (p a : ℕ) → Byte g p a → 327680 ≤ place f p a
  unfolding place
  place_above p a u = omega (arith, (s.usable (page p (a / 4096)) u).0)

  -- the page of a byte lies within the lent memory
  pub place_within : (p a : ℕ) → Byte g p a → place f p a + 4096 ≤ length f + a % 4096
  unfolding place
  place_within p a u = omega (arith, (s.usable (page p (a / 4096)) u).1)

  -- two bytes never lie in the same place
  pub place_apart : (p q a x : ℕ) → Byte g p a → Byte g q x → place f p a ≡ place f q x → (p ≡ q) × (a ≡ x)
  unfolding place
  place_apart p q a x u v e =
      let h : frame_of f p (a / 4096) ≡ frame_of f q (x / 4096) = omega arith in
      let same = s.apart (page p (a / 4096)) (page q (x / 4096)) u v h in
      let k : p ≡ q = cc in
      let l : a / 4096 ≡ x / 4096 = cc in
      (k, omega arith)

-- one frame is written: all that lies elsewhere is kept
module _ (g : Paging) (f e : List ℕ) (p i n : ℕ) (v : ℕ → ℕ) (s : Sound g f) (u : InUse g (page p i)) (is : n ≡ frame_of f p i) (long : length e ≡ length f)
    (rest : ElseKept (n * 4096) (n * 4096 + 4096) f e) where
  kept_frame : TablesKept f e
  kept_frame k l = rest.low k (omega (arith, (s.usable (page p i) u).0))

  pub sound_frame : Sound g e
  sound_frame = sound_kept g f e s kept_frame long

  in_frame : (a : ℕ) → a / 4096 ≡ i → get_or e (n * 4096 + a % 4096) 0 ≡ v a → byte_of e p a ≡ v a
  unfolding byte_of place
  in_frame a d h = rw (d, slot_kept g f e s kept_frame (page p i) u, ← is) h

  out_of_frame : (q a : ℕ) → Byte g q a → ((q ≡ p) × (a / 4096 ≡ i) → ⊥) → byte_of e q a ≡ byte_of f q a
  unfolding byte_of place
  out_of_frame q a t ne =
      rw (place_kept g f e s kept_frame q a t)
      (⊎_elim (λ (d : frame_of f q (a / 4096) ≡ frame_of f p i). let same = s.apart (page q (a / 4096)) (page p i) t u d in absurd (ne ((cc), (cc))))
      (λ o. ⊎_elim
      (λ (l : frame_of f q (a / 4096) < frame_of f p i). rest.low _ (omega arith))
      (λ (l : frame_of f p i < frame_of f q (a / 4096)). rest.high _ (omega arith)) o)
      (cases_order (frame_of f q (a / 4096)) (frame_of f p i)))

  pub frame_filled : ((a : ℕ) → a / 4096 ≡ i → get_or e (n * 4096 + a % 4096) 0 ≡ v a) → Filled g f e p i v
  frame_filled here =
      record {
        here = λ a d. in_frame a d (here a d);
        same = λ a ne t. out_of_frame p a t (λ b. ne b.1);
        others = record { bytes = λ q a ne t. out_of_frame q a t (λ b. ne b.0); caches = λ q c ne m. caches_kept g f e s kept_frame q c m };
        caches = caches_kept g f e s kept_frame;
      }
