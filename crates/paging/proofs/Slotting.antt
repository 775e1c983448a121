-- What a number written into a slot leaves. Each slot has four bytes of its own: slot n lies at byte 4,096 + 4 * n.
use Rattle.std.proofs.Common.{◌≡◌, ℕ, ◌+◌, ◌*◌, ◌/◌, ◌%◌, ◌^◌, ◌<◌, ◌≤◌, ◌⊎◌, List, length, sym, ap, ◌∙◌, inl, inr, ⊎_elim, arith}
use Rattle.std.proofs.lemmas.Bool.{cases_order}
use Rattle.octets.specs.Rows.{over}
use Rattle.octets.specs.Words.{word_at, word_bytes}
use Rattle.octets.proofs.Over.{get_or_over_out}
use Rattle.octets.proofs.Numbers.{word_over, word_over_out}
use Rattle.paging.specs.Tables.{entry_of, frame_of, free_at, Tops, Slot, frame_at, SlotThere, Slotted}
use Rattle.paging.specs.Tables.Slot.{page, free}

-- the number of a slot
abbrev pub slot_number : Slot → ℕ
slot_number (page p i) = p * 256 + i
slot_number (free k) = 16384 + k

-- different slots have different numbers
apart : (s t : Slot) → SlotThere s → SlotThere t → slot_number s ≡ slot_number t → s ≡ t
apart (page p i) (page q j) u v e =
    let a : p ≡ q = omega (arith, u.1, v.1) in
    let b : i ≡ j = omega (arith, u.1, v.1) in
    rw (a, b)
apart (page p i) (free k) u v e = absurd (omega (arith, u.0, u.1))
apart (free k) (page q j) u v e = absurd (omega (arith, v.0, v.1))
apart (free k) (free j) u v e = let a : k ≡ j = omega arith in rw a

-- the frame in a slot is the number in its four bytes
pub slot_at : (f : List ℕ) → Tops f → (s : Slot) → SlotThere s → frame_at f s ≡ word_at f (4096 + slot_number s * 4)
unfolding frame_of entry_of free_at
slot_at f tops (page p i) u =
    let e : (64 + p * 16 + i / 16) * 64 + i % 16 * 4 ≡ 4096 + (p * 256 + i) * 4 = omega arith in
    ap (λ t. word_at f (t * 64 + i % 16 * 4)) (tops p (i / 16) u.0 (omega (arith, u.1))) ∙ ap (word_at f) e
slot_at f tops (free k) u = ap (word_at f) (omega arith)

-- there is room for each slot below frame 80
pub slot_below : (s : Slot) → SlotThere s → slot_number s < 32768
slot_below (page p i) u = omega (arith, u.0, u.1)
slot_below (free k) u = omega arith

module _ (f : List ℕ) (s : Slot) (n at : ℕ) (is : at ≡ 4096 + slot_number s * 4) (tops : Tops f) (u : SlotThere s) (small : n < 2 ^ 32) (long : 327680 ≤ length f) where
  word_else : (k : ℕ) → (k + 4 ≤ at) ⊎ (at + 4 ≤ k) → word_at (over f at (word_bytes n)) k ≡ word_at f k
  word_else k h = word_over_out f at (word_bytes n) k (omega (arith, slot_below s u)) h

  tops_kept : Tops (over f at (word_bytes n))
  unfolding entry_of
  tops_kept p j hp hj = word_else (p * 64 + j * 4) (inl (omega arith)) ∙ tops p j hp hj

  same_kept : (t : Slot) → SlotThere t → (t ≡ s → ⊥) → frame_at (over f at (word_bytes n)) t ≡ frame_at f t
  same_kept t v ne =
      slot_at _ tops_kept t v
      ∙ word_else (4096 + slot_number t * 4) (⊎_elim (λ (e : slot_number t ≡ slot_number s). absurd (ne (apart t s v u e))) (λ o. ⊎_elim (λ (l : slot_number t < slot_number s). inl (omega arith)) (λ (l : slot_number s < slot_number t). inr (omega arith)) o) (cases_order (slot_number t) (slot_number s)))
      ∙ sym (slot_at f tops t v)

  pub slotted : Slotted f (over f at (word_bytes n)) s n
  slotted =
      record {
        tops = tops_kept;
        here = slot_at _ tops_kept s u ∙ rw (← is) (word_over f at n small);
        same = same_kept;
        above = λ x l. get_or_over_out f at (word_bytes n) x 0 (omega (arith, slot_below s u)) (inr (omega (arith, slot_below s u)));
      }
