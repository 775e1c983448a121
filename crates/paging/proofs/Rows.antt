-- What the contracts say of bytes, said of rows: for callers to whom a process's memory is a list. Assumes nothing.
use Rattle.std.proofs.Common.{◌≡◌, ℕ, ◌+◌, ◌-◌, ◌*◌, ◌<◌, ◌≤◌, ◌≢◌, List, length, get_or, take, drop, replicate, sym, ap, ◌∙◌, inl, inr, ⊎_elim, arith}
use Rattle.std.proofs.lemmas.List.{ext_get_or, length-replicate, length-drop, length-take-le, get_or-take, get_or-drop}
use Rattle.std.proofs.lemmas.Bool.{cases_lt}
use Rattle.octets.specs.Rows.{over}
use Rattle.octets.specs.Words.{NumberLaws}
use Rattle.std.specs.Prelude.{slice_index}
use Rattle.octets.proofs.Over.{length_over, get_or_over_in, get_or_over_out}
use Rattle.octets.proofs.Tests.{get_or_all}
use Rattle.paging.specs.declared.Paging.{Paging}
use Rattle.paging.specs.Tables.{byte_of}
use Rattle.paging.specs.Pages.{held, Byte, Sound}
use Rattle.paging.specs.Changes.{Others, Begun, Ended, Stored}
use Rattle.paging.specs.Rows.{Shows}
use Rattle.paging.proofs.Moving.{held_same, held_other}

-- how many pages processes have, after one begins or ends
module _ (g h : Paging) (f e : List ℕ) (p n : ℕ) (s : Sound g f) where
  pub begun_held : (v : ℕ → ℕ) → p < 64 → Begun g f h e p n v → held h p ≡ n
  begun_held v l b = held_same g h p n (ap (λ x. x.pages) b.state) s.rows l

  pub begun_other : (v : ℕ → ℕ) → Begun g f h e p n v → (q : ℕ) → q ≢ p → held h q ≡ held g q
  begun_other v b q ne = held_other g h p n q (ap (λ x. x.pages) b.state) ne

  pub ended_held : p < 64 → Ended g f h e p n → held h p ≡ n
  ended_held l b = held_same g h p n (ap (λ x. x.pages) b.state) s.rows l

  pub ended_other : Ended g f h e p n → (q : ℕ) → q ≢ p → held h q ≡ held g q
  ended_other b q ne = held_other g h p n q (ap (λ x. x.pages) b.state) ne

module _ (g : Paging) (f : List ℕ) (p : ℕ) (m : List ℕ) (see : Shows g f p m) where
  pub shows_byte : (a : ℕ) → a < length m → Byte g p a
  shows_byte a l = (see.process, omega (arith, see.long))

  -- numbers are read as in the row
  pub shows_number : {N : Type 0} {size : ℕ} {from : (ℕ → ℕ) → ℕ → N} {bytes : N → List ℕ} → NumberLaws size from bytes → (a : ℕ) → a + size ≤ length m → from (byte_of f p) a ≡ from (slice_index m) a
  shows_number laws a l = laws.same (byte_of f p) (slice_index m) a a (λ k h. see.each (a + k) (omega arith))

  -- bytes that are lent or copied out are a part of the row
  pub shows_part : (a : ℕ) (bs : List ℕ) → a + length bs ≤ length m → ((k : ℕ) → k < length bs → get_or bs k 0 ≡ byte_of f p (a + k)) → bs ≡ take (length bs) (drop a m)
  shows_part a bs l h =
      ext_get_or 0 bs (take (length bs) (drop a m)) (sym (length-take-le (length bs) (drop a m) (omega (arith, length-drop a m))))
      (λ k n. h k n ∙ see.each (a + k) (omega arith) ∙ sym (get_or-drop a m k 0) ∙ sym (get_or-take (length bs) (drop a m) k 0 n))

  -- bytes that are stored are put over the row
  pub shows_stored : (e : List ℕ) (a : ℕ) (ys : List ℕ) → a + length ys ≤ length m → Stored g f e p a ys → Shows g e p (over m a ys)
  shows_stored e a ys l w =
      record {
        process = see.process;
        long = length_over m a ys l ∙ see.long;
        each = λ x h. let n : x < length m = omega (arith, length_over m a ys l) in
            ⊎_elim (λ (b : x < a). w.same x (shows_byte x n) (inl b) ∙ see.each x n ∙ sym (get_or_over_out m a ys x 0 (omega arith) (inl b)))
            (λ (b : a ≤ x). ⊎_elim
            (λ (d : x < a + length ys). let o : a + (x - a) ≡ x = omega arith in rw o at (w.here (x - a) (omega arith) ∙ sym (get_or_over_in m a ys (x - a) 0 (omega arith))))
            (λ (d : a + length ys ≤ x). w.same x (shows_byte x n) (inr d) ∙ see.each x n ∙ sym (get_or_over_out m a ys x 0 (omega arith) (inr d))) (cases_lt x (a + length ys)))
            (cases_lt x a);
      }

  -- what another process stores is not seen
  pub shows_apart : (e : List ℕ) (q a : ℕ) (ys : List ℕ) → p ≢ q → Stored g f e q a ys → Shows g e p m
  shows_apart e q a ys ne w = record { process = see.process; long = see.long; each = λ x h. w.only.others p x ne (shows_byte x h) ∙ see.each x h }

  -- nor that another begins or ends
  pub shows_others : (h : Paging) (e : List ℕ) (q : ℕ) → p ≢ q → held h p ≡ held g p → Others q g f h e → Shows h e p m
  shows_others h e q ne same o = record { process = see.process; long = see.long ∙ ap (λ n. n * 4096) (sym same); each = λ x l. o.bytes p x ne (shows_byte x l) ∙ see.each x l }

  -- a copy shows the same
  pub shows_copy : (h : Paging) (e : List ℕ) (q n : ℕ) → Sound g f → q < 64 → held g p ≡ n → Begun g f h e q n (byte_of f p) → Shows h e q m
  shows_copy h e q n s l same b =
      record { process = l; long = see.long ∙ ap (λ n. n * 4096) (same ∙ sym (begun_held g h f e q n s _ l b)); each = λ x k. b.here x (omega (arith, see.long)) ∙ see.each x k }

-- a process that begins with zeros shows them
pub shows_zeros : (g h : Paging) (f e : List ℕ) (p n : ℕ) → Sound g f → p < 64 → Begun g f h e p n (λ _. 0) → Shows h e p (replicate (n * 4096) 0)
shows_zeros g h f e p n s l b =
    record {
      process = l;
      long = length-replicate {A = ℕ} (n * 4096) 0 ∙ ap (λ n. n * 4096) (sym (begun_held g h f e p n s _ l b));
      each = λ x k. b.here x (omega (arith, length-replicate {A = ℕ} (n * 4096) 0)) ∙ sym (get_or_all (n * 4096) x 0);
    }
