-- Rings. Assumes nothing.
use Rattle.std.proofs.Common.{◌≡◌, ℕ, ◌+◌, ◌-◌, ◌*◌, ◌%◌, ◌<◌, ◌≤◌, List, [], ◌++◌, length, get_or, take, drop, sym, ap, ◌∙◌, ⊎_elim, arith}
use Rattle.std.proofs.lemmas.List.{ext_get_or, length-append, length-drop, length-take-le, get_or-take, get_or-drop, get_or_append_left, get_or-append_right, take-take, drop-take, take-append-drop, append_assoc}
use Rattle.std.proofs.lemmas.Bool.{cases_lt, cases_order}
use Rattle.std.proofs.lemmas.List.FromFn.{length-map-range_with_len, get_or-map-range_with_len}
use borrow.Rule.Slice.PartMut.{put_mid}
use Rattle.octets.proofs.Parts.{part_in, part_low, part_high}
use Rattle.queues.specs.declared.Queue.{Queue}
use Rattle.queues.specs.Rings.{waiting, queued, OthersKept, Shorter, Written}

pub length_queued : (q : Queue) (xs : List ℕ) (t : ℕ) → length (queued q xs t) ≡ q.length
unfolding queued
length_queued q xs t = length-map-range_with_len (waiting q xs t) 0 q.length

pub get_or_queued : (q : Queue) (xs : List ℕ) (t k : ℕ) → k < q.length → get_or (queued q xs t) k 0 ≡ waiting q xs t k
unfolding queued
get_or_queued q xs t k h = get_or-map-range_with_len (waiting q xs t) 0 q.length k k 0 h (omega arith)

-- a list with these bytes is the queue
pub queued_is : (q : Queue) (xs : List ℕ) (t : ℕ) (bs : List ℕ) → length bs ≡ q.length → ((k : ℕ) → k < q.length → waiting q xs t k ≡ get_or bs k 0) → queued q xs t ≡ bs
queued_is q xs t bs l h =
    ext_get_or 0 (queued q xs t) bs (length_queued q xs t ∙ sym l) (λ k m. let n : k < q.length = omega (arith, length_queued q xs t) in get_or_queued q xs t k n ∙ h k n)

-- nothing waits where the length is 0
pub queued_none : (q : Queue) (xs : List ℕ) (t : ℕ) → q.length ≡ 0 → queued q xs t ≡ []
queued_none q xs t e = queued_is q xs t [] (sym e) (λ k l. absurd (omega arith))

-- a row's byte, where the row is cut out of all
row_byte : (xs : List ℕ) (at k : ℕ) → k < 4096 → get_or (take (at + 4096 - at) (drop at xs)) k 0 ≡ get_or xs (at + k) 0
row_byte xs at k h = get_or-take (at + 4096 - at) (drop at xs) k 0 (omega arith) ∙ get_or-drop at xs k 0

-- row t is written to, and no other
pub put_others : (xs row : List ℕ) (t at : ℕ) → at ≡ t * 4096 → at + 4096 ≤ length xs → length row ≡ 4096 → OthersKept t xs (put_mid at (at + 4096 - at) xs row)
put_others xs row t at is within long u p ne =
    queued_is p _ u (queued p xs u) (length_queued p xs u)
    (λ k l. ⊎_elim (λ (e : u ≡ t). absurd (ne e))
    (λ o. ⊎_elim
    (λ (h : u < t). part_low xs row at (at + 4096) (omega arith) (omega arith) within _ (omega arith))
    (λ (h : t < u). part_high xs row at (at + 4096) (omega arith) (omega arith) within _ (omega arith)) o) (cases_order u t) ∙ sym (get_or_queued p xs u k l))

-- bs is written into row t behind the last byte that waits, where `row` is the row with bs in it
module _ (q r : Queue) (xs row bs : List ℕ) (t at : ℕ) (is : at ≡ t * 4096) (within : at + 4096 ≤ length xs) (long : length row ≡ 4096) (fits : q.length + length bs ≤ 4096)
    (same : r.start ≡ q.start) (more : r.length ≡ q.length + length bs)
    (put : Written (take (at + 4096 - at) (drop at xs)) row ((q.start + q.length) % 4096) bs) where
  all : List ℕ
  all = put_mid at (at + 4096 - at) xs row

  in_row : (k : ℕ) → k < 4096 → get_or all (at + k) 0 ≡ get_or row k 0
  unfolding all
  in_row k h = part_in xs row at (at + 4096) (omega arith) (omega arith) within k (omega arith)

  -- a byte that waited is not written over
  old_byte : (k : ℕ) → k < q.length → get_or all (at + (q.start + k) % 4096) 0 ≡ waiting q xs t k
  old_byte k l =
      let j = k + 4096 - q.length in
      let e : ((q.start + q.length) % 4096 + j) % 4096 ≡ (q.start + k) % 4096 = omega arith in
      in_row _ (omega arith) ∙ rw e at (put.kept j (omega arith) (omega arith)) ∙ row_byte xs at _ (omega arith) ∙ ap (λ x. get_or xs (x + (q.start + k) % 4096) 0) is

  new_byte : (k : ℕ) → q.length ≤ k → k < q.length + length bs → get_or all (at + (q.start + k) % 4096) 0 ≡ get_or bs (k - q.length) 0
  new_byte k h l =
      let e : ((q.start + q.length) % 4096 + (k - q.length)) % 4096 ≡ (q.start + k) % 4096 = omega arith in
      in_row _ (omega arith) ∙ rw e at (put.here (k - q.length) (omega arith))

  pub put_queued : queued r (put_mid at (at + 4096 - at) xs row) t ≡ queued q xs t ++ bs
  unfolding all
  put_queued =
      queued_is r all t (queued q xs t ++ bs) (length-append (queued q xs t) bs ∙ omega (arith, length_queued q xs t))
      (λ k l. rw (same, ← is) (⊎_elim
      (λ (h : k < q.length). old_byte k h ∙ sym (get_or_queued q xs t k h) ∙ sym (get_or_append_left (queued q xs t) bs 0 k (omega (arith, length_queued q xs t))))
      (λ (h : q.length ≤ k). new_byte k h (omega arith) ∙ sym (get_or-append_right (queued q xs t) bs q.length k 0 (length_queued q xs t) h))
      (cases_lt k q.length)))

-- the first n bytes are taken
pub take_shorter : (q r : Queue) (n : ℕ) → n ≤ q.length → r.start ≡ (q.start + n) % 4096 → r.length ≡ q.length - n → Shorter n q r
take_shorter q r n h a b xs t =
    queued_is r xs t (drop n (queued q xs t)) (length-drop n (queued q xs t) ∙ omega (arith, length_queued q xs t))
    (λ k l.
    let e : (r.start + k) % 4096 ≡ (q.start + (n + k)) % 4096 = omega arith in
    ap (λ x. get_or xs (t * 4096 + x) 0) e ∙ sym (get_or_queued q xs t (n + k) (omega arith)) ∙ sym (get_or-drop n (queued q xs t) k 0))

-- what was read from row t, from the front on, are the first bytes that wait
pub read_queued : (q : Queue) (xs out : List ℕ) (t at : ℕ) → at ≡ t * 4096 → length out ≤ q.length → ((k : ℕ) → k < length out → get_or out k 0 ≡ get_or (take (at + 4096 - at) (drop at xs)) ((q.start + k) % 4096) 0) → out ≡ take (length out) (queued q xs t)
read_queued q xs out t at is few read =
    ext_get_or 0 out (take (length out) (queued q xs t)) (sym (length-take-le (length out) (queued q xs t) (omega (arith, length_queued q xs t))))
    (λ k l. read k l ∙ row_byte xs at _ (omega arith) ∙ ap (λ x. get_or xs (x + (q.start + k) % 4096) 0) is ∙ sym (get_or_queued q xs t k (omega arith)) ∙ sym (get_or-take (length out) (queued q xs t) k 0 l))

-- the first d bytes of bs came behind qs, and then n more of its first m
pub take_then : (qs ps rs bs : List ℕ) (d n m : ℕ) → d ≤ m → m ≤ length bs → n ≤ m - d → ps ≡ qs ++ take d bs → rs ≡ ps ++ take n (take (m - d) (drop d bs)) → rs ≡ qs ++ take (d + n) bs
take_then qs ps rs bs d n m h l k a b =
    b ∙ ap (λ x. x ++ take n (take (m - d) (drop d bs))) a ∙ append_assoc qs (take d bs) (take n (take (m - d) (drop d bs))) ∙ ap (λ x. qs ++ x) joined
  where
    joined : take d bs ++ take n (take (m - d) (drop d bs)) ≡ take (d + n) bs
    joined =
        ap (λ x. take d bs ++ x) (take-take n (m - d) (drop d bs) k ∙ sym (drop-take d n bs)) ∙ ap (λ x. x ++ drop d (take (d + n) bs)) (sym (take-take d (d + n) bs (omega arith)))
        ∙ take-append-drop d (take (d + n) bs)
