-- Screens packed into one row. Assumes nothing.
use Rattle.std.proofs.Common.{◌≡◌, ℕ, zero, suc, ◌+◌, ◌-◌, ◌<◌, ◌≤◌, true, leb, List, [], ◌++◌, length, get_or, map, drop, sym, refl, ap, ◌∙◌, ⊎_elim, add-one, arith, rules}
use Rattle.std.specs.List.Sorted.{IsNonDecreasing}
use Rattle.std.proofs.lemmas.List.{ext_get_or, length-append, length-drop, length-take-le, get_or-take, get_or-drop, get_or-map, length-map, get_or_default, get_or_append_left, get_or-append_right, append-nil, append_assoc, places}
use Rattle.std.proofs.lemmas.Bool.{cases_lt, cases_order, leb-true}
use borrow.Rule.Slice.PartMut.{put_mid, mid_of}
use Rattle.octets.proofs.Parts.{part_long}
use Rattle.queues.specs.declared.Screens.{Screens}
use Rattle.queues.specs.Screens.{begin_of, Within, screen_of, total, Appended, Inserted}

module _ (s : Screens) (xs : List ℕ) (rows : length s.begins ≡ 17) (p : Within s xs) where
  -- screens that come later begin later
  pub begin_up : (u v : ℕ) → u ≤ v → v < 17 → begin_of s u ≤ begin_of s v
  begin_up u v h l = s.in_order u v 0 h (omega arith)

  pub length_screen : (t : ℕ) → t < 16 → length (screen_of s xs t) ≡ begin_of s (t + 1) - begin_of s t
  unfolding screen_of
  length_screen t h =
      length-take-le (begin_of s (t + 1) - begin_of s t) (drop (begin_of s t) xs) (omega (arith, length-drop (begin_of s t) xs, begin_up (t + 1) 16 (omega arith) (omega arith), p, begin_up t (t + 1) (omega arith) (omega arith)))

  pub get_or_screen : (t k : ℕ) → t < 16 → k < begin_of s (t + 1) - begin_of s t → get_or (screen_of s xs t) k 0 ≡ get_or xs (begin_of s t + k) 0
  unfolding screen_of
  get_or_screen t k h l = get_or-take (begin_of s (t + 1) - begin_of s t) (drop (begin_of s t) xs) k 0 l ∙ get_or-drop (begin_of s t) xs k 0

  -- a list with these bytes is what a screen shows
  pub screen_is : (t : ℕ) (bs : List ℕ) → t < 16 → length bs ≡ begin_of s (t + 1) - begin_of s t → ((k : ℕ) → k < length bs → get_or xs (begin_of s t + k) 0 ≡ get_or bs k 0) → screen_of s xs t ≡ bs
  screen_is t bs h l e =
      ext_get_or 0 (screen_of s xs t) bs (length_screen t h ∙ sym l)
      (λ k m. get_or_screen t k h (omega (arith, length_screen t h)) ∙ e k (omega (arith, length_screen t h)))

  -- the bytes of the screens before t are those before its begin
  pub total_is : (t : ℕ) → t < 17 → total s xs t ≡ begin_of s t
  unfolding total
  total_is zero h = sym s.from_start
  total_is (suc t) h = let e : t + 1 ≡ suc t = add-one t in omega (arith, total_is t (omega arith), length_screen t (omega arith), begin_up t (t + 1) (omega arith) (omega arith), ap (begin_of s) e)

  -- what there is room for, by where the last screen ends
  pub room_is : (n : ℕ) → true ≡ leb (total s xs 16 + n) (length xs) → begin_of s 16 + n ≤ length xs
  room_is n h = omega (arith, total_is 16 (omega arith), leb-true (total s xs 16 + n) (length xs) (sym h))

  -- what begins behind screen t begins before the end
  pub mid_within : (t k d : ℕ) → t < 16 → k < length (mid_of (t + 1) (17 - (t + 1)) s.begins) → get_or (mid_of (t + 1) (17 - (t + 1)) s.begins) k d ≤ begin_of s 16
  mid_within t k d h l =
      let m : length (mid_of (t + 1) (17 - (t + 1)) s.begins) ≡ 17 - (t + 1) = length-take-le (17 - (t + 1)) (drop (t + 1) s.begins) (omega (arith, length-drop (t + 1) s.begins)) in
      let e : get_or (mid_of (t + 1) (17 - (t + 1)) s.begins) k d ≡ get_or s.begins (t + 1 + k) d = get_or-take (17 - (t + 1)) (drop (t + 1) s.begins) k d (omega arith) ∙ get_or-drop (t + 1) s.begins k d in
      omega (arith, e, s.in_order (t + 1 + k) 16 d (omega arith) (omega arith), get_or_default s.begins 16 d 0 (omega arith))

-- all that begin behind screen t begin n bytes later
module _ (begins zs : List ℕ) (t n : ℕ) (rows : length begins ≡ 17) (ht : t < 16) (moved : zs ≡ map (λ b. b + n) (mid_of (t + 1) (17 - (t + 1)) begins)) where
  long : length zs ≡ 17 - (t + 1)
  long =
      rw moved
      (length-map (mid_of (t + 1) (17 - (t + 1)) begins) (λ b. b + n) ∙ length-take-le (17 - (t + 1)) (drop (t + 1) begins) (omega (arith, length-drop (t + 1) begins)))

  pub before : (k d : ℕ) → k ≤ t → get_or (put_mid (t + 1) (17 - (t + 1)) begins zs) k d ≡ get_or begins k d
  before k d h = let l = long in search (rules, places)

  pub behind : (k d : ℕ) → t < k → k < 17 → get_or (put_mid (t + 1) (17 - (t + 1)) begins zs) k d ≡ get_or begins k d + n
  behind k d h l =
      let j = k - (t + 1) in
      let m = mid_of (t + 1) (17 - (t + 1)) begins in
      let at : get_or (put_mid (t + 1) (17 - (t + 1)) begins zs) k d ≡ get_or zs j d = let w = long in search (rules, places) in
      let from : get_or m j d ≡ get_or begins k d = search (rules, places) in
      at ∙ ap (λ l. get_or l j d) moved ∙ get_or-map (λ b. b + n) m j d d (omega (arith, long, ap length moved, length-map m (λ b. b + n))) ∙ ap (λ b. b + n) from

  still_long : length (put_mid (t + 1) (17 - (t + 1)) begins zs) ≡ 17
  still_long = part_long begins zs (t + 1) 17 long (omega arith) (omega arith) ∙ rows

  pub still_in_order : IsNonDecreasing begins → IsNonDecreasing (put_mid (t + 1) (17 - (t + 1)) begins zs)
  still_in_order up i j d h l =
      let m : j < 17 = omega (arith, still_long) in
      ⊎_elim
      (λ (b : t < i). omega (arith, behind i d b (omega arith), behind j d (omega arith) m, up i j d h (omega arith)))
      (λ (b : i ≤ t). ⊎_elim
      (λ (e : t < j). omega (arith, before i d b, behind j d e m, up i j d h (omega arith)))
      (λ (e : j ≤ t). omega (arith, before i d b, before j d e, up i j d h (omega arith))) (cases_lt t j))
      (cases_lt t i)

-- screen t shows n bytes more: what lies behind it lies n further on
module _ (s r : Screens) (xs ys zs bs : List ℕ) (t : ℕ) (rows : length s.begins ≡ 17) (p : Within s xs) (ht : t < 16) (long : length ys ≡ length xs) (room : begin_of s 16 + length bs ≤ length xs)
    (moved : zs ≡ map (λ b. b + length bs) (mid_of (t + 1) (17 - (t + 1)) s.begins)) (is : r.begins ≡ put_mid (t + 1) (17 - (t + 1)) s.begins zs) (put : Inserted xs ys (begin_of s (t + 1)) (begin_of s 16) bs) where
  still : length r.begins ≡ 17
  still = rw is (still_long s.begins zs t (length bs) rows ht moved)

  kept : (k : ℕ) → k ≤ t → begin_of r k ≡ begin_of s k
  kept k h = rw is (before s.begins zs t (length bs) rows ht moved k 0 h)

  later : (k : ℕ) → t < k → k < 17 → begin_of r k ≡ begin_of s k + length bs
  later k h l = rw is (behind s.begins zs t (length bs) rows ht moved k 0 h l)

  within : Within r ys
  within = omega (arith, later 16 ht (omega arith))

  up : (u : ℕ) → u < 16 → begin_of s u ≤ begin_of s (u + 1)
  up u h = begin_up s xs rows p u (u + 1) (omega arith) (omega arith)

  pub appended : Appended s xs r ys t bs
  appended =
      record {
        here = screen_is r ys still within t (screen_of s xs t ++ bs) ht
            (length-append (screen_of s xs t) bs ∙ omega (arith, length_screen s xs rows p t ht, kept t (omega arith), later (t + 1) (omega arith) (omega arith), up t ht))
            (λ k l. ⊎_elim
            (λ (h : k < begin_of s (t + 1) - begin_of s t).
            rw (kept t (omega arith)) (put.low (begin_of s t + k) (omega arith) ∙ sym (get_or_screen s xs rows p t k ht h) ∙ sym (get_or_append_left (screen_of s xs t) bs 0 k (omega (arith, length_screen s xs rows p t ht)))))
            (λ (h : begin_of s (t + 1) - begin_of s t ≤ k).
            let n = begin_of s (t + 1) - begin_of s t in
            let e : begin_of s t + k ≡ begin_of s (t + 1) + (k - n) = omega (arith, up t ht) in
            rw (kept t (omega arith), e)
            (put.here (k - n) (omega (arith, length-append (screen_of s xs t) bs, length_screen s xs rows p t ht)) ∙ sym (get_or-append_right (screen_of s xs t) bs n k 0 (length_screen s xs rows p t ht) h)))
            (cases_lt k (begin_of s (t + 1) - begin_of s t)));
        more = omega (arith, total_is r ys still within 16 (omega arith), total_is s xs rows p 16 (omega arith), later 16 ht (omega arith));
        others = λ u h ne. screen_is r ys still within u (screen_of s xs u) h
            (⊎_elim (λ (e : u ≡ t). absurd (ne e))
            (λ o. ⊎_elim
            (λ (l : u < t). omega (arith, length_screen s xs rows p u h, kept u (omega arith), kept (u + 1) (omega arith)))
            (λ (l : t < u). omega (arith, length_screen s xs rows p u h, later u l (omega arith), later (u + 1) (omega arith) (omega arith))) o)
            (cases_order u t))
            (λ k m. let l : k < begin_of s (u + 1) - begin_of s u = omega (arith, length_screen s xs rows p u h) in
            ⊎_elim (λ (e : u ≡ t). absurd (ne e))
            (λ o. ⊎_elim
            (λ (d : u < t). rw (kept u (omega arith)) (put.low (begin_of s u + k) (omega (arith, begin_up s xs rows p (u + 1) (t + 1) (omega arith) (omega arith))) ∙ sym (get_or_screen s xs rows p u k h l)))
            (λ (d : t < u).
            let e : begin_of s u + length bs + k ≡ begin_of s u + k + length bs = omega arith in
            rw (later u d (omega arith), e)
            (put.high (begin_of s u + k) (omega (arith, begin_up s xs rows p (t + 1) u (omega arith) (omega arith))) (omega (arith, begin_up s xs rows p (u + 1) 16 (omega arith) (omega arith))) ∙ sym (get_or_screen s xs rows p u k h l))) o)
            (cases_order u t));
      }

-- where no screen shows anything
pub none_shown : (s : Screens) → ((t : ℕ) → begin_of s t ≡ 0) → (xs : List ℕ) (t : ℕ) → screen_of s xs t ≡ []
unfolding screen_of
none_shown s none xs t = let e : begin_of s (t + 1) - begin_of s t ≡ 0 = omega (arith, none (t + 1)) in rw e

-- nothing more, and some bytes and then others, as one row
pub appended_none : (s : Screens) (xs : List ℕ) (t : ℕ) → Appended s xs s xs t []
appended_none s xs t = record { here = sym (append-nil (screen_of s xs t)); others = λ u h ne. refl; more = omega arith }

pub appended_then : (s r q : Screens) (xs ys zs : List ℕ) (t : ℕ) (bs cs : List ℕ) → Appended s xs r ys t bs → Appended r ys q zs t cs → Appended s xs q zs t (bs ++ cs)
appended_then s r q xs ys zs t bs cs a b =
    record {
      here = b.here ∙ ap (λ l. l ++ cs) a.here ∙ append_assoc (screen_of s xs t) bs cs;
      others = λ u h ne. b.others u h ne ∙ a.others u h ne;
      more = omega (arith, a.more, b.more, length-append bs cs);
    }
