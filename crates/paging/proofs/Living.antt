-- Processes begin and end page by page. Assumes nothing.
use Rattle.std.proofs.Common.{◌≡◌, ℕ, ◌+◌, ◌-◌, ◌*◌, ◌/◌, ◌<◌, ◌≤◌, ◌≢◌, List, length, set, sym, refl, ap, ◌∙◌, ⊎_elim, arith}
use Rattle.std.proofs.lemmas.List.{set-set, set-get_or}
use Rattle.std.proofs.lemmas.Bool.{cases_eq}
use Rattle.paging.specs.declared.Paging.{Paging}
use Rattle.paging.specs.Tables.{free_at, Tops, Slot, frame_at}
use Rattle.paging.specs.Tables.Slot.{page, free}
use Rattle.paging.specs.Pages.{held, InUse, Sound, with_pages}
use Rattle.paging.specs.Changes.{Kept, Others, Filled, Begun, Ended}
use Rattle.paging.proofs.Moving.{held_same, held_other}

-- as many pages as there are, is no change
pub with_none : (g : Paging) (p n : ℕ) → held g p ≡ n → g ≡ with_pages g p n
with_none g p n h =
    let a : g.free + held g p - n ≡ g.free = omega arith in
    let b : set g.pages p n ≡ g.pages = ap (set g.pages p) (sym h) ∙ set-get_or g.pages p 0 in
    rw (a, b)

pub with_twice : (g : Paging) (p i n : ℕ) → length g.pages ≡ 64 → p < 64 → i ≤ g.free + held g p → with_pages (with_pages g p i) p n ≡ with_pages g p n
with_twice g p i n r h l =
    let a : held (with_pages g p i) p ≡ i = held_same g (with_pages g p i) p i refl r h in
    let b : g.free + held g p - i + held (with_pages g p i) p - n ≡ g.free + held g p - n = omega arith in
    rw (b, set-set g.pages p i n)

others_none : (g : Paging) (f : List ℕ) (p : ℕ) → Others p g f g f
others_none g f p = record { bytes = λ q a ne t. refl; caches = λ q c ne m. m }

pub begun_none : (g : Paging) (f : List ℕ) (p : ℕ) (v : ℕ → ℕ) → Sound g f → held g p ≡ 0 → Begun g f g f p 0 v
begun_none g f p v s h = record { state = with_none g p 0 h; sound = s; here = λ a l. absurd (omega arith); others = others_none g f p }

pub ended_none : (g : Paging) (f : List ℕ) (p n : ℕ) → Sound g f → held g p ≡ n → Ended g f g f p n
ended_none g f p n s h = record { state = with_none g p n h; sound = s; others = others_none g f p }

-- a page more, with the bytes that it is to have
pub begun_more : (g h k : Paging) (f e d c : List ℕ) (p i : ℕ) (v w : ℕ → ℕ) → Sound g f → p < 64 → i ≤ g.free + held g p → Begun g f h e p i v
    → k ≡ with_pages h p (held h p + 1) → Kept h e k d → Sound k c → Filled k d c p i w → ((a : ℕ) → a / 4096 ≡ i → w a ≡ v a) → Begun g f k c p (i + 1) v
begun_more g h k f e d c p i v w s hp room b st kept sound fill same =
    record {
      state = st ∙ ap (λ n. with_pages h p (n + 1)) has ∙ ap (λ x. with_pages x p (i + 1)) b.state ∙ with_twice g p i (i + 1) s.rows hp room;
      sound = sound;
      here = λ a l. ⊎_elim (λ (o : a / 4096 ≡ i). fill.here a o ∙ same a o)
          (λ (o : a / 4096 ≢ i). let n : a / 4096 < i = omega arith in fill.same a o (hp, omega (arith, got)) ∙ kept.bytes p a (hp, omega (arith, has)) ∙ b.here a n) (cases_eq (a / 4096) i);
      others = record {
        bytes = λ q a ne t. fill.others.bytes q a ne (t.0, omega (arith, t.1, other q ne, later q ne)) ∙ kept.bytes q a (t.0, omega (arith, t.1, other q ne)) ∙ b.others.bytes q a ne t;
        caches = λ q c ne m. fill.caches q c (kept.caches q c (b.others.caches q c ne m));
      };
    }
  where
    has : held h p ≡ i
    has = held_same g h p i (ap (λ x. x.pages) b.state) s.rows hp

    got : held k p ≡ i + 1
    got = held_same h k p (held h p + 1) (ap (λ x. x.pages) st) b.sound.rows hp ∙ ap (λ n. n + 1) has

    other : (q : ℕ) → q ≢ p → held h q ≡ held g q
    other q ne = held_other g h p i q (ap (λ x. x.pages) b.state) ne

    later : (q : ℕ) → q ≢ p → held k q ≡ held h q
    later q ne = held_other h k p (held h p + 1) q (ap (λ x. x.pages) st) ne

-- a page less
pub ended_more : (g h k : Paging) (f e d : List ℕ) (p n m : ℕ) → Sound g f → p < 64 → n ≤ g.free + held g p → m ≡ n - 1 → Ended g f h e p n
    → k ≡ with_pages h p (held h p - 1) → Sound k d → Others p h e k d → Ended g f k d p m
ended_more g h k f e d p n m s hp room less b st sound others =
    record {
      state = st ∙ ap (with_pages h p) (ap (λ x. x - 1) has ∙ sym less) ∙ ap (λ x. with_pages x p m) b.state ∙ with_twice g p n m s.rows hp room;
      sound = sound;
      others = record {
        bytes = λ q a ne t. others.bytes q a ne (t.0, omega (arith, t.1, other q ne)) ∙ b.others.bytes q a ne t;
        caches = λ q c ne m. others.caches q c ne (b.others.caches q c ne m);
      };
    }
  where
    has : held h p ≡ n
    has = held_same g h p n (ap (λ x. x.pages) b.state) s.rows hp

    other : (q : ℕ) → q ≢ p → held h q ≡ held g q
    other q ne = held_other g h p n q (ap (λ x. x.pages) b.state) ne

-- at the start all frames are on the stack
pub fresh : (g : Paging) (f : List ℕ) → length g.pages ≡ 64 → ((p : ℕ) → held g p ≡ 0) → g.free ≤ 16384 → (80 + g.free) * 4096 ≤ length f → Tops f
    → ((k : ℕ) → k < g.free → free_at f k ≡ 80 + k) → Sound g f
fresh g f rows none low room tops at =
    record { rows = rows; few = λ p. omega (arith, none p); low = low; long = omega arith; tops = tops; usable = usable; apart = apart }
  where
    usable : (s : Slot) → InUse g s → (80 ≤ frame_at f s) × (frame_at f s * 4096 + 4096 ≤ length f)
    usable (page p i) u = absurd (omega (arith, u.1, none p))
    usable (free k) u = rw (at k u) (omega arith, omega arith)

    apart : (s t : Slot) → InUse g s → InUse g t → frame_at f s ≡ frame_at f t → s ≡ t
    apart (page p i) t u w e = absurd (omega (arith, u.1, none p))
    apart (free k) (page p i) u w e = absurd (omega (arith, w.1, none p))
    apart (free k) (free j) u w e = let d : k ≡ j = omega (arith, at k u, at j w) in rw d
