-- A frame moves from one slot to another: from the stack to a page, or back. Assumes nothing.
use Rattle.std.proofs.Common.{◌≡◌, ℕ, ◌+◌, ◌-◌, ◌*◌, ◌/◌, ◌%◌, ◌<◌, ◌≤◌, ◌≢◌, ◌⊎◌, List, length, get_or, set, sym, ap, ◌∙◌, inl, inr, ⊎_elim, arith, length-set, get_or-set_other, get_or-set_same}
use Rattle.std.proofs.lemmas.Bool.{cases_eq}
use Rattle.paging.specs.declared.Paging.{Paging}
use Rattle.paging.specs.declared.Cache.{Cache}
use Rattle.paging.specs.Tables.{frame_of, place, byte_of, free_at, Slot, frame_at, SlotThere, Slotted}
use Rattle.paging.specs.Tables.Slot.{page, free}
use Rattle.paging.specs.Pages.{held, InUse, Sound, Remembers}
use Rattle.paging.specs.Changes.{Kept, Others}

pub held_same : (g h : Paging) (p n : ℕ) → h.pages ≡ set g.pages p n → length g.pages ≡ 64 → p < 64 → held h p ≡ n
held_same g h p n e r l = rw e (get_or-set_same g.pages p n 0 (omega arith))

pub held_other : (g h : Paging) (p n q : ℕ) → h.pages ≡ set g.pages p n → q ≢ p → held h q ≡ held g q
held_other g h p n q e ne = rw e (get_or-set_other g.pages p q n 0 ne)

-- no process has more than 256 pages, if the one that changes has not
few_set : (g h : Paging) (f : List ℕ) (p n : ℕ) → Sound g f → h.pages ≡ set g.pages p n → p < 64 → n ≤ 256 → (q : ℕ) → held h q ≤ 256
few_set g h f p n s e l small q =
    ⊎_elim (λ (d : q ≡ p). rw (d, held_same g h p n e s.rows l) small) (λ (ne : q ≢ p). rw (held_other g h p n q e ne) (s.few q)) (cases_eq q p)

-- a slot in use is one that there is
pub in_slots : (g : Paging) (f : List ℕ) → Sound g f → (s : Slot) → InUse g s → SlotThere s
in_slots g f s (page p i) u = (u.0, omega (arith, s.few p, u.1))
in_slots g f s (free k) u = omega (arith, s.low)

-- where a page keeps its frame, and what lies behind the tables is kept, its bytes are kept
pub byte_kept : (f e : List ℕ) (q a : ℕ) → ((x : ℕ) → 327680 ≤ x → get_or e x 0 ≡ get_or f x 0) → 80 ≤ frame_of f q (a / 4096) → frame_of e q (a / 4096) ≡ frame_of f q (a / 4096)
    → byte_of e q a ≡ byte_of f q a
unfolding byte_of place
byte_kept f e q a above up same = rw same (above (frame_of f q (a / 4096) * 4096 + a % 4096) (omega arith))

pub cache_kept : (g h : Paging) (f e : List ℕ) (q : ℕ) (c : Cache) → ((i : ℕ) → (q < 64) × (i < held g q) → (i < held h q) × (frame_of e q i ≡ frame_of f q i)) → Remembers g f q c → Remembers h e q c
cache_kept g h f e q c same m l =
    let b = m l in
    let s = same c.page (b.0, b.1) in
    (b.0, s.0, b.2 ∙ ap (λ x. x * 4096) (sym s.1))

-- what was in slot `old` is in slot `new` now; the others in use were in use, are not `old`, and hold what they held
From : (g h : Paging) (f e : List ℕ) (new old t : Slot) → Type 0
From g h f e new old t = (t ≡ new) ⊎ (InUse g t × (t ≡ old → ⊥) × (frame_at e t ≡ frame_at f t))

module _ (g h : Paging) (f e : List ℕ) (s : Sound g f) (new old : Slot) (io : InUse g old) (is : frame_at e new ≡ frame_at f old) (long : length e ≡ length f)
    (each : (t : Slot) → InUse h t → From g h f e new old t) where
  moved_usable : (t : Slot) → InUse h t → (80 ≤ frame_at e t) × (frame_at e t * 4096 + 4096 ≤ length e)
  unfolding From
  moved_usable t u =
      ⊎_elim (λ (d : t ≡ new). rw (d, is, long) (s.usable old io)) (λ k. rw (k.2, long) (s.usable t k.0)) (each t u)

  moved_apart : (t v : Slot) → InUse h t → InUse h v → frame_at e t ≡ frame_at e v → t ≡ v
  unfolding From
  moved_apart t v u w same =
      ⊎_elim
      (λ (d : t ≡ new). ⊎_elim (λ (b : v ≡ new). d ∙ sym b) (λ k. absurd (k.1 (sym (s.apart old v io k.0 (sym is ∙ ap (frame_at e) (sym d) ∙ same ∙ k.2))))) (each v w))
      (λ k. ⊎_elim (λ (b : v ≡ new). absurd (k.1 (s.apart t old k.0 io (sym k.2 ∙ same ∙ ap (frame_at e) b ∙ is))))
      (λ j. s.apart t v k.0 j.0 (sym k.2 ∙ same ∙ j.2)) (each v w))
      (each t u)

-- the topmost free frame becomes the next page of process p
module _ (g h : Paging) (f e : List ℕ) (p n : ℕ) (s : Sound g f) (hp : p < 64) (room : held g p < 256) (some : 0 < g.free) (less : h.free ≡ g.free - 1)
    (more : h.pages ≡ set g.pages p (held g p + 1)) (is : n ≡ free_at f (g.free - 1)) (put : Slotted f e (page p (held g p)) n) (long : length e ≡ length f) where
  given_each : (t : Slot) → InUse h t → From g h f e (page p (held g p)) (free (g.free - 1)) t
  unfolding From
  given_each (page q j) u =
      ⊎_elim
      (λ (d : q ≡ p). ⊎_elim (λ (b : j ≡ held g p). inl (rw (d, b)))
      (λ (ne : j ≢ held g p).
      let l : j < held g q = omega (arith, u.1, held_same g h p (held g p + 1) more s.rows hp, ap (held h) d, ap (held g) d) in
      inr ((u.0, l), (λ b. tells b), put.same (page q j) (u.0, omega (arith, s.few q)) (λ b. ne (second b)))) (cases_eq j (held g p)))
      (λ (ne : q ≢ p).
      let l : j < held g q = omega (arith, u.1, held_other g h p (held g p + 1) q more ne) in
      inr ((u.0, l), (λ b. tells b), put.same (page q j) (u.0, omega (arith, s.few q)) (λ b. ne (first b)))) (cases_eq q p)
    where
      first : {a b c d : ℕ} → page a b ≡ page c d → a ≡ c
      first e = cc

      second : {a b c d : ℕ} → page a b ≡ page c d → b ≡ d
      second e = cc

      tells : {a b c : ℕ} → page a b ≡ free c → ⊥
      tells e = let z : ◌≡◌ {A = ℕ} 0 1 = cc in omega arith
  given_each (free k) u =
      inr (omega arith, (λ b. let z : k ≡ g.free - 1 = cc in omega arith), put.same (free k) (omega (arith, s.low)) (λ b. let z : ◌≡◌ {A = ℕ} 0 1 = cc in omega arith))

  pub given_sound : Sound h e
  given_sound =
      record {
        rows = ap length more ∙ length-set g.pages p (held g p + 1) ∙ s.rows;
        few = few_set g h f p (held g p + 1) s more hp (omega arith);
        low = omega (arith, s.low);
        long = omega (arith, s.long);
        tops = put.tops;
        usable = moved_usable g h f e s (page p (held g p)) (free (g.free - 1)) (omega arith) (put.here ∙ is) long given_each;
        apart = moved_apart g h f e s (page p (held g p)) (free (g.free - 1)) (omega arith) (put.here ∙ is) long given_each;
      }

  given_page : (q i : ℕ) → (q < 64) × (i < held g q) → (i < held h q) × (frame_of e q i ≡ frame_of f q i)
  given_page q i u = (
    ⊎_elim (λ (d : q ≡ p). omega (arith, u.1, held_same g h p (held g p + 1) more s.rows hp, ap (held h) d, ap (held g) d))
        (λ (ne : q ≢ p). omega (arith, u.1, held_other g h p (held g p + 1) q more ne)) (cases_eq q p),
    put.same (page q i) (u.0, omega (arith, u.1, s.few q)) (λ b. let x : q ≡ p = cc in let y : i ≡ held g p = cc in omega (arith, u.1, ap (held g) x)),
  )

  pub given_kept : Kept g f h e
  given_kept =
      record {
        bytes = λ q a u. byte_kept f e q a put.above (s.usable (page q (a / 4096)) u).0 (given_page q (a / 4096) u).1;
        caches = λ q c m. cache_kept g h f e q c (given_page q) m;
      }

-- the last page of process p becomes a free frame
module _ (g h : Paging) (f e : List ℕ) (p n : ℕ) (s : Sound g f) (hp : p < 64) (some : 0 < held g p) (room : g.free < 16384) (more : h.free ≡ g.free + 1)
    (less : h.pages ≡ set g.pages p (held g p - 1)) (is : n ≡ frame_of f p (held g p - 1)) (put : Slotted f e (free g.free) n) (long : length e ≡ length f) where
  taken_held : (q j : ℕ) → j < held h q → (j < held g q) × ((q ≡ p) × (j ≡ held g p - 1) → ⊥)
  taken_held q j u =
      ⊎_elim (λ (d : q ≡ p). let k : j < held g p - 1 = omega (arith, held_same g h p (held g p - 1) less s.rows hp, ap (held h) d) in (omega (arith, ap (held g) d), λ b. omega (arith, b.1)))
      (λ (ne : q ≢ p). (omega (arith, held_other g h p (held g p - 1) q less ne), λ b. ne b.0)) (cases_eq q p)

  taken_each : (t : Slot) → InUse h t → From g h f e (free g.free) (page p (held g p - 1)) t
  unfolding From
  taken_each (page q j) u =
      let k = taken_held q j u.1 in
      inr ((u.0, k.0), (λ b. k.1 ((cc), (cc))), put.same (page q j) (u.0, omega (arith, s.few q, k.0)) (λ b. let z : ◌≡◌ {A = ℕ} 0 1 = cc in omega arith))
  taken_each (free k) u =
      ⊎_elim (λ (d : k ≡ g.free). inl (rw d))
      (λ (ne : k ≢ g.free). inr (omega arith, (λ b. let z : ◌≡◌ {A = ℕ} 0 1 = cc in omega arith), put.same (free k) (omega (arith, s.low)) (λ b. ne (cc)))) (cases_eq k g.free)

  last_in : InUse g (page p (held g p - 1))
  last_in = (hp, omega arith)

  pub taken_sound : Sound h e
  taken_sound =
      record {
        rows = ap length less ∙ length-set g.pages p (held g p - 1) ∙ s.rows;
        few = few_set g h f p (held g p - 1) s less hp (omega (arith, s.few p));
        low = omega arith;
        long = omega (arith, s.long);
        tops = put.tops;
        usable = moved_usable g h f e s (free g.free) (page p (held g p - 1)) last_in (put.here ∙ is) long taken_each;
        apart = moved_apart g h f e s (free g.free) (page p (held g p - 1)) last_in (put.here ∙ is) long taken_each;
      }

  taken_page : (q i : ℕ) → (q < 64) × (i < held g q) → frame_of e q i ≡ frame_of f q i
  taken_page q i u = put.same (page q i) (u.0, omega (arith, u.1, s.few q)) (λ b. let z : ◌≡◌ {A = ℕ} 0 1 = cc in omega arith)

  pub taken_others : Others p g f h e
  taken_others =
      record {
        bytes = λ q a ne u. byte_kept f e q a put.above (s.usable (page q (a / 4096)) u).0 (taken_page q (a / 4096) u);
        caches = λ q c ne m. cache_kept g h f e q c (λ i u. (omega (arith, u.1, held_other g h p (held g p - 1) q less ne), taken_page q i u)) m;
      }
