-- The laws of the tables. Assumes nothing.
use Rattle.std.proofs.Common.{◌≡◌, ℕ, zero, suc, ◌+◌, ◌-◌, ◌*◌, ◌/◌, ◌<◌, ◌≤◌, ◌⊎◌, List, get_or, ◌∙◌, ⊎_elim, arith}
use Rattle.std.proofs.lemmas.Bool.{eq-eqb, ne_eqb}
use Rattle.paging.specs.Tables.Slot.{page, free}
use Rattle.paging.specs.Pages.{lacking}
use Rattle.paging.specs.Laws.{FramesApart, BytesApart, live, FreeFrames, FindsPages}
use Rattle.paging.proofs.Filling.{place_apart}
use Rattle.paging.proofs.Counting.{lacking_one}

pub frames_apart : FramesApart
frames_apart g f s p i hp hi = (
  λ q j hq hj e. let same = s.apart (page p i) (page q j) (hp, hi) (hq, hj) e in ((cc), (cc)),
  λ k h e. let same = s.apart (page p i) (free k) (hp, hi) h e in let z : ◌≡◌ {A = ℕ} 0 1 = cc in omega arith,
)

pub bytes_apart : BytesApart
bytes_apart g f s p q a b u v e = place_apart g f s p q a b u v e

live_le : (n : ℕ) (hs : List ℕ) (m : ℕ) → 0 < m → ((p : ℕ) → p < n → (get_or hs p 0 ≡ 0) ⊎ (get_or hs p 0 ≡ m)) → (live n hs ≤ n) × (lacking m n hs ≡ (n - live n hs) * m)
unfolding live lacking
live_le zero hs m some each = (omega arith, omega arith)
live_le (suc n) hs m some each =
    let i = live_le n hs m some (λ p h. each p (omega arith)) in
    ⊎_elim
    (λ (e : get_or hs n 0 ≡ 0).
    let b : suc n - (0 + live n hs) ≡ 1 + (n - live n hs) = omega (arith, i.0) in
    rw (eq-eqb (get_or hs n 0) 0 e) (omega (arith, i.0), rw (b, e, i.1) (omega arith)))
    (λ (e : get_or hs n 0 ≡ m).
    let b : suc n - (1 + live n hs) ≡ n - live n hs = omega arith in
    rw (ne_eqb (get_or hs n 0) 0 (λ z. omega (arith, e))) (omega (arith, i.0), rw (b, e, i.1) (omega arith)))
    (each n (omega arith))

pub free_frames : FreeFrames
free_frames z g u each some = u.free ∙ (live_le z.processes g.pages (z.memory / 4096) (omega arith) each).1

pub finds_pages : FindsPages
finds_pages z g p u h none = omega (arith, u.free, lacking_one (z.memory / 4096) z.processes g.pages p h)
