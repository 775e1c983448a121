-- What changes of the processes' bytes, and what stays: f is the lent memory before, and e after. Assumes nothing: these are definitions.
use Rattle.std.specs.Prelude.{◌≡◌, ℕ, ◌+◌, ◌/◌, ◌<◌, ◌≤◌, ◌⊎◌, List, length, ◌≢◌, slice_index}
use Rattle.paging.specs.declared.Paging.{Paging}
use Rattle.paging.specs.declared.Cache.{Cache}
use Rattle.paging.specs.Tables.{byte_of}
use Rattle.paging.specs.Pages.{Byte, Sound, Remembers, with_pages}

-- every byte that there was is as it was, and what was remembered holds
pub record Kept (g : Paging) (f : List ℕ) (h : Paging) (e : List ℕ) : Type 0 where
  pub bytes : (q a : ℕ) → Byte g q a → byte_of e q a ≡ byte_of f q a
  pub caches : (q : ℕ) (c : Cache) → Remembers g f q c → Remembers h e q c

-- the same of all processes but p
pub record Others (p : ℕ) (g : Paging) (f : List ℕ) (h : Paging) (e : List ℕ) : Type 0 where
  pub bytes : (q a : ℕ) → (q ≢ p) → Byte g q a → byte_of e q a ≡ byte_of f q a
  pub caches : (q : ℕ) (c : Cache) → (q ≢ p) → Remembers g f q c → Remembers h e q c

-- page i of process p holds the bytes v now, as a function of the address; all other pages are as they were, and what was remembered holds
pub record Filled (g : Paging) (f e : List ℕ) (p i : ℕ) (v : ℕ → ℕ) : Type 0 where
  pub here : (a : ℕ) → a / 4096 ≡ i → byte_of e p a ≡ v a
  pub same : (a : ℕ) → (a / 4096 ≢ i) → Byte g p a → byte_of e p a ≡ byte_of f p a
  pub others : Others p g f g e
  pub caches : (q : ℕ) (c : Cache) → Remembers g f q c → Remembers g e q c

-- process p has n pages now, which hold the bytes v, as a function of the address; for all other processes nothing changed
pub record Begun (g : Paging) (f : List ℕ) (h : Paging) (e : List ℕ) (p n : ℕ) (v : ℕ → ℕ) : Type 0 where
  pub state : h ≡ with_pages g p n
  pub sound : Sound h e
  pub here : (a : ℕ) → a / 4096 < n → byte_of e p a ≡ v a
  pub others : Others p g f h e

-- process p has n pages left; for all other processes nothing changed
pub record Ended (g : Paging) (f : List ℕ) (h : Paging) (e : List ℕ) (p n : ℕ) : Type 0 where
  pub state : h ≡ with_pages g p n
  pub sound : Sound h e
  pub others : Others p g f h e

-- nothing but bytes of process p changed: the tables are in order, all other processes' bytes are as they were, and what was remembered holds
pub record Only (p : ℕ) (g : Paging) (f e : List ℕ) : Type 0 where
  pub sound : Sound g e
  pub others : (q x : ℕ) → (q ≢ p) → Byte g q x → byte_of e q x ≡ byte_of f q x
  pub caches : (q : ℕ) (c : Cache) → Remembers g f q c → Remembers g e q c

-- the n bytes of process p from address a on are v 0, v 1 and so on now, and nothing else changed
pub record Put (g : Paging) (f e : List ℕ) (p a n : ℕ) (v : ℕ → ℕ) : Type 0 where
  pub here : (k : ℕ) → k < n → byte_of e p (a + k) ≡ v k
  pub same : (x : ℕ) → Byte g p x → (x < a) ⊎ (a + n ≤ x) → byte_of e p x ≡ byte_of f p x
  pub only : Only p g f e

-- the bytes ys are put from address a on
abbrev pub Stored : Paging → List ℕ → List ℕ → ℕ → ℕ → List ℕ → Type 0
Stored g f e p a ys = Put g f e p a (length ys) (λ k. slice_index ys k)
