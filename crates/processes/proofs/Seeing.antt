-- What is seen in tables is so in their worlds. Assumes nothing.
use Rattle.std.proofs.Common.{◌≡◌, ℕ, suc, ◌+◌, ◌-◌, ◌<◌, ◌≤◌, Bool, true, false, not, ◌&&◌, Some, None, Option, sym, refl, ap, ◌∙◌, ⊎_elim, arith}
use Rattle.std.specs.Prelude.{if◌then◌else◌, nat_lt, is_none, find}
use Rattle.std.specs.List.{range_with_len, list_any}
use Rattle.std.proofs.lemmas.Bool.{cases_Bool, ltb-true, ltb-false}
use Rattle.octets.specs.Rows.{some, lowest, lowest_from}
use Rattle.octets.proofs.Chains.{any_range, find_range}
use Rattle.turns.specs.World.{process, runs_in, has_open, in_use, some_end, writers, readers, leads_to, is_running, is_free, is_child, left_child, free_process, free_open, second_open, free_handle, second_handle, free_pipe}
use Rattle.rv32.specs.Act.{core}
use Rattle.processes.specs.declared.Tables.{Tables}
use Rattle.processes.specs.declared.looking.Side.TheVariants.{Writing, Reading}
use Rattle.processes.specs.Tabled.{Tabled, Worlds}
use Rattle.processes.specs.Looking.{one_of, holds_open, open_in_use, lowest_free_place, lowest_free_open, lowest_free_handle, end_in_use, lowest_free_pipe, child_at, lowest_left_child}
use Rattle.processes.proofs.Rows.{lowest_same, some_same}

-- CHAINS AND SEARCHES

any_same : (f g : ℕ → Bool) (m n : ℕ) → ((k : ℕ) → f k ≡ g k) → m ≡ n → list_any f (range_with_len 0 m) ≡ some g n
any_same f g m n e l = any_range f m ∙ some_same f g m e ∙ ap (some g) l

find_same : (f g : ℕ → Bool) (i n : ℕ) → ((k : ℕ) → f k ≡ g k) → find f (range_with_len i n) ≡ one_of (i + n) (lowest_from g i n)
find_same f g i n e = find_range f i n ∙ ap (one_of (i + n)) (lowest_same f g i n e)

-- the lowest of n, as a search over all of them finds it, and one from 0 on
lowest_all : (f g : ℕ → Bool) (n : ℕ) → ((k : ℕ) → f k ≡ g k) → find f (range_with_len 0 n) ≡ one_of n (lowest g n)
lowest_all f g n e = let a : 0 + n ≡ n = omega arith in find_same f g 0 n e ∙ ap (λ m. one_of m (lowest g n)) a

lowest_zero : (f g : ℕ → Bool) (n : ℕ) → ((k : ℕ) → f k ≡ g k) → find f (range_with_len 0 (n - 0)) ≡ one_of n (lowest g n)
lowest_zero f g n e = let a : n - 0 ≡ n = omega arith in ap (λ m. find f (range_with_len 0 m)) a ∙ lowest_all f g n e

-- and the lowest behind place i
lowest_behind : (f g : ℕ → Bool) (i n : ℕ) → i < n → ((k : ℕ) → f k ≡ g k) → find f (range_with_len (i + 1) (n - (i + 1))) ≡ one_of n (lowest_from g (suc i) (n - suc i))
lowest_behind f g i n l e =
    let a : i + 1 ≡ suc i = omega arith in
    let b : suc i + (n - suc i) ≡ n = omega arith in
    rw a (find_same f g (suc i) (n - suc i) e ∙ ap (λ m. one_of m (lowest_from g (suc i) (n - suc i))) b)

pub some_not_none : (k : ℕ) → ◌≡◌ {A = Option ℕ} (Some k) None → ⊥
some_not_none k e = let x : ◌≡◌ {A = ℕ} 0 1 = cc in omega arith

-- what such a search has found: nothing; place k
module _ (n i : ℕ) where
  is_one : (b : Bool) → nat_lt i n ≡ b → one_of n i ≡ (if b then Some i else None)
  is_one b e = ap (λ c. if c then Some i else None) e

  pub none_of : None ≡ one_of n i → n ≤ i
  none_of e = ⊎_elim (λ t. absurd (some_not_none i (sym (e ∙ is_one true t)))) (λ t. ltb-false _ _ t) (cases_Bool (nat_lt i n))

  pub some_of : (k : ℕ) → Some k ≡ one_of n i → (k ≡ i) × (k < n)
  some_of k e = ⊎_elim (λ t. here t (e ∙ is_one true t)) (λ t. absurd (some_not_none k (e ∙ is_one false t))) (cases_Bool (nat_lt i n))
    where
      here : nat_lt i n ≡ true → ◌≡◌ {A = Option ℕ} (Some k) (Some i) → (k ≡ i) × (k < n)
      here t q = let x : k ≡ i = cc in (x, omega (arith, ltb-true _ _ t))

-- TABLES AND WORLDS

-- tests one after the other, the second where the first holds
and_same : (a b c d : Bool) → a ≡ b → (a ≡ true → c ≡ d) → (a && c) ≡ (b && d)
and_same true b c d e f = rw (← e) (f refl)
and_same false b c d e f = rw (← e) refl

module _ (t : Tables) (w : Worlds) (h : Tabled t w) where
  open_has : (k p : ℕ) → holds_open t k p ≡ has_open core w k p
  unfolding has_open runs_in
  open_has k p =
      and_same _ _ _ _ (ap is_running (h.each p).state)
      (λ r. any_same _ _ _ _ (λ i. ap (leads_to k) ((h.each p).handles i)) (sym ((h.each p).count r)))

  pub open_is : (k : ℕ) → open_in_use t k ≡ in_use core w k
  unfolding in_use
  open_is k = any_same _ _ _ _ (open_has k) (sym h.places)

  pub writes_is : (j : ℕ) → end_in_use t Writing j ≡ writers core w j
  unfolding writers some_end
  writes_is j = any_same _ _ _ _ (λ k. rw (open_is k, h.opens k) refl) (sym h.ends)

  pub reads_is : (j : ℕ) → end_in_use t Reading j ≡ readers core w j
  unfolding readers some_end
  reads_is j = any_same _ _ _ _ (λ k. rw (open_is k, h.opens k) refl) (sym h.ends)

  pub child_is : (p i : ℕ) → child_at t p i ≡ is_child core w p i
  unfolding is_child
  child_is p i = rw ((h.each i).state, (h.each i).parent) refl

  -- what is searched
  pub place_is : lowest_free_place t ≡ one_of t.sizes.processes (free_process core t.sizes w)
  unfolding free_process
  place_is = lowest_all _ _ _ (λ p. ap is_free (h.each p).state)

  pub open_first : lowest_free_open t 0 ≡ one_of t.sizes.opens (free_open core t.sizes w)
  unfolding free_open
  open_first = lowest_zero _ _ _ (λ k. ap not (open_is k))

  pub open_second : (k : ℕ) → lowest_free_open t 0 ≡ Some k → lowest_free_open t (k + 1) ≡ one_of t.sizes.opens (second_open core t.sizes w)
  unfolding free_open second_open
  open_second k e = let s = some_of _ _ _ (sym e ∙ open_first) in rw (← s.0) (lowest_behind _ _ k _ s.1 (λ i. ap not (open_is i)))

  pub handle_first : (p : ℕ) → lowest_free_handle t p 0 ≡ one_of t.sizes.handles (free_handle t.sizes (process core w p))
  unfolding free_handle
  handle_first p = lowest_zero _ _ _ (λ i. ap is_none ((h.each p).handles i))

  pub handle_second : (p i : ℕ) → lowest_free_handle t p 0 ≡ Some i → lowest_free_handle t p (i + 1) ≡ one_of t.sizes.handles (second_handle t.sizes (process core w p))
  unfolding free_handle second_handle
  handle_second p i e = let s = some_of _ _ _ (sym e ∙ handle_first p) in rw (← s.0) (lowest_behind _ _ i _ s.1 (λ k. ap is_none ((h.each p).handles k)))

  pub pipe_is : lowest_free_pipe t ≡ one_of t.sizes.pipes (free_pipe core t.sizes w)
  unfolding free_pipe
  pipe_is = lowest_all _ _ _ (λ j. rw (writes_is j, reads_is j) refl)

  pub children_are : (p : ℕ) → list_any (child_at t p) (range_with_len 0 t.sizes.processes) ≡ some (is_child core w p) t.sizes.processes
  children_are p = any_same _ _ _ _ (child_is p) refl

  pub left_is : (p : ℕ) → lowest_left_child t p ≡ one_of t.sizes.processes (left_child core t.sizes w p)
  unfolding left_child
  left_is p = lowest_all _ _ _ (λ i. rw (child_is p i, (h.each i).state) refl)
