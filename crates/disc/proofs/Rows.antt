-- Rows of writes under a power. Assumes nothing.
use Rattle.std.proofs.Common.{◌≡◌, ℕ, zero, suc, ◌+◌, ◌-◌, false, cond, eqb, ◌≢◌, ◌⊎◌, List, [], ◌∷◌, ◌++◌, length, get_or, set, sym, refl, ap, ◌∙◌, inl, inr, arith}
use Rattle.std.proofs.lemmas.Bool.{ne_eqb}
use Rattle.std.proofs.lemmas.List.{length-set, get_or-set_other}
use Rattle.std.proofs.lemmas.List.FromFn.{map-range_with_len_more}
use Rattle.turns.specs.Promise.{written, torn}
use Rattle.disc.specs.Blocks.{Disc}
use Rattle.disc.specs.Writes.{Write, put_on, spent, puts, spent_by, row_writes, Away}
use Rattle.disc.specs.declared.blocks.Power.{Power}
use Rattle.disc.specs.declared.blocks.Power.TheVariants.{Lasting, Left, Gone}

pub puts_append : (p : Power) (d : Disc) (ws vs : List Write) (t : List ℕ) → puts p d (ws ++ vs) t ≡ puts (spent_by p ws) (puts p d ws t) vs t
unfolding puts spent_by
puts_append p d [] vs t = refl
puts_append p d (w ∷ ws) vs t = puts_append (spent p) (put_on p d w.0 w.1 t) ws vs t

pub spent_by_append : (p : Power) (ws vs : List Write) → spent_by p (ws ++ vs) ≡ spent_by (spent_by p ws) vs
unfolding spent_by
spent_by_append p [] vs = refl
spent_by_append p (w ∷ ws) vs = spent_by_append (spent p) ws vs

pub puts_gone : (d : Disc) (ws : List Write) (t : List ℕ) → puts Gone d ws t ≡ d
unfolding puts
puts_gone d [] t = refl
puts_gone d (w ∷ ws) t = puts_gone d ws t

pub spent_by_gone : (ws : List Write) → spent_by Gone ws ≡ Gone
unfolding spent_by
spent_by_gone [] = refl
spent_by_gone (w ∷ ws) = spent_by_gone ws

pub puts_lasting : (d : Disc) (ws : List Write) (t : List ℕ) → puts Lasting d ws t ≡ written d ws
unfolding puts written
puts_lasting d [] t = refl
puts_lasting d (w ∷ ws) t = puts_lasting (set d w.0 w.1) ws t

-- a power that ends is what a cut leaves
pub puts_left : (m : ℕ) (d : Disc) (ws : List Write) (t : List ℕ) → puts (Left m) d ws t ≡ torn d ws m t
unfolding puts torn
puts_left m d [] t = refl
puts_left zero d (w ∷ ws) t = puts_gone (set d w.0 t) ws t
puts_left (suc m) d (w ∷ ws) t =
    let z : eqb (suc m) 0 ≡ false = ne_eqb (suc m) 0 (λ e. omega arith) in
    let s : suc m - 1 ≡ m = omega arith in
    simp (z, s) (puts_left m (set d w.0 w.1) ws t)

pub length_put_on : (p : Power) (d : Disc) (b : ℕ) (x t : List ℕ) → length (put_on p d b x t) ≡ length d
length_put_on Lasting d b x t = length-set d b x
length_put_on (Left n) d b x t = length-set d b (cond (eqb n 0) t x)
length_put_on Gone d b x t = refl

pub length_puts : (p : Power) (d : Disc) (ws : List Write) (t : List ℕ) → length (puts p d ws t) ≡ length d
unfolding puts
length_puts p d [] t = refl
length_puts p d (w ∷ ws) t = length_puts (spent p) (put_on p d w.0 w.1 t) ws t ∙ length_put_on p d w.0 w.1 t

pub put_on_other : (p : Power) (d : Disc) (b k : ℕ) (x t e : List ℕ) → k ≢ b → get_or (put_on p d b x t) k e ≡ get_or d k e
put_on_other Lasting d b k x t e ne = get_or-set_other d b k x e ne
put_on_other (Left n) d b k x t e ne = get_or-set_other d b k (cond (eqb n 0) t x) e ne
put_on_other Gone d b k x t e ne = refl

pub puts_other : (p : Power) (d : Disc) (ws : List Write) (t : List ℕ) (k : ℕ) (e : List ℕ) → Away k ws → get_or (puts p d ws t) k e ≡ get_or d k e
unfolding puts
puts_other p d [] t k e a = refl
puts_other p d (w ∷ ws) t k e a = puts_other (spent p) (put_on p d w.0 w.1 t) ws t k e a.1 ∙ put_on_other p d w.0 k w.1 t e a.0

-- either the power is gone after the writes, or all of them are done
pub gone_or_done : (p : Power) (d : Disc) (ws : List Write) (t : List ℕ) → (spent_by p ws ≡ Gone) ⊎ (puts p d ws t ≡ written d ws)
unfolding puts spent_by written
gone_or_done p d [] t = inr refl
gone_or_done Lasting d (w ∷ ws) t = inr (puts_lasting (set d w.0 w.1) ws t)
gone_or_done (Left zero) d (w ∷ ws) t = inl (spent_by_gone ws)
gone_or_done (Left (suc n)) d (w ∷ ws) t =
    let z : eqb (suc n) 0 ≡ false = ne_eqb (suc n) 0 (λ e. omega arith) in
    simp z (gone_or_done (Left (suc n - 1)) (set d w.0 w.1) ws t)
gone_or_done Gone d (w ∷ ws) t = inl (spent_by_gone ws)

-- a loop that writes one block after the other
module _ (b : ℕ) (x : ℕ → List ℕ) (p : Power) (d : Disc) (t : List ℕ) where
  row_none : row_writes b x 0 ≡ []
  unfolding row_writes
  row_none = refl

  row_more : (n : ℕ) → row_writes b x (n + 1) ≡ row_writes b x n ++ (b + n, x n) ∷ []
  unfolding row_writes
  row_more n = map-range_with_len_more (λ i. (b + i, x i)) 0 n n (omega arith)

  pub puts_none : d ≡ puts p d (row_writes b x 0) t
  unfolding puts
  puts_none = rw row_none

  pub spent_none : p ≡ spent_by p (row_writes b x 0)
  unfolding spent_by
  spent_none = rw row_none

  pub puts_more : (n : ℕ) → put_on (spent_by p (row_writes b x n)) (puts p d (row_writes b x n) t) (b + n) (x n) t ≡ puts p d (row_writes b x (n + 1)) t
  unfolding puts
  puts_more n = sym (ap (λ ws. puts p d ws t) (row_more n) ∙ puts_append p d (row_writes b x n) ((b + n, x n) ∷ []) t)

  pub spent_more : (n : ℕ) → spent (spent_by p (row_writes b x n)) ≡ spent_by p (row_writes b x (n + 1))
  unfolding spent_by
  spent_more n = sym (ap (spent_by p) (row_more n) ∙ spent_by_append p (row_writes b x n) ((b + n, x n) ∷ []))
