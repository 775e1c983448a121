-- Cases on a test, and an element of a list with one place set. Assumes nothing.
use Rattle.std.proofs.Common.{◌≡◌, ℕ, zero, suc, Bool, true, false, List, [], ◌∷◌, get_or, set, replicate, refl, ap}
use Rattle.std.proofs.lemmas.Bool.{lt-ltb, le-ltb, le-leb, lt-leb, eq-eqb, ne_eqb}
use Rattle.octets.specs.Rows.{pick}

-- what holds of both ways holds of the one that is picked
pub pick_both : {A : Type 0} (P : A → Type 0) (b : Bool) (x y : A) → (b ≡ true → P x) → (b ≡ false → P y) → P (pick b x y)
unfolding pick
pick_both P true x y f g = f refl
pick_both P false x y f g = g refl

pub pick_true : {A : Type 0} (b : Bool) (x y : A) → b ≡ true → pick b x y ≡ x
unfolding pick
pick_true b x y e = rw e

pub pick_false : {A : Type 0} (b : Bool) (x y : A) → b ≡ false → pick b x y ≡ y
unfolding pick
pick_false b x y e = rw e

-- for simp: decides the tests of `pick` from the facts in scope
pub ruleset tests = (pick_true, pick_false, lt-ltb, le-ltb, le-leb, lt-leb, eq-eqb, ne_eqb)

-- an element of a list with one place set; no bound is asked
pub get_or_set_by : {X : Type 0} (P : X → Type 0) (l : List X) (i k : ℕ) (x d : X) → (k ≡ i → P x) → P (get_or l k d) → P (get_or (set l i x) k d)
get_or_set_by P [] i k x d f h = h
get_or_set_by P (y ∷ l) zero zero x d f h = f refl
get_or_set_by P (y ∷ l) zero (suc k) x d f h = h
get_or_set_by P (y ∷ l) (suc i) zero x d f h = h
get_or_set_by P (y ∷ l) (suc i) (suc k) x d f h = get_or_set_by P l i k x d (λ e. f (ap suc e)) h

-- the elements of a list of equals, within it and past it
pub get_or_all : {X : Type 0} (n k : ℕ) (x : X) → get_or (replicate n x) k x ≡ x
get_or_all zero k x = refl
get_or_all (suc n) zero x = refl
get_or_all (suc n) (suc k) x = get_or_all n k x
