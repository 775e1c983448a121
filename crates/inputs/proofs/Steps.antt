-- One input at a time. Assumes nothing.
use Rattle.std.proofs.Common.{◌≡◌, ℕ, zero, suc, ◌+◌, ◌^◌, ◌<◌, ◌≤◌, Bool, true, false, cond, ◌||◌, eqb, ltb, List, [], ◌∷◌, ◌++◌, length, get_or, drop, Some, None, Option, sym, refl, ap, ◌∙◌, ⊎_elim, arith}
use Rattle.std.specs.List.{flat_map}
use Rattle.std.proofs.lemmas.Bool.{cond_both, cond-true, cond-false, or_left, or_right, or_from, or_parts, cases_lt, ltb-false, lt-ltb, le-ltb, le-leb, lt-leb}
use Rattle.std.proofs.lemmas.List.{drop_all, drop_more}
use Rattle.std.proofs.lemmas.Grind.{common_steps}
use Rattle.std.proofs.lemmas.Option.{none-some, same_Some}
use Rattle.octets.specs.Rows.{Bytes}
use Rattle.octets.specs.Words.{word_at, word_bytes}
use Rattle.octets.proofs.Numbers.{word_back}
use Rattle.turns.specs.Numbers.{input_bytes}
use Rattle.turns.specs.declared.vocabulary.Input.{Input}
use Rattle.inputs.specs.Events.{peeked, length_of, ticks_of, Good, refusal_of, WrittenOut, span, after, input_at, ticks_at, broken, refusal_in, refusal_from, inputs_in, inputs_from}

span_some : (k : ℕ) → 3 ≤ span k
span_some k = cond_both (eqb k 0) _ _ (λ n. 3 ≤ n) (λ _. omega arith) (λ _. cond_both (eqb k 1) _ _ (λ n. 3 ≤ n) (λ _. omega arith) (λ _. omega arith))

-- how many inputs there are at most does not matter, if it is enough
refusal_same : (f g : ℕ) (bs : List ℕ) (i t : ℕ) → length bs ≤ i + f → length bs ≤ i + g → refusal_in f bs i t ≡ refusal_in g bs i t
unfolding refusal_in
refusal_same zero zero bs i t h k = refl
refusal_same zero (suc g) bs i t h k = rw (le-leb (length bs) i (omega arith))
refusal_same (suc f) zero bs i t h k = rw (le-leb (length bs) i (omega arith))
refusal_same (suc f) (suc g) bs i t h k =
    rw (refusal_same f g bs (after bs i) (t + ticks_at bs i) (omega (arith, span_some (get_or bs i 0))) (omega (arith, span_some (get_or bs i 0))))

inputs_same : (f g : ℕ) (bs : List ℕ) (i : ℕ) → length bs ≤ i + f → length bs ≤ i + g → inputs_in f bs i ≡ inputs_in g bs i
unfolding inputs_in
inputs_same zero zero bs i h k = refl
inputs_same zero (suc g) bs i h k = rw (le-leb (length bs) i (omega arith))
inputs_same (suc f) zero bs i h k = rw (le-leb (length bs) i (omega arith))
inputs_same (suc f) (suc g) bs i h k =
    rw (inputs_same f g bs (after bs i) (omega (arith, span_some (get_or bs i 0))) (omega (arith, span_some (get_or bs i 0))))

refusal_open : (f : ℕ) (bs : List ℕ) (i t : ℕ) → length bs ≤ i + f → i < length bs →
    refusal_in f bs i t ≡ cond (broken bs i || ltb (2 ^ 48) (t + ticks_at bs i)) (Some i) (refusal_in f bs (after bs i) (t + ticks_at bs i))
unfolding refusal_in
refusal_open zero bs i t h k = absurd (omega arith)
refusal_open (suc f) bs i t h k =
    rw (lt-leb (length bs) i k, refusal_same f (suc f) bs (after bs i) (t + ticks_at bs i) (omega (arith, span_some (get_or bs i 0))) (omega (arith, span_some (get_or bs i 0))))

pub refusal_step : (bs : List ℕ) (i t : ℕ) → i < length bs →
    refusal_from bs i t ≡ cond (broken bs i || ltb (2 ^ 48) (t + ticks_at bs i)) (Some i) (refusal_from bs (after bs i) (t + ticks_at bs i))
unfolding refusal_from
refusal_step bs i t h = refusal_open (length bs) bs i t (omega arith) h

pub refusal_end : (bs : List ℕ) (i t : ℕ) → length bs ≤ i → refusal_from bs i t ≡ None
unfolding refusal_from refusal_in
refusal_end bs i t h = refusal_same (length bs) 0 bs i t (omega arith) (omega arith)

inputs_open : (f : ℕ) (bs : List ℕ) (i : ℕ) → length bs ≤ i + f → i < length bs → inputs_in f bs i ≡ input_at bs i ∷ inputs_in f bs (after bs i)
unfolding inputs_in
inputs_open zero bs i h k = absurd (omega arith)
inputs_open (suc f) bs i h k =
    rw (lt-leb (length bs) i k, inputs_same f (suc f) bs (after bs i) (omega (arith, span_some (get_or bs i 0))) (omega (arith, span_some (get_or bs i 0))))

pub inputs_step : (bs : List ℕ) (i : ℕ) → i < length bs → inputs_from bs i ≡ input_at bs i ∷ inputs_from bs (after bs i)
unfolding inputs_from
inputs_step bs i h = inputs_open (length bs) bs i (omega arith) h

pub inputs_end : (bs : List ℕ) (i : ℕ) → length bs ≤ i → inputs_from bs i ≡ []
unfolding inputs_from inputs_in
inputs_end bs i h = inputs_same (length bs) 0 bs i (omega arith) (omega arith)

-- what a look at an input says of it
peeked_both : (bs : List ℕ) (i : ℕ) (P : Option Input → Type 0) → (broken bs i ≡ true → P None) → (broken bs i ≡ false → P (Some (input_at bs i))) → P (peeked bs i)
peeked_both bs i P f g = cond_both (broken bs i) None (Some (input_at bs i)) P f g

pub peeked_none : (bs : List ℕ) (i : ℕ) → None ≡ peeked bs i → broken bs i ≡ true
peeked_none bs i = peeked_both bs i (λ o. None ≡ o → broken bs i ≡ true) (λ b _. b) (λ _ e. absurd (none-some _ e))

pub peeked_some : (bs : List ℕ) (i : ℕ) (x : Input) → Some x ≡ peeked bs i → (broken bs i ≡ false) × (x ≡ input_at bs i)
peeked_some bs i x = peeked_both bs i (λ o. Some x ≡ o → (broken bs i ≡ false) × (x ≡ input_at bs i)) (λ _ e. absurd (none-some x (sym e))) (λ b e. (b, same_Some _ _ e))

pub ticks_same : (bs : List ℕ) (i : ℕ) → ticks_of (input_at bs i) ≡ ticks_at bs i
ticks_same bs i = grind (arith, common_steps)

pub after_same : (bs : List ℕ) (i : ℕ) → i + length_of (input_at bs i) ≡ after bs i
after_same bs i = grind (arith, common_steps)

pub refused_broken : (bs : List ℕ) (i t : ℕ) → i < length bs → broken bs i ≡ true → refusal_from bs i t ≡ Some i
refused_broken bs i t h b = refusal_step bs i t h ∙ cond-true _ _ _ (or_left _ _ b)

pub refused_many : (bs : List ℕ) (i t : ℕ) → i < length bs → 2 ^ 48 < t + ticks_at bs i → refusal_from bs i t ≡ Some i
refused_many bs i t h m = refusal_step bs i t h ∙ cond-true _ _ _ (or_right _ _ (lt-ltb (2 ^ 48) (t + ticks_at bs i) m))

pub refusal_on : (bs : List ℕ) (i t : ℕ) → i < length bs → broken bs i ≡ false → t + ticks_at bs i ≤ 2 ^ 48 →
    refusal_from bs i t ≡ refusal_from bs (after bs i) (t + ticks_at bs i)
refusal_on bs i t h b m = refusal_step bs i t h ∙ cond-false _ _ _ (or_from _ _ b (le-ltb (2 ^ 48) (t + ticks_at bs i) m))

pub good_parts : (bs : List ℕ) (i t : ℕ) → i < length bs → Good bs i t → (broken bs i ≡ false) × (t + ticks_at bs i ≤ 2 ^ 48) × Good bs (after bs i) (t + ticks_at bs i)
good_parts bs i t h g = by_cases (broken bs i || ltb (2 ^ 48) (t + ticks_at bs i)) refl
  where
    by_cases : (b : Bool) → (broken bs i || ltb (2 ^ 48) (t + ticks_at bs i)) ≡ b →
        (broken bs i ≡ false) × (t + ticks_at bs i ≤ 2 ^ 48) × Good bs (after bs i) (t + ticks_at bs i)
    by_cases true e = let q : Some i ≡ None = sym (refusal_step bs i t h ∙ cond-true _ _ _ e) ∙ g in let z : ◌≡◌ {A = ℕ} 0 1 = cc in absurd (omega arith)
    by_cases false e =
        let p = or_parts _ _ e in (p.0, ltb-false (2 ^ 48) (t + ticks_at bs i) p.1, sym (refusal_step bs i t h ∙ cond-false _ _ _ e) ∙ g)

drop_next : (bs : List ℕ) (i j : ℕ) → j ≡ i + 1 → i < length bs → drop i bs ≡ get_or bs i 0 ∷ drop j bs
drop_next bs i j e h = rw e (drop_more bs i 0 h)

drop_three : (bs : List ℕ) (i : ℕ) → i + 3 ≤ length bs → drop i bs ≡ get_or bs i 0 ∷ get_or bs (i + 1) 0 ∷ get_or bs (i + 2) 0 ∷ drop (i + 3) bs
drop_three bs i h =
    drop_next bs i (i + 1) refl (omega arith) ∙ ap (λ t. get_or bs i 0 ∷ t) (drop_next bs (i + 1) (i + 2) (omega arith) (omega arith) ∙ ap (λ t. get_or bs (i + 1) 0 ∷ t) (drop_next bs (i + 2) (i + 3) (omega arith) (omega arith)))

drop_five : (bs : List ℕ) (i : ℕ) → i + 5 ≤ length bs →
    drop i bs ≡ get_or bs i 0 ∷ get_or bs (i + 1) 0 ∷ get_or bs (i + 2) 0 ∷ get_or bs (i + 3) 0 ∷ get_or bs (i + 4) 0 ∷ drop (i + 5) bs
drop_five bs i h =
    drop_three bs i (omega arith)
    ∙ ap (λ t. get_or bs i 0 ∷ get_or bs (i + 1) 0 ∷ get_or bs (i + 2) 0 ∷ t)
    (drop_next bs (i + 3) (i + 4) (omega arith) (omega arith) ∙ ap (λ t. get_or bs (i + 3) 0 ∷ t) (drop_next bs (i + 4) (i + 5) (omega arith) (omega arith)))

-- the word behind a kind, written out again
word_out : (bs : List ℕ) (i : ℕ) → Bytes bs → word_bytes (word_at bs (i + 1)) ≡ get_or bs (i + 1) 0 ∷ get_or bs (i + 2) 0 ∷ get_or bs (i + 3) 0 ∷ get_or bs (i + 4) 0 ∷ []
word_out bs i b =
    let e : i + 1 + 1 ≡ i + 2 = omega arith in
    let f : i + 1 + 2 ≡ i + 3 = omega arith in
    let g : i + 1 + 3 ≡ i + 4 = omega arith in
    rw (e, f, g) (word_back (get_or bs (i + 1) 0) (get_or bs (i + 2) 0) (get_or bs (i + 3) 0) (get_or bs (i + 4) 0) (b (i + 1)) (b (i + 2)) (b (i + 3)) (b (i + 4)))

-- an input that is whole is what is written there
input_out : (bs : List ℕ) (i : ℕ) → Bytes bs → broken bs i ≡ false → input_bytes (input_at bs i) ++ drop (after bs i) bs ≡ drop i bs
input_out bs i b h =
    let q = or_parts _ _ h in
    let k : get_or bs i 0 ≤ 2 = ltb-false _ _ q.0 in
    let l : after bs i ≤ length bs = ltb-false _ _ q.1 in
    go (get_or bs i 0) refl k l
  where
    go : (n : ℕ) → get_or bs i 0 ≡ n → n ≤ 2 → after bs i ≤ length bs → input_bytes (input_at bs i) ++ drop (after bs i) bs ≡ drop i bs
    go zero e k l =
        rw e (ap (λ ws. 0 ∷ ws ++ drop (i + 5) bs) (word_out bs i b)
        ∙ sym (drop_five bs i (rw e at l) ∙ ap (λ x. x ∷ get_or bs (i + 1) 0 ∷ get_or bs (i + 2) 0 ∷ get_or bs (i + 3) 0 ∷ get_or bs (i + 4) 0 ∷ drop (i + 5) bs) e))
    go (suc zero) e k l = rw e (sym (drop_three bs i (rw e at l) ∙ ap (λ x. x ∷ get_or bs (i + 1) 0 ∷ get_or bs (i + 2) 0 ∷ drop (i + 3) bs) e))
    go (suc (suc zero)) e k l =
        let m : i + 6 ≤ length bs = rw e at l in
        rw e (ap (λ ws. 2 ∷ (ws ++ get_or bs (i + 5) 0 ∷ []) ++ drop (i + 6) bs) (word_out bs i b)
        ∙ sym (drop_five bs i (omega arith) ∙ ap (λ t. get_or bs i 0 ∷ get_or bs (i + 1) 0 ∷ get_or bs (i + 2) 0 ∷ get_or bs (i + 3) 0 ∷ get_or bs (i + 4) 0 ∷ t) (drop_next bs (i + 5) (i + 6) (omega arith) (omega arith))
        ∙ ap (λ x. x ∷ get_or bs (i + 1) 0 ∷ get_or bs (i + 2) 0 ∷ get_or bs (i + 3) 0 ∷ get_or bs (i + 4) 0 ∷ get_or bs (i + 5) 0 ∷ drop (i + 6) bs) e))
    go (suc (suc (suc n))) e k l = absurd (omega arith)

-- and so is a row of which nothing is refused
out_from : (f : ℕ) (bs : List ℕ) (i t : ℕ) → Bytes bs → length bs ≤ i + f → Good bs i t → flat_map input_bytes (inputs_from bs i) ≡ drop i bs
out_from zero bs i t b l g = rw (inputs_end bs i (omega arith)) (sym (drop_all i bs (omega arith)))
out_from (suc f) bs i t b l g = ⊎_elim
    (λ (h : i < length bs).
    let p = good_parts bs i t h g in
    rw (inputs_step bs i h) (ap (λ r. input_bytes (input_at bs i) ++ r) (out_from f bs (after bs i) (t + ticks_at bs i) b (omega (arith, span_some (get_or bs i 0))) p.2) ∙ input_out bs i b p.0))
    (λ h. rw (inputs_end bs i h) (sym (drop_all i bs h))) (cases_lt i (length bs))

pub written_out : (bs : List ℕ) (r : Option ℕ) → Bytes bs → r ≡ refusal_of bs → r ≡ None → WrittenOut bs
written_out bs r b e q = out_from (length bs) bs 0 0 b (omega arith) (sym e ∙ q)
