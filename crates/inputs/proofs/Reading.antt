-- Searches and numbers, byte by byte. Assumes nothing.
use Rattle.std.proofs.Common.{◌≡◌, ℕ, ◌+◌, ◌-◌, ◌<◌, ◌≤◌, Bool, ltb, List, [], ◌∷◌, length, get_or, drop, Some, None, Option, sym, refl, ap, ◌∙◌, ⊎_elim, arith}
use Rattle.std.specs.Prelude.{find}
use Rattle.std.specs.List.{range_with_len}
use Rattle.std.specs.Option.{unwrap_or}
use Rattle.std.proofs.lemmas.Bool.{cond_both, ltb-true, ltb-false, cases_lt}
use Rattle.std.proofs.lemmas.Option.{none-some, same_Some}
use Rattle.octets.specs.Rows.{lowest_from}
use Rattle.octets.proofs.Chains.{find_range}
use Rattle.octets.proofs.Lowest.{lowest_from_le, lowest_from_ge, lowest_from_holds, lowest_here, lowest_end}
use Rattle.std.proofs.lemmas.List.{drop_more, drop_all}
use Rattle.inputs.specs.Texts.{in_word, found, with_digit, number_after, number_of}
use Rattle.inputs.specs.Lists.{span_at}

-- where there is such a byte at first
pub found_behind : (test : ℕ → Bool) (text : List ℕ) (i e : ℕ) → i ≤ found test text i e
found_behind test text i e = lowest_from_ge _ i _

pub found_within : (test : ℕ → Bool) (text : List ℕ) (i e : ℕ) → i ≤ e → found test text i e ≤ e
found_within test text i e h = omega (arith, lowest_from_le (λ k. test (get_or text k 0)) i (e - i))

-- the first place at which there is such a byte, found by a chain
by_find : (test : ℕ → Bool) (text : List ℕ) (i e : ℕ) → i ≤ e → unwrap_or (find (λ k. test (get_or text k 0)) (range_with_len i (e - i))) e ≡ found test text i e
by_find test text i e h =
    let n : i + (e - i) ≡ e = omega arith in
    let t : ℕ → Bool = λ k. test (get_or text k 0) in
    let l = lowest_from_le t i (e - i) in
    ap (λ o. unwrap_or o e) (find_range t i (e - i))
    ∙ cond_both (ltb (lowest_from t i (e - i)) (i + (e - i))) (Some (lowest_from t i (e - i))) None (λ o. unwrap_or o e ≡ lowest_from t i (e - i)) (λ _. refl) (λ k. let q = ltb-false _ _ k in omega arith)

pub found_by_find : (test : ℕ → Bool) (text : List ℕ) (i e r : ℕ) (o : Option ℕ) → i ≤ e → o ≡ find (λ k. test (get_or text k 0)) (range_with_len i (e - i)) → r ≡ unwrap_or o e →
    (r ≡ found test text i e) × (i ≤ r) × (r ≤ e)
found_by_find test text i e r o h f u =
    let q : r ≡ found test text i e = u ∙ ap (λ x. unwrap_or x e) f ∙ by_find test text i e h in
    (q, omega (arith, q, found_behind test text i e), omega (arith, q, found_within test text i e h))

pub found_none : (test : ℕ → Bool) (text : List ℕ) (i e : ℕ) (o : Option ℕ) → i ≤ e → o ≡ find (λ k. test (get_or text k 0)) (range_with_len i (e - i)) → o ≡ None → found test text i e ≡ e
found_none test text i e o h f n = sym (found_by_find test text i e e o h f (sym (ap (λ x. unwrap_or x e) n))).0

pub found_some : (test : ℕ → Bool) (text : List ℕ) (i e at : ℕ) (o : Option ℕ) → i ≤ e → o ≡ find (λ k. test (get_or text k 0)) (range_with_len i (e - i)) → o ≡ Some at →
    (at ≡ found test text i e) × (at < e)
found_some test text i e at o h f s =
    let t : ℕ → Bool = λ k. test (get_or text k 0) in
    let n : i + (e - i) ≡ e = omega arith in
    cond_both (ltb (lowest_from t i (e - i)) (i + (e - i))) (Some (lowest_from t i (e - i))) None (λ x. x ≡ Some at → (at ≡ lowest_from t i (e - i)) × (at < e))
    (λ k p. let q : lowest_from t i (e - i) ≡ at = same_Some _ _ p in let l = ltb-true _ _ k in (sym q, omega arith))
    (λ _ p. absurd (none-some _ p))
    (sym (find_range t i (e - i)) ∙ sym f ∙ s)

-- from where it is found on, it is found there
found_again : (test : ℕ → Bool) (text : List ℕ) (i e : ℕ) → i ≤ e → found test text (found test text i e) e ≡ found test text i e
found_again test text i e h =
    let t : ℕ → Bool = λ k. test (get_or text k 0) in
    let n : i + (e - i) ≡ e = omega arith in
    ⊎_elim (λ (l : found test text i e < e). lowest_here t (found test text i e) e l (lowest_from_holds t i (e - i) (omega arith))) (λ l. lowest_end t (found test text i e) e l) (cases_lt (found test text i e) e)

-- so the next word is the same from its own place on
pub word_again : (text : List ℕ) (i e : ℕ) → i ≤ e → span_at text (found in_word text i e) e ≡ span_at text i e
word_again text i e h = rw (found_again in_word text i e h) refl

pub number_none : (w : List ℕ) → length w ≡ 0 → number_of w ≡ None
unfolding number_of
number_none [] h = refl
number_none (b ∷ w) h = absurd (omega arith)

number_some : (w : List ℕ) → (length w ≡ 0 → ⊥) → number_of w ≡ number_after 0 w
unfolding number_of
number_some [] h = absurd (h refl)
number_some (b ∷ w) h = refl

number_next : (n m b : ℕ) (bs : List ℕ) → with_digit n b ≡ Some m → number_after n (b ∷ bs) ≡ number_after m bs
unfolding number_after
number_next n m b bs e = rw (e, number_after)

number_stop : (n b : ℕ) (bs : List ℕ) → with_digit n b ≡ None → number_after n (b ∷ bs) ≡ None
unfolding number_after
number_stop n b bs e = rw (e, number_after)

pub number_more : (w : List ℕ) (n m i : ℕ) → i < length w → with_digit n (get_or w i 0) ≡ Some m → number_after n (drop i w) ≡ number_after 0 w → number_after m (drop (i + 1) w) ≡ number_after 0 w
number_more w n m i h e q = sym (ap (number_after n) (drop_more w i 0 h) ∙ number_next n m (get_or w i 0) (drop (i + 1) w) e) ∙ q

pub number_fails : (w : List ℕ) (n i : ℕ) → (length w ≡ 0 → ⊥) → i < length w → with_digit n (get_or w i 0) ≡ None → number_after n (drop i w) ≡ number_after 0 w → None ≡ number_of w
number_fails w n i l h e q = sym (ap (number_after n) (drop_more w i 0 h) ∙ number_stop n (get_or w i 0) (drop (i + 1) w) e) ∙ q ∙ sym (number_some w l)

pub number_ends : (w : List ℕ) (n i : ℕ) → (length w ≡ 0 → ⊥) → length w ≤ i → number_after n (drop i w) ≡ number_after 0 w → Some n ≡ number_of w
unfolding number_after
number_ends w n i l h q = sym (ap (number_after n) (drop_all i w h)) ∙ q ∙ sym (number_some w l)
