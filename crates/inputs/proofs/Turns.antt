-- A text line by line, one at a time. Assumes nothing.
use Rattle.std.proofs.Common.{◌≡◌, ℕ, zero, suc, ◌+◌, ◌<◌, ◌≤◌, cond, leb, List, length, Ok, Err, Result, sym, refl, ap, ◌∙◌, arith}
use Rattle.std.proofs.lemmas.Bool.{cond-true, cond-false, le-leb, lt-leb}
use Rattle.inputs.proofs.Reading.{found_behind}
use Rattle.inputs.specs.Texts.{is_newline}
use Rattle.inputs.specs.Walks.{FirstLine}
use Rattle.inputs.specs.declared.lines.Line.{Line}
use Rattle.inputs.specs.declared.lines.Lines.{Lines}
use Rattle.inputs.specs.Lines.{line_end, goes_on, lines_in, lines_from}

-- a line ends no earlier than it begins
end_behind : (text : List ℕ) (i : ℕ) → i ≤ line_end text i
end_behind text i = found_behind is_newline text i (length text)

-- what is so of the next line is so of that line's place in the text
pub at_first : (P : List ℕ → ℕ → ℕ → Type 0) (text : List ℕ) (a b : Lines) (n : ℕ) (l : Line) → FirstLine a n l b → a.text.now ≡ text → P l.text.now l.at l.end → P text a.at (line_end text a.at)
at_first P text a b n l t e p = rw (t.text, t.at, t.end, e) at p

pub next_at : (text : List ℕ) (a b : Lines) (n : ℕ) (l : Line) → FirstLine a n l b → a.text.now ≡ text → b.at ≡ line_end text a.at + 1
next_at text a b n l t e = rw (t.next, t.end, e) refl

module _ {D W : Type 0} (text : List ℕ) (step : ℕ → ℕ → D → Result D W) where
  goes_same : (line : ℕ) (r : Result D W) (f g : D → Result (ℕ × D) (ℕ × W)) → ((d : D) → f d ≡ g d) → goes_on text step line r f ≡ goes_on text step line r g
  goes_same line (Err w) f g h = refl
  goes_same line (Ok d) f g h = h d

  -- how many lines there are at most does not matter, if it is enough
  lines_same : (m n : ℕ) (i line : ℕ) (d : D) → length text ≤ i + m → length text ≤ i + n → lines_in text step m i line d ≡ lines_in text step n i line d
  unfolding lines_in
  lines_same zero zero i line d h k = refl
  lines_same zero (suc n) i line d h k = sym (cond-true _ _ _ (le-leb (length text) i (omega arith)))
  lines_same (suc m) zero i line d h k = cond-true _ _ _ (le-leb (length text) i (omega arith))
  lines_same (suc m) (suc n) i line d h k =
      ap (λ (r : Result (ℕ × D) (ℕ × W)). cond (leb (length text) i) (Ok (line, d)) r)
      (goes_same line (step line i d) _ _ (λ e. lines_same m n (line_end text i + 1) (line + 1) e (omega (arith, end_behind text i)) (omega (arith, end_behind text i))))

  lines_open : (n i line : ℕ) (d : D) → length text ≤ i + n → i < length text →
      lines_in text step n i line d ≡ goes_on text step line (step line i d) (λ e. lines_in text step n (line_end text i + 1) (line + 1) e)
  unfolding lines_in
  lines_open zero i line d h k = absurd (omega arith)
  lines_open (suc n) i line d h k =
      cond-false _ _ _ (lt-leb (length text) i k)
      ∙ goes_same line (step line i d) _ _ (λ e. lines_same n (suc n) (line_end text i + 1) (line + 1) e (omega (arith, end_behind text i)) (omega (arith, end_behind text i)))

  -- a line is wrong
  pub lines_fail : (i line : ℕ) (d : D) (w : W) → i < length text → step line i d ≡ Err w → lines_from text step i line d ≡ Err (line, w)
  unfolding lines_from
  lines_fail i line d w h e =
      lines_open (length text) i line d (omega arith) h ∙ ap (λ (x : Result D W). goes_on text step line x (λ e. lines_in text step (length text) (line_end text i + 1) (line + 1) e)) e

  -- a line is right, and one goes on behind its end
  pub lines_more : (i line : ℕ) (d e : D) → i < length text → step line i d ≡ Ok e → lines_from text step i line d ≡ lines_from text step (line_end text i + 1) (line + 1) e
  unfolding lines_from
  lines_more i line d e h q =
      lines_open (length text) i line d (omega arith) h ∙ ap (λ (x : Result D W). goes_on text step line x (λ e. lines_in text step (length text) (line_end text i + 1) (line + 1) e)) q

  -- there is no more
  pub lines_end : (i line : ℕ) (d : D) → length text ≤ i → lines_from text step i line d ≡ Ok (line, d)
  unfolding lines_from lines_in
  lines_end i line d h = lines_same (length text) 0 i line d (omega arith) (omega arith)
