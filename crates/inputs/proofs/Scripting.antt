-- What a script says, line by line. Assumes nothing.
use Rattle.std.proofs.Common.{◌≡◌, ℕ, ◌+◌, ◌<◌, ◌≤◌, List, [], ◌∷◌, ◌++◌, length, Some, None, Ok, Err, Option, Result, sym, refl, ap, ◌∙◌, subst, arith}
use Rattle.std.specs.List.{flat_map}
use Rattle.std.proofs.lemmas.List.{flat_map_more}
use Rattle.turns.specs.Numbers.{input_bytes}
use Rattle.turns.specs.declared.vocabulary.Input.{Input}
use Rattle.inputs.specs.Lines.{line_end, lines_from}
use Rattle.inputs.specs.Scripts.{line_of, in_line, brings, script_step, script_of, ScriptRead}
use Rattle.inputs.specs.Walks.{FirstLine}
use Rattle.inputs.specs.declared.lines.Line.{Line}
use Rattle.inputs.specs.declared.lines.Lines.{Lines}
use Rattle.inputs.specs.declared.scripts.ScriptError.{ScriptError}
use Rattle.inputs.specs.declared.scripts.ScriptError.TheVariants as error
use Rattle.inputs.specs.declared.scripts.Wrong.{Wrong}
use Rattle.inputs.proofs.Turns.{at_first, next_at, lines_fail, lines_more, lines_end}

-- what was read so far, before the lines that are left: its inputs, and their bytes in `out`
pub record SoFar (text : List ℕ) (a : Lines) (out : List ℕ) : Type 0 where
  pub here : a.text.now ≡ text
  pub inputs : List Input
  pub rest : lines_from text (script_step text) a.at a.number inputs ≡ script_of text
  pub bytes : out ≡ flat_map input_bytes inputs

pub so_far_none : (text : List ℕ) (a : Lines) (out : List ℕ) → a.text.now ≡ text → a.at ≡ 0 → a.number ≡ 1 → out ≡ [] → SoFar text a out
unfolding script_of
so_far_none text a out e i n o = record { here = e; inputs = []; rest = rw (i, n) refl; bytes = o }

-- what a line says, if nothing is wrong with it, or if something is
said_ok : (n : ℕ) (x : Result (Option Input) Wrong) (o : Option Input) → in_line n x ≡ Ok o → x ≡ Ok o
said_ok n (Ok x) o e = cc
said_ok n (Err w) o e = cc

said_bad : (n : ℕ) (x : Result (Option Input) Wrong) (r : ScriptError) → in_line n x ≡ Err r → (w : Wrong) × (x ≡ Err w) × (error.Line n w ≡ r)
said_bad n (Ok x) r e = let z : ◌≡◌ {A = ℕ} 0 1 = cc in absurd (omega arith)
said_bad n (Err w) r e = (w, refl, cc)

-- one goes on behind a line
goes_on : (text : List ℕ) (a b : Lines) (n : ℕ) (l : Line) (o : Option Input) (is js : List Input) → FirstLine a n l b → a.text.now ≡ text → in_line n (line_of l.text.now l.at l.end) ≡ Ok o → brings (Ok o) is ≡ Ok js →
    lines_from text (script_step text) a.at a.number is ≡ script_of text → lines_from text (script_step text) b.at b.number js ≡ script_of text
goes_on text a b n l o is js t here r e q =
    let h : a.at < length text = rw here at t.more in
    let w : line_of text a.at (line_end text a.at) ≡ Ok o = at_first (λ x i k. line_of x i k ≡ Ok o) text a b n l t here (said_ok n _ o r) in
    let p : lines_from text (script_step text) a.at n is ≡ script_of text = rw t.number q in
    let c : b.number ≡ n + 1 = rw t.number t.count in
    rw (next_at text a b n l t here, c) (sym (lines_more text (script_step text) a.at n is js h (ap (λ y. brings y is) w ∙ e)) ∙ p)

pub so_far_nothing : (text : List ℕ) (a b : Lines) (n : ℕ) (l : Line) (out : List ℕ) → FirstLine a n l b → in_line n (line_of l.text.now l.at l.end) ≡ Ok None → SoFar text a out → SoFar text b out
so_far_nothing text a b n l out t r s = record {
  here = t.same ∙ s.here;
  inputs = s.inputs;
  rest = goes_on text a b n l None s.inputs s.inputs t s.here r refl s.rest;
  bytes = s.bytes;
}

pub so_far_more : (text : List ℕ) (a b : Lines) (n : ℕ) (l : Line) (out new : List ℕ) (x : Input) → FirstLine a n l b → in_line n (line_of l.text.now l.at l.end) ≡ Ok (Some x) → new ≡ out ++ input_bytes x →
    SoFar text a out → SoFar text b new
so_far_more text a b n l out new x t r e s = record {
  here = t.same ∙ s.here;
  inputs = s.inputs ++ x ∷ [];
  rest = goes_on text a b n l (Some x) s.inputs (s.inputs ++ x ∷ []) t s.here r refl s.rest;
  bytes = e ∙ ap (λ bs. bs ++ input_bytes x) s.bytes ∙ flat_map_more input_bytes [] s.inputs x;
}

pub so_far_bad : (text : List ℕ) (a b : Lines) (n : ℕ) (l : Line) (out : List ℕ) (r : ScriptError) → FirstLine a n l b → in_line n (line_of l.text.now l.at l.end) ≡ Err r → SoFar text a out → ScriptRead text (Err r)
so_far_bad text a b n l out r t e s =
    let h : a.at < length text = rw s.here at t.more in
    let w = said_bad n _ r e in
    let v : line_of text a.at (line_end text a.at) ≡ Err w.0 = at_first (λ x i k. line_of x i k ≡ Err w.0) text a b n l t s.here w.1 in
    let q : lines_from text (script_step text) a.at n s.inputs ≡ script_of text = rw t.number s.rest in
    subst (λ k. ScriptRead text (Err k)) w.2 (sym q ∙ lines_fail text (script_step text) a.at n s.inputs w.0 h (ap (λ y. brings y s.inputs) v))

pub so_far_all : (text : List ℕ) (a : Lines) (out : List ℕ) → length a.text.now ≤ a.at → SoFar text a out → (n : ℕ) × (is : List Input) × (script_of text ≡ Ok (n, is)) × (out ≡ flat_map input_bytes is)
so_far_all text a out h s = (a.number, s.inputs, sym s.rest ∙ lines_end text (script_step text) a.at a.number s.inputs (rw s.here at h), s.bytes)
