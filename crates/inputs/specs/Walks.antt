-- One line after the other. Assumes nothing: these are definitions.
use Rattle.std.specs.Prelude.{◌≡◌, ℕ, ◌+◌, ◌-◌, ◌<◌, ◌≤◌, Bool, length, find, Some, None, Option, slice_index}
use Rattle.std.specs.List.{range_with_len}
use Rattle.inputs.specs.Lists.{span_at}
use Rattle.inputs.specs.Lines.{line_end}
use Rattle.inputs.specs.declared.lines.Line.{Line}
use Rattle.inputs.specs.declared.lines.Lines.{Lines}

-- the first place of a line where there is such a byte, if there is one
abbrev pub first : (ℕ → Bool) → Line → Option ℕ
first test l = find (λ k. test (slice_index l.text.now k)) (range_with_len l.at (l.end - l.at))

-- the line from its next word on, if it has one: that word is the next there too
abbrev pub AtWord : Line → Option Line → Type 0
AtWord a None = (span_at a.text.now a.at a.end).from ≡ a.end
AtWord a (Some b) = (b.at < b.end) × (b.at ≡ (span_at a.text.now a.at a.end).from) × (b.text.now ≡ a.text.now) × (b.end ≡ a.end) × (span_at b.text.now b.at b.end ≡ span_at a.text.now a.at a.end)

-- of the lines a, the first is line l with number n, and b are the others
pub record FirstLine (a : Lines) (n : ℕ) (l : Line) (b : Lines) : Type 0 where
  pub more : a.at < length a.text.now
  pub number : n ≡ a.number
  pub text : l.text.now ≡ a.text.now
  pub at : l.at ≡ a.at
  pub end : l.end ≡ line_end a.text.now a.at
  pub same : b.text.now ≡ a.text.now
  pub next : b.at ≡ l.end + 1
  pub count : b.number ≡ a.number + 1

-- what a call gives: the first of the lines that are left, with its number, if there are any
abbrev pub NextLine : Lines → Option (ℕ × Line) → Lines → Type 0
NextLine a None b = (length a.text.now ≤ a.at) × (b ≡ a)
NextLine a (Some x) b = FirstLine a x.0 x.1 b
