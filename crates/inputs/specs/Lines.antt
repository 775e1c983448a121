-- A text line by line. Assumes nothing: these are definitions.
use Rattle.std.specs.Prelude.{ℕ, zero, suc, ◌+◌, if◌then◌else◌, List, length, Ok, Err, Result, nat_le}
use Rattle.inputs.specs.Texts.{found, is_newline}

-- the line that begins at place i of a text ends before this place
abbrev pub line_end : List ℕ → ℕ → ℕ
line_end text i = found is_newline text i (length text)

-- D is what was said so far, W what may be wrong. step line i d: what the line with this number, which begins at place i, makes of d
module _ {D W : Type 0} (text : List ℕ) (step : ℕ → ℕ → D → Result D W) where
  -- what is wrong is wrong in its line; else one goes on
  abbrev pub goes_on : ℕ → Result D W → (D → Result (ℕ × D) (ℕ × W)) → Result (ℕ × D) (ℕ × W)
  goes_on line (Err w) next = Err (line, w)
  goes_on line (Ok d) next = next d

  -- the lines from place i on, of which the first is number `line`, behind d; there are at most n. With what they say comes the number behind the last
  unfoldable pub lines_in : ℕ → ℕ → ℕ → D → Result (ℕ × D) (ℕ × W)
  lines_in zero i line d = Ok (line, d)
  lines_in (suc n) i line d = if nat_le (length text) i then Ok (line, d) else goes_on line (step line i d) (λ e. lines_in n (line_end text i + 1) (line + 1) e)

  unfoldable pub lines_from : ℕ → ℕ → D → Result (ℕ × D) (ℕ × W)
  lines_from i line d = lines_in (length text) i line d

  -- all lines, behind d
  abbrev pub all_lines : D → Result (ℕ × D) (ℕ × W)
  all_lines d = lines_from 0 1 d
