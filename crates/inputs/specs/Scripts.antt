-- What a script says, line by line. Assumes nothing: these are definitions.
use Rattle.std.specs.Prelude.{◌≡◌, ℕ, Bool, if◌then◌else◌, ◌&&◌, ◌||◌, List, [], ◌∷◌, ◌++◌, length, drop, Some, None, Ok, Err, vec_items, codes, Option, Result, Vec, ◌==◌, nat_le, nat_lt, slice_index}
use Rattle.std.specs.Str.{bytes_eq}
use Rattle.std.specs.List.{flat_map}
use Rattle.std.specs.declared.alloc.Global.{Global}
use Rattle.inputs.specs.declared.scripts.ScriptError.{ScriptError}
use Rattle.inputs.specs.declared.scripts.ScriptError.TheVariants as error
use Rattle.turns.specs.Numbers.{input_bytes}
use Rattle.turns.specs.declared.vocabulary.Input.{Input}
use Rattle.turns.specs.declared.vocabulary.Input.TheVariants.{Ticks, Key, Cut}
use Rattle.inputs.specs.Texts.{number_of}
use Rattle.inputs.specs.Lines.{line_end, all_lines}
use Rattle.inputs.specs.Lists.{span_at, part}
use Rattle.inputs.specs.declared.lists.Span.{Span}
use Rattle.inputs.specs.declared.scripts.Wrong.{Wrong}
use Rattle.inputs.specs.declared.scripts.Wrong.TheVariants.{UnknownWord, NoNumber, NoByte, NoKey, TooManyWords}

-- a number that is a byte
abbrev pub byte_in : Option ℕ → Option ℕ
byte_in None = None
byte_in (Some n) = if nat_lt n 256 then Some n else None

abbrev pub byte_of : List ℕ → Option ℕ
byte_of word = byte_in (number_of word)

-- one printable character; a `#` with something behind it
abbrev pub is_printable : List ℕ → Bool
is_printable word = length word == 1 && (nat_lt 32 (slice_index word 0) && nat_le (slice_index word 0) 126)

abbrev pub is_numbered : List ℕ → Bool
is_numbered word = nat_lt 1 (length word) && slice_index word 0 == 35

-- the key that a word stands for: itself, if it is one printable character; else, behind a `#`, the number of a byte
abbrev pub key_of : List ℕ → Option ℕ
key_of word = if is_printable word then Some (slice_index word 0) else if is_numbered word then byte_of (drop 1 word) else None

-- there is no more in the line up to before e: only blanks, or a comment
abbrev pub is_over : List ℕ → ℕ → ℕ → Bool
is_over text i e = (span_at text i e).from == e || slice_index text (span_at text i e).from == 35

abbrev pub ticks_line : Option ℕ → Bool → Result (Option Input) Wrong
ticks_line None over = Err NoNumber
ticks_line (Some n) over = if over then Ok (Some (Ticks n)) else Err TooManyWords

abbrev pub key_line : Option ℕ → Option ℕ → Bool → Result (Option Input) Wrong
key_line None key over = Err NoByte
key_line (Some t) None over = Err NoKey
key_line (Some t) (Some b) over = if over then Ok (Some (Key t b)) else Err TooManyWords

abbrev pub cut_line : Option ℕ → Option ℕ → Bool → Result (Option Input) Wrong
cut_line None fill over = Err NoNumber
cut_line (Some m) None over = Err NoByte
cut_line (Some m) (Some b) over = if over then Ok (Some (Cut m b)) else Err TooManyWords

-- by the first word of the line, with the second and the third
abbrev pub line_by : List ℕ → ℕ → Span → Span → Span → Result (Option Input) Wrong
line_by text e one two three =
    if bytes_eq (part text one) (codes "ticks") then ticks_line (number_of (part text two)) (is_over text two.to e)
    else if bytes_eq (part text one) (codes "key") then key_line (byte_of (part text two)) (key_of (part text three)) (is_over text three.to e)
    else if bytes_eq (part text one) (codes "cut") then cut_line (number_of (part text two)) (byte_of (part text three)) (is_over text three.to e) else Err UnknownWord

-- what the line says that is in a text from place i up to before e
abbrev pub line_of : List ℕ → ℕ → ℕ → Result (Option Input) Wrong
line_of text i e =
    if is_over text i e then Ok None else line_by text e (span_at text i e) (span_at text (span_at text i e).to e) (span_at text (span_at text (span_at text i e).to e).to e)

-- what is wrong is wrong in the line with this number
abbrev pub in_line : ℕ → Result (Option Input) Wrong → Result (Option Input) ScriptError
in_line line (Ok o) = Ok o
in_line line (Err w) = Err (error.Line line w)

-- what a line brings behind inputs that there are, or that it is wrong
abbrev pub brings : Result (Option Input) Wrong → List Input → Result (List Input) Wrong
brings (Ok None) is = Ok is
brings (Ok (Some x)) is = Ok (is ++ x ∷ [])
brings (Err w) is = Err w

-- what the line that begins at place i makes of inputs that there are
abbrev pub script_step : List ℕ → ℕ → ℕ → List Input → Result (List Input) Wrong
script_step text line i is = brings (line_of text i (line_end text i)) is

-- WHAT A SCRIPT SAYS: inputs, with the number of the line behind the last; or the first line that is wrong
unfoldable pub script_of : List ℕ → Result (ℕ × List Input) (ℕ × Wrong)
script_of text = all_lines text (script_step text) []

-- it was read: its inputs, each written out, one after the other; or the first line that is wrong; nothing is said where memory was wanting
abbrev pub ScriptRead : List ℕ → Result (Vec ℕ Global) ScriptError → Type 0
ScriptRead text (Ok v) = (n : ℕ) × (is : List Input) × (script_of text ≡ Ok (n, is)) × (vec_items v ≡ flat_map input_bytes is)
ScriptRead text (Err (error.Line line w)) = script_of text ≡ Err (line, w)
ScriptRead text (Err error.NoMemory) = Unit {0}
