-- Words, numbers and lines in a text. Assumes nothing: these are definitions.
use Rattle.std.specs.Prelude.{ℕ, ◌+◌, ◌-◌, ◌*◌, Bool, if◌then◌else◌, not, ◌||◌, List, [], ◌∷◌, Some, None, Ok, Err, Option, Result, ◌==◌, nat_lt, slice_index}
use Rattle.octets.specs.Rows.{lowest_from}

-- a space, a tab or a carriage return
abbrev pub is_blank : ℕ → Bool
is_blank b = b == 32 || (b == 9 || b == 13)

-- anything else is in a word
abbrev pub in_word : ℕ → Bool
in_word b = not (is_blank b)

abbrev pub is_newline : ℕ → Bool
is_newline b = b == 10

abbrev pub is_hash : ℕ → Bool
is_hash b = b == 35

-- the first place from i on and before e where there is such a byte; e if there is none
abbrev pub found : (ℕ → Bool) → List ℕ → ℕ → ℕ → ℕ
found test bs i e = lowest_from (λ k. test (slice_index bs k)) i (e - i)

-- a number with one decimal digit more; none if it is no digit, or 32 bits do not hold the number
abbrev pub with_digit : ℕ → ℕ → Option ℕ
with_digit n b = if nat_lt b 48 || nat_lt 57 b then None else if nat_lt 4294967295 (n * 10 + (b - 48)) then None else Some (n * 10 + (b - 48))

-- the number that these digits write behind n
unfoldable pub number_after : ℕ → List ℕ → Option ℕ
number_after n [] = Some n
number_after n (b ∷ bs) = elim (with_digit n b) [ None ↦ None | Some m ↦ number_after m bs ]

-- the number that a word writes
unfoldable pub number_of : List ℕ → Option ℕ
number_of [] = None
number_of (b ∷ bs) = number_after 0 (b ∷ bs)

-- nothing more may stand in a line; this is wrong if something does
abbrev pub at_end : {E : Type 0} → Bool → E → Result Unit E
at_end over wrong = if over then Ok tt else Err wrong
