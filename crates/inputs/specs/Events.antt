-- What a row of bytes means as events: one input after the other; and where such a row is refused. Assumes nothing: these are definitions.
use Rattle.std.specs.Prelude.{◌≡◌, ℕ, zero, suc, ◌+◌, ◌^◌, Bool, if◌then◌else◌, ◌||◌, List, [], ◌∷◌, length, Some, None, Option, ◌==◌, nat_le, nat_lt, slice_index}
use Rattle.std.specs.List.{flat_map}
use Rattle.octets.specs.Words.{word_at}
use Rattle.turns.specs.Numbers.{input_bytes}
use Rattle.turns.specs.declared.vocabulary.Input.{Input}
use Rattle.turns.specs.declared.vocabulary.Input.TheVariants.{Ticks, Key, Cut}

-- how many bytes an input of the kind has
abbrev pub span : ℕ → ℕ
span k = if k == 0 then 5 else if k == 1 then 3 else 6

-- where the input at i ends
abbrev pub after : List ℕ → ℕ → ℕ
after bs i = i + span (slice_index bs i)

-- the input at i, by its kind
abbrev pub input_at : List ℕ → ℕ → Input
input_at bs i =
    if slice_index bs i == 0 then Ticks (word_at bs (i + 1))
    else if slice_index bs i == 1 then Key (slice_index bs (i + 1)) (slice_index bs (i + 2))
    else Cut (word_at bs (i + 1)) (slice_index bs (i + 5))

-- how many ticks it brings
abbrev pub ticks_at : List ℕ → ℕ → ℕ
ticks_at bs i = if slice_index bs i == 0 then word_at bs (i + 1) else 0

-- no such kind, or cut short
abbrev pub broken : List ℕ → ℕ → Bool
broken bs i = nat_lt 2 (slice_index bs i) || nat_lt (length bs) (after bs i)

-- the input at i, if it is not broken
abbrev pub peeked : List ℕ → ℕ → Option Input
peeked bs i = if broken bs i then None else Some (input_at bs i)

-- how many bytes an input has, and how many ticks it brings
abbrev pub length_of : Input → ℕ
length_of (Ticks n) = 5
length_of (Key t b) = 3
length_of (Cut m b) = 6

abbrev pub ticks_of : Input → ℕ
ticks_of (Ticks n) = n
ticks_of (Key t b) = 0
ticks_of (Cut m b) = 0

-- the first input from i on, behind t ticks, that is broken or brings more than 2^48 ticks in all; there are at most n inputs
unfoldable pub refusal_in : ℕ → List ℕ → ℕ → ℕ → Option ℕ
refusal_in zero bs i t = None
refusal_in (suc n) bs i t =
    if nat_le (length bs) i then None
    else if broken bs i || nat_lt (2 ^ 48) (t + ticks_at bs i) then Some i
    else refusal_in n bs (after bs i) (t + ticks_at bs i)

unfoldable pub refusal_from : List ℕ → ℕ → ℕ → Option ℕ
refusal_from bs i t = refusal_in (length bs) bs i t

-- REFUSAL 6: the first byte of the first event that is refused
abbrev pub refusal_of : List ℕ → Option ℕ
refusal_of bs = refusal_from bs 0 0

-- the inputs from i on; there are at most n
unfoldable pub inputs_in : ℕ → List ℕ → ℕ → List Input
inputs_in zero bs i = []
inputs_in (suc n) bs i = if nat_le (length bs) i then [] else input_at bs i ∷ inputs_in n bs (after bs i)

unfoldable pub inputs_from : List ℕ → ℕ → List Input
inputs_from bs i = inputs_in (length bs) bs i

-- what a row that is not refused means
abbrev pub inputs_of : List ℕ → List Input
inputs_of bs = inputs_from bs 0

-- it is its inputs, each written out, one after the other
abbrev pub WrittenOut : List ℕ → Type 0
WrittenOut bs = flat_map input_bytes (inputs_of bs) ≡ bs

-- nothing from i on is refused, behind t ticks
abbrev pub Good : List ℕ → ℕ → ℕ → Type 0
Good bs i t = refusal_from bs i t ≡ None
