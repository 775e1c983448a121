-- The numbers and words by which programs, rows of bytes and what is printed speak of calls, events and states. Assumes nothing: these are definitions.
use Rattle.std.specs.Prelude.{ℕ, List, [], ◌∷◌, ◌++◌, Some, None, codes, decimal, Option}
use Rattle.octets.specs.Words.{word_bytes}
use Rattle.turns.specs.World.{ticks}
use Rattle.turns.specs.declared.vocabulary.State.{State}
use Rattle.turns.specs.declared.vocabulary.State.TheVariants.{Free, Runs, Left}
use Rattle.turns.specs.declared.vocabulary.Call.{Call}
use Rattle.turns.specs.declared.vocabulary.Call.TheVariants.{Leave, Fork, Wait, Exec, Open, Close, Copy, Pipe, Read, Write, Save, End, Unknown}
use Rattle.turns.specs.declared.vocabulary.Event.{Event}
use Rattle.turns.specs.declared.vocabulary.Event.TheVariants as event
use Rattle.turns.specs.declared.vocabulary.Input.{Input}
use Rattle.turns.specs.declared.vocabulary.Input.TheVariants as input

-- a call by its number; every other number is no call
abbrev pub call_number : Call → Option ℕ
call_number (Leave n) = Some 0
call_number Fork = Some 1
call_number Wait = Some 2
call_number (Exec f) = Some 3
call_number (Open f) = Some 4
call_number (Close h) = Some 5
call_number (Copy h g) = Some 6
call_number (Pipe a) = Some 7
call_number (Read h a n) = Some 8
call_number (Write h a n) = Some 9
call_number Save = Some 10
call_number (End h) = Some 11
call_number Unknown = None

-- what is fed to the machine has a kind
abbrev pub input_kind : Input → ℕ
input_kind (input.Ticks n) = 0
input_kind (input.Key t b) = 1
input_kind (input.Cut m b) = 2

-- its bytes: the kind, then numbers, of which a number of ticks or writes has four bytes, the low byte first
abbrev pub input_bytes : Input → List ℕ
input_bytes (input.Ticks n) = 0 ∷ word_bytes n
input_bytes (input.Key t b) = 1 ∷ t ∷ b ∷ []
input_bytes (input.Cut m b) = 2 ∷ word_bytes m ++ b ∷ []

-- the events that it stands for; a cut is no event, but what ends a life
unfoldable pub input_events : Input → List Event
input_events (input.Ticks n) = ticks n
input_events (input.Key t b) = event.Key t b ∷ []
input_events (input.Cut m b) = []

-- how a state is printed
abbrev pub state_words : State → List ℕ
state_words Free = codes "free"
state_words Runs = codes "runs"
state_words (Left n) = codes "left " ++ decimal n
