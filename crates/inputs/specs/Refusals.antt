-- What is refused before anything is done, in this order: a disc, too few frames, events. Assumes nothing: these are definitions.
use Rattle.std.specs.Prelude.{ℕ, List, Some, None, Option}
use Rattle.disc.specs.Check as disc
use Rattle.disc.specs.declared.check.Refusal.{Refusal}
use Rattle.disc.specs.declared.check.Refusal.TheVariants.{Event}
use Rattle.inputs.specs.Events.{refusal_of}

-- a place at which events are refused, as a refusal
abbrev pub by_events : Option ℕ → Option Refusal
by_events None = None
by_events (Some place) = Some (Event place)

-- the first of two refusals
abbrev pub either : Option Refusal → Option Refusal → Option Refusal
either None second = second
either (Some r) second = Some r

-- REFUSALS 1 TO 6
abbrev pub first_refusal : List ℕ → ℕ → List ℕ → Option Refusal
first_refusal d lent events = either (disc.refusal_of d lent) (by_events (refusal_of events))
