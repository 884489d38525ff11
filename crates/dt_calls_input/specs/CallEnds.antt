-- How the reading of an input of calls ends, and what is written then.
use Rattle.std.specs.Prelude.{ℕ, ◌≡◌, true, false, List, Bool, Result, Ok, Err}
use Rattle.dt_edges.specs.Counts.{HasRisen}
use Rattle.dt_edges.specs.Sinks.{SinkSight}
use Rattle.dt_fold.specs.Logging.{HasAll, HasPart}
use Rattle.dt_fold.specs.declared.stops.Stop.{Stop}
use Rattle.dt_fold.specs.declared.stops.Stop.TheVariants as stops
use Rattle.dt_calls_input.specs.declared.outcomes.CallsOutcome.{CallsOutcome}
use Rattle.dt_calls_input.specs.declared.outcomes.CallsOutcome.TheVariants as outcome
use Rattle.dt_calls_input.specs.CallInputs.{are_calls_accepted, calls_text}

-- The whole text is there, or a first part of it. Want of memory comes of no failed put, and an answer for a failed put only where the sink's count of faults rose.
abbrev pub CallsEnd : CallsOutcome → List ℕ → SinkSight → SinkSight → Type 0
CallsEnd outcome.Done octets before after = (are_calls_accepted octets ≡ true) × HasAll (calls_text octets) before after × (after.faults ≡ before.faults)
CallsEnd outcome.Refused octets before after = (are_calls_accepted octets ≡ false) × HasAll (calls_text octets) before after × (after.faults ≡ before.faults)
CallsEnd outcome.NoMemory octets before after = HasPart (calls_text octets) before after × (after.faults ≡ before.faults)
CallsEnd outcome.WriteFault octets before after = HasPart (calls_text octets) before after × HasRisen before.faults after.faults

-- how calls end whose lines were read so
abbrev pub outcome_of : Result Bool Stop → CallsOutcome
outcome_of (Ok true) = outcome.Done
outcome_of (Ok false) = outcome.Refused
outcome_of (Err stops.NoMemory) = outcome.NoMemory
outcome_of (Err stops.WriteFault) = outcome.WriteFault
