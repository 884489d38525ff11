-- How a replay ends, and what the log holds then.
use Rattle.std.specs.Prelude.{ℕ, ◌≡◌, true, false, List, Bool, Result, Ok, Err}
use Rattle.dt_edges.specs.Counts.{HasRisen}
use Rattle.dt_edges.specs.Sinks.{SinkSight}
use Rattle.dt_fold.specs.Logging.{HasAll, HasPart}
use Rattle.dt_fold.specs.declared.stops.Stop.{Stop}
use Rattle.dt_fold.specs.declared.stops.Stop.TheVariants as stops
use Rattle.dt_replay.specs.declared.outcomes.Outcome.{Outcome}
use Rattle.dt_replay.specs.declared.outcomes.Outcome.TheVariants as outcome
use Rattle.dt_replay.specs.Schedules.{is_accepted, replay_text}

-- The whole log is there, or a first part of it. Want of memory comes of no failed put, and an answer for a failed put only where the sink's count of faults rose.
abbrev pub Replays : Outcome → List ℕ → SinkSight → SinkSight → Type 0
Replays outcome.Done octets before after = (is_accepted octets ≡ true) × HasAll (replay_text octets) before after × (after.faults ≡ before.faults)
Replays outcome.Refused octets before after = (is_accepted octets ≡ false) × HasAll (replay_text octets) before after × (after.faults ≡ before.faults)
Replays outcome.NoMemory octets before after = HasPart (replay_text octets) before after × (after.faults ≡ before.faults)
Replays outcome.WriteFault octets before after = HasPart (replay_text octets) before after × HasRisen before.faults after.faults

-- how a replay ends whose lines were read so
abbrev pub outcome_of : Result Bool Stop → Outcome
outcome_of (Ok true) = outcome.Done
outcome_of (Ok false) = outcome.Refused
outcome_of (Err stops.NoMemory) = outcome.NoMemory
outcome_of (Err stops.WriteFault) = outcome.WriteFault
