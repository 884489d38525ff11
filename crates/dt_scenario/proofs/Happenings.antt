-- What a line does in a simulation it does in its scenario, and what it makes happen can happen.
use Rattle.std.proofs.Common.{◌≡◌, Option, Some, None, Result, Ok, Err, ap, refl}
use Rattle.dt_edges.specs.Sinks.{SinkSight}
use Rattle.dt_reports.specs.declared.faults.Fault.{Fault}
use Rattle.dt_fold.specs.declared.stops.Stop.{Stop}
use Rattle.dt_fold.specs.Folds.{Turned}
use Rattle.dt_fold.specs.Logging.{TurnsTo}
use Rattle.dt_text.specs.declared.lines.WorldLine.{WorldLine}
use Rattle.dt_text.specs.declared.lines.WorldLine.TheVariants as worlds
use Rattle.dt_world_model.specs.WorldFacts.{CanHappen}
use Rattle.dt_scenario.specs.Scenes.{Runs, by_run, event_by}

pub happening_turns : {K S : Type 0} (sight : K → SinkSight) (turn : Result (Turned S) Fault) (r : Result (Option Fault) Stop) (before after : S) (old new : K) → TurnsTo sight turn r before after old new → TurnsTo sight (by_run turn) r (Runs before) (Runs after) old new
happening_turns sight (Ok t) (Ok None) before after old new h = (ap Runs h.0, h.1)
happening_turns sight (Err fault) (Ok None) before after old new h = absurd h
happening_turns sight (Ok t) (Ok (Some fault)) before after old new h = let e = h.0 in absurd cc
happening_turns sight (Err why) (Ok (Some fault)) before after old new h = let e = h.0 in let same : why ≡ fault = cc in (ap Err same, ap Runs h.1, h.2)
happening_turns sight (Ok t) (Err stop) before after old new h = h
happening_turns sight (Err why) (Err stop) before after old new h = h

-- what the lines of a world make happen can happen in any
pub can_happen : (line : WorldLine) → CanHappen (event_by line)
can_happen (worlds.Pass by) = tt
can_happen line = search refl
