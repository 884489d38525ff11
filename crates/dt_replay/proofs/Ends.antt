-- How a replay ends whose lines were read so.
use Rattle.std.proofs.Common.{◌≡◌, Bool, true, false, List, Result, Ok, Err, ℕ, refl, ap, sym, subst, ◌∙◌}
use Rattle.dt_edges.specs.Sinks.{SinkSight}
use Rattle.dt_fold.specs.declared.stops.Stop.{Stop}
use Rattle.dt_fold.specs.declared.stops.Stop.TheVariants as stops
use Rattle.dt_fold.specs.Folds.{Folded, fold_input}
use Rattle.dt_fold.specs.Logging.{Fills}
use Rattle.dt_replay.specs.Replays.{Replays, outcome_of}
use Rattle.dt_world_model.specs.World.{World}
use Rattle.dt_scenario.specs.Scenes.{Empty, Scene, scenario_turns}
use Rattle.dt_replay.specs.Schedules.{replayed, simulates_world}

replayed_is : (octets : List ℕ) → fold_input (scenario_turns simulates_world) Empty octets ≡ replayed octets
unfolding replayed
replayed_is octets = refl

ends_by : (octets : List ℕ) (r : Result Bool Stop) (a b : SinkSight) → Fills (replayed octets) r a b → Replays (outcome_of r) octets a b
ends_by octets (Ok true) a b f = (sym f.0, f.1, f.2)
ends_by octets (Ok false) a b f = (sym f.0, f.1, f.2)
ends_by octets (Err stops.NoMemory) a b f = f
ends_by octets (Err stops.WriteFault) a b f = f

pub replay_ends : (octets : List ℕ) (scene : Scene World) (r : Result Bool Stop) (a b : SinkSight) → scene ≡ Empty → Fills (fold_input (scenario_turns simulates_world) scene octets) r a b → Replays (outcome_of r) octets a b
replay_ends octets scene r a b e f =
    ends_by octets r a b (subst (λ (all : Folded (Scene World)). Fills all r a b) (ap (λ (s : Scene World). fold_input (scenario_turns simulates_world) s octets) e ∙ replayed_is octets) f)
