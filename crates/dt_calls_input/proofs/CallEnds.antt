-- How calls end whose lines were read so.
use Rattle.std.proofs.Common.{◌≡◌, Bool, true, false, List, Result, Ok, Err, ℕ, refl, ap, sym, subst, ◌∙◌}
use Rattle.dt_edges.specs.Sinks.{SinkSight}
use Rattle.dt_fold.specs.declared.stops.Stop.{Stop}
use Rattle.dt_fold.specs.declared.stops.Stop.TheVariants as stops
use Rattle.dt_fold.specs.Folds.{Folded, fold_input}
use Rattle.dt_fold.specs.Logging.{Fills}
use Rattle.dt_calls_model.specs.Calls.{Calls}
use Rattle.dt_scenario.specs.Scenes.{Empty, Scene, scenario_turns}
use Rattle.dt_calls_input.specs.CallEnds.{CallsEnd, outcome_of}
use Rattle.dt_calls_input.specs.CallInputs.{calls_read, simulates_calls}

calls_read_is : (octets : List ℕ) → fold_input (scenario_turns simulates_calls) Empty octets ≡ calls_read octets
unfolding calls_read
calls_read_is octets = refl

ends_by : (octets : List ℕ) (r : Result Bool Stop) (a b : SinkSight) → Fills (calls_read octets) r a b → CallsEnd (outcome_of r) octets a b
ends_by octets (Ok true) a b f = (sym f.0, f.1, f.2)
ends_by octets (Ok false) a b f = (sym f.0, f.1, f.2)
ends_by octets (Err stops.NoMemory) a b f = f
ends_by octets (Err stops.WriteFault) a b f = f

pub calls_end : (octets : List ℕ) (scene : Scene Calls) (r : Result Bool Stop) (a b : SinkSight) → scene ≡ Empty → Fills (fold_input (scenario_turns simulates_calls) scene octets) r a b → CallsEnd (outcome_of r) octets a b
calls_end octets scene r a b e f =
    ends_by octets r a b (subst (λ (all : Folded (Scene Calls)). Fills all r a b) (ap (λ (s : Scene Calls). fold_input (scenario_turns simulates_calls) s octets) e ∙ calls_read_is octets) f)
