-- When a run ends by its stop.
use Rattle.std.specs.Prelude.{◌≡◌, ◌⊎◌, ℕ, ◌<◌, List, [], ◌∷◌, map, Some}
use Rattle.std.specs.List.{range_with_len}
use Rattle.dt_edges.specs.Clocks.{reading_at}
use Rattle.dt_edges.specs.Counts.{HasRisen}
use Rattle.dt_node.specs.declared.outcomes.NodeOutcome.{NodeOutcome}
use Rattle.dt_node.specs.declared.outcomes.NodeOutcome.TheVariants.{Done, NoMemory}
use Rattle.dt_node.specs.declared.watch.Watch.{Watch}
use Rattle.dt_script.specs.Drafts.{script_of}
use Rattle.dt_script.specs.Orders.{Orders}
use Rattle.dt_node.specs.Runs.{first_watch, moment, most_equal, next_watch}
use Rattle.dt_node.specs.Serving.{Edges}

-- the watch after more readings
abbrev pub watch_on : Watch → List ℕ → Watch
watch_on watch [] = watch
watch_on watch (r ∷ rs) = watch_on (next_watch r watch) rs

-- the watch of the turn with this number, counted from 0, by the planned readings
abbrev pub planned_watch : List ℕ → ℕ → Watch
planned_watch plan n = watch_on (first_watch (reading_at plan 0)) (map (reading_at plan) (range_with_len 1 n))

-- The planned readings reach the stop: before it no 100,000 turns running have the same moment.
abbrev pub ReachesStop : (stop : ℕ) → List ℕ → Type 0
ReachesStop stop plan = (n : ℕ) → moment (planned_watch plan n) < stop → (planned_watch plan n).equal < most_equal

-- COMPLETENESS: the run of an accepted script over a clock that wasn't called before and reaches the stop, where neither an open or a take nor a put failed, meets the stop, unless it wants memory.
abbrev pub Completes : List ℕ → NodeOutcome → Edges → Edges → Type 0
Completes octets outcome before after =
    (o : Orders) (plan : List ℕ) → script_of octets ≡ Some o → before.clock.plan ≡ Some plan → before.clock.readings ≡ Some [] → ReachesStop o.stop plan →
    (HasRisen before.wire.take_faults after.wire.take_faults → ⊥) → (HasRisen before.faults after.faults → ⊥) → (outcome ≡ Done) ⊎ (outcome ≡ NoMemory)
