-- The run of a flow as it is kept: the run, and the last three crossings one by one.
use Rattle.std.specs.Prelude.{List, [], ◌∷◌, Option, Some, None}
use Rattle.dt_flow_model.specs.Flow as flows
use Rattle.dt_world_model.specs.Ledgers.{FlowRun}
use Rattle.dt_notes.specs.declared.runs.Run.{Run}
use Rattle.dt_notes.specs.declared.runs.Crossing.{Crossing}

abbrev pub run_seen : Option Run → Option flows.Run
run_seen None = None
run_seen (Some run) = Some (record { base = run.base; began = run.began; sent = run.sent })

abbrev pub crossing_seen : Crossing → flows.Crossing
crossing_seen c = record { place = c.place; moment = c.moment }

-- the last one first. Where one isn't there, none before it is
abbrev pub crossings_seen : (last second third : Option Crossing) → List flows.Crossing
crossings_seen None second third = []
crossings_seen (Some a) None third = crossing_seen a ∷ []
crossings_seen (Some a) (Some b) None = crossing_seen a ∷ crossing_seen b ∷ []
crossings_seen (Some a) (Some b) (Some c) = crossing_seen a ∷ crossing_seen b ∷ crossing_seen c ∷ []

-- a flow that hasn't transmitted
abbrev pub no_run : FlowRun
no_run = record { run = None; crossings = [] }
