-- How the numbers of a log name places.
use Rattle.std.specs.Prelude.{◌-◌, ◌≤◌, ◌≡◌, Option, Some, None}
use Rattle.dt_units.specs.declared.parameters.Params.{Params}
use Rattle.dt_flow_model.specs.Flow.{Run}
use Rattle.dt_flow_model.specs.Numbering.{number_of}
use Rattle.dt_audit.specs.LogRows.{FlowLog}

-- The number after the last one that was sent is that of the place after its own, in the present run. Before the first transmission nothing was sent.
abbrev pub IsNumbered : Params → Option Run → FlowLog → Type 0
IsNumbered p None log = log.edge ≡ 0
IsNumbered p (Some run) log = (run.base ≤ log.edge) × (log.next ≡ number_of p (log.edge - run.base))
