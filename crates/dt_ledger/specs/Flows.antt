-- The ledgers of all flows, by their flow.
use Rattle.std.specs.Prelude.{List, []}
use Rattle.dt_units.specs.declared.endpoints.Flow.{Flow}
use Rattle.dt_world_model.specs.Ledgers.{FlowLedger, ledger_of}

-- the ledger of a flow, of which nothing stands where it isn't there: runs play no part in it
abbrev pub ledger_in : List (Flow × FlowLedger) → Flow → FlowLedger
ledger_in rows f = ledger_of (record { rows = rows; runs = [] }) f
