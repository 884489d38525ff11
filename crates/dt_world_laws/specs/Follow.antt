-- How the ledger of a flow follows what is reported of it.
use Rattle.std.specs.Prelude.{ℕ, ◌≡◌, List}
use Rattle.dt_items.specs.declared.item.Item.{Item}
use Rattle.dt_units.specs.declared.parameters.Params.{Params}
use Rattle.dt_reports.specs.Told.{Told}
use Rattle.dt_flow_model.specs.Flow.{FlowState}
use Rattle.dt_world_model.specs.Ledgers.{Changes, Effect, FlowLedger, FlowRun, Leaves, Neither, Occasion, effect_of, ledger_after, run_with}

-- what a flow's state has of its ledger, and of its run
abbrev pub flow_ledger : FlowState → FlowLedger
flow_ledger s = record { taken = s.taken; given = s.given; reads = s.reads }

abbrev pub flow_run : FlowState → FlowRun
flow_run s = record { run = s.run; crossings = s.crossings }

-- both after a report of the flow
abbrev pub changed_by : Occasion → Effect → FlowState → FlowLedger × FlowRun
changed_by o (Changes f change) s = (ledger_after o change (flow_ledger s), run_with o change (flow_ledger s) (flow_run s))
changed_by o (Leaves link life) s = (flow_ledger s, flow_run s)
changed_by o Neither s = (flow_ledger s, flow_run s)

-- THE LEDGER FOLLOWS a change of the flow: the report makes it what it is after it
abbrev pub IsFollowed : Occasion → Told → FlowState → FlowState → Type 0
IsFollowed o told s after = changed_by o (effect_of told) s ≡ (flow_ledger after, flow_run after)

-- an event at the flow's sending station, and at its receiving one, with the octets and the place that it brings
abbrev pub at_sender : Params → FlowState → ℕ → List Item → ℕ → Occasion
at_sender p s node items place = record { params = p; now = s.now; node = node; life = s.sender_life; items = items; place = place }

abbrev pub at_receiver : Params → FlowState → ℕ → List Item → ℕ → Occasion
at_receiver p s node items place = record { params = p; now = s.now; node = node; life = s.receiver_life; items = items; place = place }
