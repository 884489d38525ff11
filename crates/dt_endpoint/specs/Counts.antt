-- What an endpoint counts: datagrams, frames, and octets by what is reported of them. No count passes 2^64 - 1.
use Rattle.std.specs.Prelude.{ℕ, ◌+◌, ◌-◌, ◌^◌, min, List, [], ◌∷◌, length, Option, Some, None, option_map}
use Rattle.dt_units.specs.declared.endpoints.Flow.{Flow}
use Rattle.dt_reports.specs.Told.{Told}
use Rattle.dt_reports.specs.Matters as matter
use Rattle.dt_reports.specs.Matters.{Matter, matter_of}
use Rattle.dt_world_model.specs.Station.{Arrive, Event, Read, Send, Tick}
use Rattle.dt_world_model.specs.Tables.{look, same_flow, write}
use Rattle.dt_endpoint.specs.declared.counts.Counts.{Counts}
use Rattle.dt_endpoint.specs.declared.counts.Addition.{Addition}
use Rattle.dt_endpoint.specs.declared.counts.Octets.{Octets}
use Rattle.dt_endpoint.specs.declared.counts.Tally.{Tally}
use Rattle.dt_endpoint.specs.declared.counts.Tally.TheVariants as tally
use Rattle.dt_endpoint.specs.Acts.{Act, Hands, Tells}

-- so many more
abbrev pub counted : (by count : ℕ) → ℕ
counted by count = min (count + by) (2 ^ 64 - 1)

abbrev pub no_octets : Octets
no_octets = record { taken = 0; settled = 0; uncertain = 0; accepted = 0; read = 0 }

abbrev pub no_counts : Counts
no_counts = record { came = 0; refused = 0; left = 0; octets = no_octets }

-- WHAT IS COUNTED: by the node, and of each flow that is followed
pub record Counted : Type 0 where
  pub node : Counts
  pub flows : List (Flow × Octets)

abbrev pub none_counted : Counted
none_counted = record { node = no_counts; flows = [] }

-- OCTETS, by a report: which number of which flow it adds to, and how many
abbrev pub addition_by : Matter → Option Addition
addition_by (matter.Taken f count) = Some (record { flow = f; tally = tally.Taken; by = count })
addition_by (matter.Acknowledged f count window) = Some (record { flow = f; tally = tally.Settled; by = count })
addition_by (matter.GivenUp f count) = Some (record { flow = f; tally = tally.Uncertain; by = count })
addition_by (matter.Accepted f number count run) = Some (record { flow = f; tally = tally.Accepted; by = count })
addition_by (matter.ReadOut f run begin end octets) = Some (record { flow = f; tally = tally.Read; by = length octets })
addition_by (matter.Refused f fault) = None
addition_by (matter.Transmitted f number count) = None
addition_by (matter.Retransmitted f) = None
addition_by (matter.Replied f number) = None
addition_by (matter.Dropped f) = None
addition_by (matter.NothingRead f) = None
addition_by (matter.Left link life) = None
addition_by (matter.Begun life) = None
addition_by matter.Neither = None

abbrev pub with_more : Tally → ℕ → Octets → Octets
with_more tally.Taken by o = record o { taken = counted by o.taken }
with_more tally.Settled by o = record o { settled = counted by o.settled }
with_more tally.Uncertain by o = record o { uncertain = counted by o.uncertain }
with_more tally.Accepted by o = record o { accepted = counted by o.accepted }
with_more tally.Read by o = record o { read = counted by o.read }

abbrev pub added : Option Addition → Octets → Octets
added None o = o
added (Some a) o = with_more a.tally a.by o

abbrev pub octets_told : Told → Octets → Octets
octets_told told o = added (addition_by (matter_of told)) o

-- the flow of whose octets it tells
abbrev pub flow_told : Told → Option Flow
flow_told told = option_map (λ a. a.flow) (addition_by (matter_of told))

abbrev pub flow_counts : Told → Flow → Option Octets → List (Flow × Octets) → List (Flow × Octets)
flow_counts told f None flows = flows
flow_counts told f (Some o) flows = write same_flow f (octets_told told o) flows

abbrev pub flows_told : Told → Option Flow → List (Flow × Octets) → List (Flow × Octets)
flows_told told None flows = flows
flows_told told (Some f) flows = flow_counts told f (look same_flow f flows) flows

-- a flow is followed from now on; one that is followed already stays as it is
abbrev pub flow_begun : Flow → Option Octets → List (Flow × Octets) → List (Flow × Octets)
flow_begun f None flows = write same_flow f no_octets flows
flow_begun f (Some o) flows = flows

abbrev pub with_flow : Flow → List (Flow × Octets) → List (Flow × Octets)
with_flow f flows = flow_begun f (look same_flow f flows) flows

-- WHAT AN ACT ADDS: a report its octets, and what is handed out one frame
abbrev pub counts_act : Act → Counted → Counted
counts_act (Tells told) c = record { node = record c.node { octets = octets_told told c.node.octets }; flows = flows_told told (flow_told told) c.flows }
counts_act (Hands link octets) c = record { node = record c.node { left = counted 1 c.node.left }; flows = c.flows }

abbrev pub counts_acts : List Act → Counted → Counted
counts_acts [] c = c
counts_acts (act ∷ acts) c = counts_acts acts (counts_act act c)

-- what an event adds by itself: a datagram that comes
abbrev pub counts_arrived : Counted → Counted
counts_arrived c = record { node = record c.node { came = counted 1 c.node.came }; flows = c.flows }

abbrev pub counts_event : Event (Unit {0}) → Counted → Counted
counts_event (Arrive link parcel) c = counts_arrived c
counts_event (Send flow octets begin end) c = c
counts_event (Read flow most) c = c
counts_event Tick c = c

-- a datagram that is refused
abbrev pub counts_refused : Counted → Counted
counts_refused c = record { node = record c.node { refused = counted 1 c.node.refused }; flows = c.flows }
