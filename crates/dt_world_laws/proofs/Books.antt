-- The ledger and the run of one flow together, and what is reported of it.
use Rattle.std.proofs.Common.{ℕ, ◌≡◌, false, List, [], Option, refl}
use Rattle.dt_items.specs.Unread.{marked}
use Rattle.dt_flow_model.specs.Frames.{Mark, marked_packet, value_in}
use Rattle.dt_items.specs.declared.item.Item.{Item}
use Rattle.dt_units.specs.declared.parameters.Params.{Params}
use Rattle.dt_units.specs.declared.endpoints.Flow.{Flow}
use Rattle.dt_reports.specs.Told.{Told}
use Rattle.dt_flow_model.specs.declared.rows.Taken.{Taken}
use Rattle.dt_flow_model.specs.declared.rows.Given.{Given}
use Rattle.dt_flow_model.specs.declared.rows.ReadCount.{ReadCount}
use Rattle.dt_flow_model.specs.Flow.{Crossing, FlowState, Packet, Run}
use Rattle.dt_flow_model.specs.SendRecord.{SendRecord}
use Rattle.dt_layout.specs.Spelling.{PacketValue}
use Rattle.dt_world_model.specs.Host.{Host, first_host}
use Rattle.dt_world_model.specs.Relay.{new_relay}
use Rattle.dt_world_model.specs.Station.{Event, Send, Read, Tick, Arrive, station_with}
use Rattle.dt_world_model.specs.World.{Placed, ReceiverSide, SenderSide, World, placed}
use Rattle.dt_world_model.specs.World as model
use Rattle.dt_world_model.specs.Ledgers.{Changes, Effect, FlowLedger, FlowRun, Leaves, Ledgers, Neither, Occasion, effect_of, ledger_after, ledger_of, ledgers_after, place_for, place_sent, run_of, run_with}
use Rattle.dt_world_model.specs.WorldStep.{items_in_kind, items_with, occasion}

pub record Book : Type 0 where
  pub taken : List Taken
  pub given : List Given
  pub reads : List ReadCount
  pub run : Option Run
  pub crossings : List Crossing

abbrev pub book_with : FlowLedger → FlowRun → Book
book_with l r = record { taken = l.taken; given = l.given; reads = l.reads; run = r.run; crossings = r.crossings }

abbrev pub ledger_in : Book → FlowLedger
ledger_in b = record { taken = b.taken; given = b.given; reads = b.reads }

abbrev pub run_in : Book → FlowRun
run_in b = record { run = b.run; crossings = b.crossings }

abbrev pub book_of : Ledgers → Flow → Book
book_of all f = book_with (ledger_of all f) (run_of all f)

-- what an event brought: items, and a place
abbrev pub Cause : Type 0
Cause = List Item × ℕ

abbrev pub Octets : List Item → Cause
Octets items = (items, 0)

abbrev pub Brought : Packet → Cause
Brought q = (items_in_kind q.kind, q.place)

abbrev pub place_brought : Cause → ℕ
place_brought cause = cause.1

abbrev pub at_life : Params → ℕ → ℕ → Cause → Occasion
at_life p now life cause = record { params = p; now = now; node = 0; life = life; items = cause.0; place = cause.1 }

abbrev pub book_by : Occasion → Effect → Book → Book
book_by o (Changes f change) b = book_with (ledger_after o change (ledger_in b)) (run_with o change (ledger_in b) (run_in b))
book_by o (Leaves link life) b = b
book_by o Neither b = b

abbrev pub book_after : Params → ℕ → ℕ → Cause → Told → Book → Book
book_after p now life cause told b = book_by (at_life p now life cause) (effect_of told) b

abbrev pub books_after : Params → ℕ → ℕ → Cause → Told → Ledgers → Ledgers
books_after p now life cause told all = ledgers_after (at_life p now life cause) told all

-- what stands for a station that isn't there
abbrev pub no_placed : ℕ → Placed
no_placed n = record { zero = 0; life = 0; station = station_with (first_host n) (new_relay [] [] []) }

-- a flow by its ledger and its run
abbrev pub flow_state : ℕ → SenderSide → ReceiverSide → Book → FlowState
flow_state now x y b = model.flow_state now x y (ledger_in b) (run_in b)

-- the place that is told for a packet, and for one of a send record
abbrev pub place_in : Occasion → Ledgers → Host → Flow → PacketValue → ℕ
place_in o all host f v = place_for o (ledger_of all f) host f v

abbrev pub place_of_sent : Params → Book → ℕ → Option SendRecord → ℕ
place_of_sent p b number x = place_sent p (ledger_in b) number x

-- what a packet brings, by its value, and what an event of a station does
abbrev pub Brings : Mark → PacketValue → Cause
Brings mark v = (items_with (marked_packet mark v), mark.place)

abbrev pub Nothing : Cause
Nothing = ([], 0)

abbrev pub cause_of : Event Mark → Cause
cause_of (Send f octets begin end) = Octets (marked octets begin end false)
cause_of (Read f most) = Nothing
cause_of Tick = Nothing
cause_of (Arrive link parcel) = Brings parcel.tag (value_in parcel.octets)

-- the occasion of an event
pub occasion_is : (w : World) (n : ℕ) (e : Event Mark) → occasion w n e ≡ record { params = w.params; now = w.now; node = n; life = (placed w n).life; items = (cause_of e).0; place = (cause_of e).1 }
occasion_is w n (Send f octets begin end) = refl
occasion_is w n (Read f most) = refl
occasion_is w n Tick = refl
occasion_is w n (Arrive link parcel) = refl
