-- The step of the world: an event is refused and changes nothing, or gives lines and the world after it.
use Rattle.std.specs.Prelude.{ℕ, ◌+◌, ◌-◌, ◌==◌, Bool, true, false, not, if◌then◌else◌, nat_lt, List, [], ◌∷◌, ◌++◌, get_or, length, map, set, Option, Some, None, unwrap_or}
use Rattle.dt_items.specs.Unread.{marked}
use Rattle.dt_units.specs.declared.parameters.Params.{Params}
use Rattle.dt_units.specs.declared.endpoints.Flow.{Flow}
use Rattle.dt_reports.specs.declared.faults.StepFault.{StepFault}
use Rattle.dt_reports.specs.declared.faults.StepFault.TheVariants as fault
use Rattle.dt_reports.specs.declared.reports.Report.TheVariants as report
use Rattle.dt_reports.specs.Entries.{Entry}
use Rattle.dt_items.specs.declared.item.Item.{Item}
use Rattle.dt_flow_model.specs.Flow.{Ack, Data, Kind, Meet, Packet}
use Rattle.dt_flow_model.specs.Frames.{Mark, marked_packet, value_in}
use Rattle.dt_world_model.specs.declared.links.Link.{Link}
use Rattle.dt_world_model.specs.Tables.{has_key, look, write}
use Rattle.dt_world_model.specs.Host.{restarted_host}
use Rattle.dt_world_model.specs.Relay.{emptied}
use Rattle.dt_world_model.specs.Script.{play}
use Rattle.dt_world_model.specs.Station.{Event, Send, Read, Tick, Arrive, Station, station_event, station_with}
use Rattle.dt_world_model.specs.Ledgers.{Occasion}
use Rattle.dt_world_model.specs.World.{Copy, Noted, Placed, World, placed, world_handler}

-- what happens to a world
pub data WorldEvent : Type 0 where
  Passes : (by : ℕ) → WorldEvent
  Sends : (flow : Flow) → (octets : List ℕ) → (begin end : Bool) → WorldEvent
  Reads : (flow : Flow) → (most : ℕ) → WorldEvent
  Ticks : (station : ℕ) → WorldEvent
  Arrives : (copy : ℕ) → WorldEvent
  Loses : (copy : ℕ) → WorldEvent
  Restarts : (station : ℕ) → WorldEvent

-- LINKS AND COPIES
abbrev pub numbered : List Link → List (ℕ × Link)
numbered links = map (λ l. (l.link, l)) links

-- a link, and a copy, by its number. The defaults are met by no event: a number that isn't there is refused, and a copy is on a link of the setup
abbrev pub link_in : ℕ → List Link → Link
link_in n links = unwrap_or (look ◌==◌ n (numbered links)) (record { link = 0; from = 0; to = 0; charge = 0; pace = 0 })

abbrev pub copy_at : World → ℕ → Copy
copy_at w n = get_or w.copies n (record { link = 0; parcel = record { octets = []; tag = record { birth = 0; place = 0 } }; put = 0; lost = true })

abbrev pub link_for : World → ℕ → Link
link_for w n = link_in (copy_at w n).link w.links

-- REFUSALS: tests in an order, of which the first that holds refuses.
abbrev pub first_refusal : {F : Type 0} → List (Bool × F) → Option F
first_refusal [] = None
first_refusal (test ∷ tests) = if test.0 then Some test.1 else first_refusal tests

abbrev pub lacks_station : World → ℕ → Bool × StepFault
lacks_station w n = (not (has_key ◌==◌ n w.stations), fault.NoStation n)

abbrev pub is_own : Flow → Bool × StepFault
is_own f = (f.from.0 == f.to.0, fault.BadFlow)

abbrev pub lacks_copy : World → ℕ → Bool × StepFault
lacks_copy w n = (not (nat_lt n (length w.copies)), fault.NoCopy n)

abbrev pub is_lost : World → ℕ → Bool × StepFault
is_lost w n = ((copy_at w n).lost, fault.Lost n)

-- a link keeps a copy no longer than its charge
abbrev pub is_late_copy : World → ℕ → Bool × StepFault
is_late_copy w n = let held = w.now - (copy_at w n).put in (nat_lt (link_for w n).charge held, fault.TooLate held (link_for w n).charge)

abbrev pub refusals : World → WorldEvent → List (Bool × StepFault)
refusals w (Passes by) = []
refusals w (Sends f octets begin end) = is_own f ∷ lacks_station w f.from.0 ∷ []
refusals w (Reads f most) = is_own f ∷ lacks_station w f.to.0 ∷ []
refusals w (Ticks n) = lacks_station w n ∷ []
refusals w (Arrives n) = lacks_copy w n ∷ is_lost w n ∷ is_late_copy w n ∷ []
refusals w (Loses n) = lacks_copy w n ∷ is_lost w n ∷ []
refusals w (Restarts n) = lacks_station w n ∷ []

-- AN EVENT AT A STATION, at its clock's reading, played before the world. It brings the octets of a send, or those of a data packet. A closing packet is none of its flow, and brings nothing.
abbrev pub items_in_kind : Kind → List Item
items_in_kind (Data drf items) = items
items_in_kind (Ack window) = []
items_in_kind Meet = []

abbrev pub items_with : Option Packet → List Item
items_with None = []
items_with (Some q) = items_in_kind q.kind

abbrev pub occasion_with : World → ℕ → List Item → ℕ → Occasion
occasion_with w n items place = record { params = w.params; now = w.now; node = n; life = (placed w n).life; items = items; place = place }

abbrev pub occasion : World → ℕ → Event Mark → Occasion
occasion w n (Send f octets begin end) = occasion_with w n (marked octets begin end false) 0
occasion w n (Read f most) = occasion_with w n [] 0
occasion w n Tick = occasion_with w n [] 0
occasion w n (Arrive link parcel) = occasion_with w n (items_with (marked_packet parcel.tag (value_in parcel.octets))) parcel.tag.place

abbrev pub noted_at : World → Noted
noted_at w = record { ledgers = w.ledgers; copies = w.copies; lines = [] }

abbrev pub world_with : World → ℕ → Placed → Noted → World
world_with w n at d = record { params = w.params; now = w.now; stations = write ◌==◌ n at w.stations; links = w.links; copies = d.copies; ledgers = d.ledgers }

abbrev pub played : World → ℕ → Placed → Noted × Station Mark → List Entry × World
played w n at r = (r.0.lines, world_with w n (record { zero = at.zero; life = at.life; station = r.1 }) r.0)

-- a station that isn't there does nothing. No event meets one: it is refused before, and a link's end is a station
abbrev pub event_at : World → ℕ → Event Mark → Option Placed → List Entry × World
event_at w n e None = ([], w)
event_at w n e (Some at) = played w n at (play (world_handler (occasion w n e)) (station_event w.params (w.now + at.zero) e at.station) (noted_at w))

abbrev pub at_station : World → ℕ → Event Mark → List Entry × World
at_station w n e = event_at w n e (look ◌==◌ n w.stations)

-- A RESTART: empty tables, an empty relay, the next life, and quiet time from the station's own reading on. Copies on links stay.
abbrev pub restarted : Params → ℕ → Placed → Placed
restarted p now at = record { zero = at.zero; life = at.life + 1; station = station_with (restarted_host p at.station.host.me (now + at.zero)) (emptied at.station.relay) }

abbrev pub restart_at : World → ℕ → Option Placed → List Entry × World
restart_at w n None = ([], w)
restart_at w n (Some at) = ((record { moment = w.now; node = Some n; told = report.Restarted (at.life + 1) }) ∷ [], record w { stations = write ◌==◌ n (restarted w.params w.now at) w.stations })

-- A LOSS: the copy never comes again.
abbrev pub loss : World → ℕ → List Entry × World
loss w n = ((record { moment = w.now; node = None; told = report.Lost n }) ∷ [], record w { copies = set w.copies n (record (copy_at w n) { lost = true }) })

-- WHAT AN EVENT DOES: its lines, and the world after it. A copy that comes stays on its link, and may come again.
abbrev pub after_event : World → WorldEvent → List Entry × World
after_event w (Passes by) = ([], record w { now = w.now + by })
after_event w (Sends f octets begin end) = at_station w f.from.0 (Send f octets begin end)
after_event w (Reads f most) = at_station w f.to.0 (Read f most)
after_event w (Ticks n) = at_station w n Tick
after_event w (Arrives n) = at_station w (link_for w n).to (Arrive (copy_at w n).link (copy_at w n).parcel)
after_event w (Loses n) = loss w n
after_event w (Restarts n) = restart_at w n (look ◌==◌ n w.stations)

-- THE STEP
pub data Outcome : Type 0 where
  Refused : (fault : StepFault) → Outcome
  Stepped : (lines : List Entry) → (after : World) → Outcome

abbrev pub step_unless : Option StepFault → List Entry × World → Outcome
step_unless None r = Stepped r.0 r.1
step_unless (Some fault) r = Refused fault

abbrev pub world_step : World → WorldEvent → Outcome
world_step w e = step_unless (first_refusal (refusals w e)) (after_event w e)

-- A RUN: the lines of the events in order, and the world after them. An event that is refused gives no line and changes nothing.
abbrev pub then_step : List Entry × World → Outcome → List Entry × World
then_step r (Refused fault) = r
then_step r (Stepped lines after) = (r.0 ++ lines, after)

abbrev pub run_from : List WorldEvent → List Entry × World → List Entry × World
run_from [] r = r
run_from (e ∷ es) r = run_from es (then_step r (world_step r.1 e))

abbrev pub run : List WorldEvent → World → List Entry × World
run es w = run_from es ([], w)

abbrev pub world_after : World → List WorldEvent → World
world_after w es = (run es w).1
