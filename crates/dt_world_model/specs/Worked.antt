-- Worked steps over literals: the definitions compute them.
use Rattle.std.specs.Prelude.{ℕ, zero, suc, true, false, List, [], ◌∷◌, ◌++◌, Option, Some, None, Result, Ok, Err}
use Rattle.dt_items.specs.declared.item.Item.{Item}
use Rattle.dt_units.specs.declared.parameters.Params.{Params}
use Rattle.dt_units.specs.declared.endpoints.Flow.{Flow}
use Rattle.dt_layout.specs.Spelling.{PacketValue, Data, carrying, gram_spelling}
use Rattle.dt_layout.specs.Carried.{life_of}
use Rattle.dt_reports.specs.declared.faults.SetupFault.{SetupFault}
use Rattle.dt_reports.specs.Told.{Told}
use Rattle.dt_reports.specs.Entries.{Entry}
use Rattle.dt_flow_model.specs.Frames.{flow_between}
use Rattle.dt_flow_model.specs.SendRecord.{Segment, SendRecord}
use Rattle.dt_flow_model.specs.ReceiveRecord.{Receiver}
use Rattle.dt_world_model.specs.Host.{Host, Turn, first_host, next_turn, send_octets}
use Rattle.dt_world_model.specs.Relay.{Parcel, Out, Left, Goes, Expired, admit_for, empty_out, leave, push, new_relay}
use Rattle.dt_world_model.specs.Script.{Script, Done, Tell, Ask, Hand}
use Rattle.dt_world_model.specs.Station.{Event, Arrive, Station, station_event, station_with}
use Rattle.dt_world_model.specs.World.{World, last_lines}
use Rattle.dt_world_model.specs.WorldStep.{WorldEvent, run}
use Rattle.dt_world_model.specs.Setup.{Setup, SetupCall, AddLink, AddRoute, AddStation, new_setup, new_world, setup_by}

-- receive 4200, give 5200, send and quiet 6200
abbrev pub standard : Params
standard = record { mpl = 1000; r = 3000; a = 200; rto = 500; probe = 800; seg = 100; cap = 4096; rcap = 4096; window = 512; run_limit = 2147483648; start = 0 }

abbrev pub main_flow : Flow
main_flow = flow_between 1 10 2 20

abbrev pub other_flow : Flow
other_flow = flow_between 1 11 2 20

-- one octet, the whole of a message
abbrev pub one : List Item
one = (record { octet = 97; begin = true; end = true; run = false }) ∷ []

-- HOSTS
-- the acts at now until none is due, but at most so many: what is told, and the host after them
abbrev pub turns_on : (Host → List Told × Host) → Host → Option Turn → List Told × Host
turns_on again host None = ([], host)
turns_on again host (Some turn) = (turn.told ∷ (again turn.host).0, (again turn.host).1)

abbrev pub turns : ℕ → ℕ → Host → List Told × Host
turns zero now host = ([], host)
turns (suc most) now host = turns_on (turns most now) host (next_turn standard now host)

-- an octet is sent on one flow at 0, and on another at a later moment
abbrev pub host_two : ℕ → Host
host_two later = (turns 9 later (send_octets standard later other_flow one (turns 9 0 (send_octets standard 0 main_flow one (first_host 1)).1).1).1).1

-- a flow between other ports, and a send record of one octet that went out at a moment, or waits
abbrev pub port_flow : ℕ → Flow
port_flow port = flow_between 1 port 2 20

abbrev pub gone_out : ℕ → List Segment
gone_out at = (record { offset = 0; items = one; first = at; last = at }) ∷ []

abbrev pub sending_one : ℕ → ℕ → List Segment → List Item → SendRecord
sending_one edge touched out waiting = record { left = 0; edge = edge; touched = touched; crossed = None; outstanding = out; waiting = waiting }

abbrev pub receiving_none : ℕ → Option ℕ → Receiver
receiving_none touched due = record { unread = []; standing = Some (record { expected = 5; touched = touched; due = due; told = 4096 }) }

-- a host in which at 10,000 an act of each class is due, of the last class in the record that was made first
abbrev pub host_seven : Host
host_seven =
    record {
      me = 1;
      until = 0;
      senders =
          (port_flow 17, sending_one 0 9000 [] one)
          ∷ (port_flow 16, sending_one 512 9999 [] one)
          ∷ (port_flow 15, sending_one 512 9000 (gone_out 9000) [])
          ∷ (port_flow 12, sending_one 512 0 [] [])
          ∷ (port_flow 11, sending_one 512 9999 (gone_out 0) [])
          ∷ [];
      receivers = (port_flow 14, receiving_none 9000 (Some 9000)) ∷ (port_flow 13, receiving_none 0 None) ∷ [];
    }

-- RELAYS
-- a packet without a tag, from node 1 to node 2
abbrev pub parcel_of : ℕ → PacketValue → Parcel (Unit {0})
parcel_of life v = record { octets = gram_spelling (carrying life 1 2 v); tag = tt }

abbrev pub hello : PacketValue
hello = Data 10 20 0 true true true (104 ∷ 101 ∷ 108 ∷ 108 ∷ 111 ∷ [])

-- the life of what leaves, or 0 for a packet that expired
abbrev pub life_left : Option (Left (Unit {0})) → Option ℕ
life_left None = None
life_left (Some Expired) = Some 0
life_left (Some (Goes parcel)) = Some (life_of parcel.octets)

-- what comes of a packet of life 999 that is admitted for a charge and leaves at once
abbrev pub passed : Option (Parcel (Unit {0})) → Option ℕ
passed None = None
passed (Some parcel) = life_left (leave 0 (push parcel 0 (empty_out 2 0)).1).0

abbrev pub charged_and_passed : ℕ → Option ℕ
charged_and_passed charge = passed (admit_for charge (parcel_of 999 hello))

-- a link of this pace that has just let one packet out, and on which so many wait since 0
abbrev pub filled : ℕ → ℕ → Out (Unit {0})
filled zero pace = (leave 0 (push (parcel_of 1000 hello) 0 (empty_out 1 pace)).1).1
filled (suc count) pace = (push (parcel_of 1000 hello) 0 (filled count pace)).1

-- a packet that hasn't the life to wait ten milliseconds waits before another
abbrev pub short_lived : Out (Unit {0})
short_lived = (push (parcel_of 1000 hello) 0 (push (parcel_of 5 hello) 0 (filled 0 10)).1).1

-- STATIONS
-- what is told in a script
abbrev pub reports_in : {A : Type 0} → Script (Unit {0}) A → List Told
reports_in (Done a) = []
reports_in (Tell r s) = r ∷ reports_in s
reports_in (Ask host octets s) = reports_in (s tt)
reports_in (Hand link parcel s) = reports_in s

abbrev pub answer_of : {A : Type 0} → Script (Unit {0}) A → A
answer_of (Done a) = a
answer_of (Tell r s) = answer_of s
answer_of (Ask host octets s) = answer_of (s tt)
answer_of (Hand link parcel s) = answer_of s

-- a station of the host with one link, on which packets to node 2 leave and packets come
abbrev pub station_of : Host → Station (Unit {0})
station_of host = station_with host (new_relay ((record { link = 1; pace = 0 }) ∷ []) ((record { link = 1; charge = 50 }) ∷ []) ((record { to = 2; link = 1 }) ∷ []))

abbrev pub told_at : ℕ → Event (Unit {0}) → Station (Unit {0}) → List Told
told_at now e station = reports_in (station_event standard now e station)

-- node 2 after data of five octets came
abbrev pub station_greeted : Station (Unit {0})
station_greeted = answer_of (station_event standard 0 (Arrive 1 (parcel_of 999 hello)) (station_of (first_host 2)))

-- SETUPS AND WORLDS
abbrev pub link_call : ℕ → ℕ → ℕ → ℕ → ℕ → SetupCall
link_call n from to charge pace = AddLink (record { link = n; from = from; to = to; charge = charge; pace = pace })

abbrev pub route_call : ℕ → ℕ → ℕ → SetupCall
route_call at to n = AddRoute at (record { to = to; link = n })

-- two stations, the first with its clock ahead by so much, and a link each way, the first with this pace
abbrev pub two_stations : ℕ → ℕ → List SetupCall
two_stations ahead pace = AddStation 1 ahead ∷ AddStation 2 0 ∷ link_call 1 1 2 50 pace ∷ link_call 2 2 1 50 0 ∷ route_call 1 2 1 ∷ route_call 2 1 2 ∷ []

abbrev pub setup_with : List SetupCall → Result Setup SetupFault
setup_with calls = setup_by calls (new_setup standard)

-- the world of an accepted setup; of a refused one it has no stations
abbrev pub world_of : Result Setup SetupFault → World
world_of (Ok s) = new_world s
world_of (Err fault) = new_world (new_setup standard)

abbrev pub world_two : ℕ → ℕ → World
world_two ahead pace = world_of (setup_with (two_stations ahead pace))

-- the lines of the events with the last lines
abbrev pub whole_run : List WorldEvent → World → List Entry
whole_run es w = (run es w).0 ++ last_lines (run es w).1

-- a line of a station, and one of no station
abbrev pub line : ℕ → ℕ → Told → Entry
line moment node told = record { moment = moment; node = Some node; told = told }

abbrev pub bare_line : ℕ → Told → Entry
bare_line moment told = record { moment = moment; node = None; told = told }
