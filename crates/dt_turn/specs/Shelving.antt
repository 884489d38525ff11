-- The shelf of a node: data packets that came too early are kept on it, and handed in again when what they wait for was accepted.
use Rattle.std.specs.Prelude.{ℕ, zero, suc, Bool, true, false, List, length, Option, Some, None, Result, Ok, Err, if◌then◌else◌}
use Rattle.dt_units.specs.declared.endpoints.Flow.{Flow}
use Rattle.dt_units.specs.declared.order.Relation.{Relation}
use Rattle.dt_units.specs.declared.order.Relation.TheVariants.{Below, Equal, Above}
use Rattle.dt_units.specs.declared.parameters.Params.{Params}
use Rattle.dt_units.specs.Numbers.{relation_of}
use Rattle.dt_edges.specs.Wires.{Datagram}
use Rattle.dt_layout.specs.declared.faults.LayoutFault.{LayoutFault}
use Rattle.dt_layout.specs.Reading.{gram_in, packet_read}
use Rattle.dt_layout.specs.Spelling.{PacketValue, Data, Ack, Meet, Close}
use Rattle.dt_reports.specs.Told.{Told}
use Rattle.dt_reports.specs.declared.reports.Report.TheVariants as report
use Rattle.dt_world_model.specs.Relay.{Parcel}
use Rattle.dt_world_model.specs.Script.{Script, Done, Tell, ◌>>=◌}
use Rattle.dt_world_model.specs.Station.{Station, Arrive, station_event}
use Rattle.dt_shelf.specs.declared.taken.Taken.{Taken}
use Rattle.dt_shelf.specs.declared.taken.Taken.TheVariants as taken
use Rattle.dt_shelf.specs.Shelves.{Shelf, held_packet, hold, take_held}
use Rattle.dt_turn.specs.declared.packet_answers.PacketAnswer.{PacketAnswer}
use Rattle.dt_turn.specs.declared.packet_answers.PacketAnswer.TheVariants as heard
use Rattle.dt_turn.specs.Hearing.{heard_in}

-- a frame as a packet on which nothing is written
abbrev pub plain : List ℕ → Parcel (Unit {0})
plain octets = record { octets = octets; tag = tt }

abbrev pub datagram : ℕ → List ℕ → Datagram
datagram link octets = record { link = link; octets = octets }

-- A PACKET CAME TOO EARLY: it has data, and was dropped, or was replied to with a number to which its own is above.
abbrev pub number_of_data : Result PacketValue LayoutFault → Option ℕ
number_of_data (Ok (Data from_port to_port number drf begin end octets)) = Some number
number_of_data (Ok (Ack from_port to_port number window)) = None
number_of_data (Ok (Meet from_port to_port number)) = None
number_of_data (Ok (Close from_port to_port number)) = None
number_of_data (Err fault) = None

-- the number of the data in a frame that reads as a Deltagram, if it has data
abbrev pub data_number : List ℕ → Option ℕ
data_number octets = number_of_data (packet_read (gram_in octets))

abbrev pub is_above : Relation → Bool
is_above Below = false
is_above Equal = false
is_above Above = true

abbrev pub is_early : (replied : Option ℕ) → (number : ℕ) → Bool
is_early None number = true
is_early (Some replied) number = is_above (relation_of number replied)

abbrev pub early_by : (replied number : Option ℕ) → Option ℕ
early_by replied None = None
early_by replied (Some number) = if is_early replied number then Some number else None

abbrev pub early_number : (replied : Option ℕ) → List ℕ → Option ℕ
early_number replied octets = early_by replied (data_number octets)

-- It is held as it came, before any charge, and that is told.
abbrev pub told_held : Flow → ℕ → Bool → Told
told_held flow number true = report.Shelved flow number
told_held flow number false = report.NoShelf flow number

abbrev pub hold_if : ℕ → Datagram → Flow → Option ℕ → Shelf → Script (Unit {0}) Shelf
hold_if now d flow None shelf = Done shelf
hold_if now d flow (Some number) shelf = let r = hold (held_packet d.link flow number d.octets now) shelf in Tell (told_held flow number r.0) (Done r.1)

-- WHAT WAITS FOR A NUMBER IS TAKEN and told, and what is stale is passed over. Each that is taken was held, so there are no more than that.
abbrev pub fetch_on : (Shelf → Script (Unit {0}) (Option Datagram × Shelf)) → Flow → ℕ → Option Taken × Shelf → Script (Unit {0}) (Option Datagram × Shelf)
fetch_on again flow number (None, shelf) = Done (None, shelf)
fetch_on again flow number (Some taken.Stale, shelf) = Tell (report.Stale flow number) (again shelf)
fetch_on again flow number (Some (taken.Again link octets), shelf) = Tell (report.Again flow number) (Done (Some (datagram link octets), shelf))

abbrev pub fetch_turns : ℕ → Flow → ℕ → ℕ → Shelf → Script (Unit {0}) (Option Datagram × Shelf)
fetch_turns zero flow number now shelf = Done (None, shelf)
fetch_turns (suc most) flow number now shelf = fetch_on (fetch_turns most flow number now) flow number (take_held flow number now shelf)

abbrev pub fetch : Flow → ℕ → ℕ → Shelf → Script (Unit {0}) (Option Datagram × Shelf)
fetch flow number now shelf = fetch_turns (length shelf.held) flow number now shelf

-- A ROUND: a packet arrives, and then the shelf is used. What it takes from the shelf is handed in next.
pub record Round : Type 0 where
  pub station : Station (Unit {0})
  pub shelf : Shelf
  pub next : Option Datagram

abbrev pub round_with : Station (Unit {0}) → Shelf → Option Datagram → Round
round_with station shelf next = record { station = station; shelf = shelf; next = next }

abbrev pub use_shelf : ℕ → Datagram → PacketAnswer → Station (Unit {0}) → Shelf → Script (Unit {0}) Round
use_shelf now d heard.Nothing station shelf = Done (round_with station shelf None)
use_shelf now d (heard.Refused flow replied) station shelf = hold_if now d flow (early_number replied d.octets) shelf >>= λ after. Done (round_with station after None)
use_shelf now d (heard.Accepted flow next) station shelf = fetch flow next now shelf >>= λ r. Done (round_with station r.1 r.0)

abbrev pub round : Params → ℕ → Datagram → Station (Unit {0}) → Shelf → Script (Unit {0}) Round
round p now d station shelf =
    let event = station_event p now (Arrive d.link (plain d.octets)) station in
    event >>= λ after. use_shelf now d (heard_in event heard.Nothing) after shelf

-- ROUND AFTER ROUND, until nothing is handed in next. Each but the first hands in what was held, so there are no more than that and one.
abbrev pub rounds_on : (Round → Script (Unit {0}) Round) → Params → ℕ → Option Datagram → Round → Script (Unit {0}) Round
rounds_on again p now None r = Done r
rounds_on again p now (Some d) r = round p now d r.station r.shelf >>= again

abbrev pub rounds : ℕ → Params → ℕ → Round → Script (Unit {0}) Round
rounds zero p now r = Done r
rounds (suc most) p now r = rounds_on (rounds most p now) p now r.next r

-- A packet arrives at a node. Without a shelf that is one event of its station.
abbrev pub first_round : Datagram → Station (Unit {0}) → Shelf → Round
first_round d station shelf = round_with station shelf (Some d)

abbrev pub inside : Station (Unit {0}) → Option Shelf → Station (Unit {0}) × Option Shelf
inside station shelf = (station, shelf)

abbrev pub arrive : Params → ℕ → Datagram → Station (Unit {0}) → Option Shelf → Script (Unit {0}) (Station (Unit {0}) × Option Shelf)
arrive p now d station None = station_event p now (Arrive d.link (plain d.octets)) station >>= λ after. Done (inside after None)
arrive p now d station (Some shelf) = rounds (suc (length shelf.held)) p now (first_round d station shelf) >>= λ r. Done (inside r.station (Some r.shelf))
