-- A station whose packets have tags, and the same station without: what is written on packets changes nothing that is told and no octet that is handed out.
use Rattle.std.specs.Prelude.{ℕ, List, map}
use Rattle.dt_reports.specs.Told.{Told}
use Rattle.dt_world_model.specs.Host.{Host}
use Rattle.dt_world_model.specs.Relay.{Parcel, Waiting, Out, Relay}
use Rattle.dt_world_model.specs.Script.{Script, Done, Tell, Ask, Hand}
use Rattle.dt_world_model.specs.Station.{Station, Event, Send, Read, Tick, Arrive}

-- the same without tags
abbrev pub bare_parcel : {T : Type 0} → Parcel T → Parcel (Unit {0})
bare_parcel parcel = record { octets = parcel.octets; tag = tt }

abbrev pub bare_waiting : {T : Type 0} → Waiting T → Waiting (Unit {0})
bare_waiting w = record { parcel = bare_parcel w.parcel; since = w.since }

abbrev pub bare_out : {T : Type 0} → Out T → Out (Unit {0})
bare_out out = record { link = out.link; pace = out.pace; waits = map bare_waiting out.waits; last = out.last }

abbrev pub bare_relay : {T : Type 0} → Relay T → Relay (Unit {0})
bare_relay relay = record { outs = map bare_out relay.outs; ins = relay.ins; routes = relay.routes }

abbrev pub bare_station : {T : Type 0} → Station T → Station (Unit {0})
bare_station station = record { host = station.host; relay = bare_relay station.relay }

abbrev pub bare_event : {T : Type 0} → Event T → Event (Unit {0})
bare_event (Send f octets begin end) = Send f octets begin end
bare_event (Read f most) = Read f most
bare_event Tick = Tick
bare_event (Arrive link parcel) = Arrive link (bare_parcel parcel)

-- Two scripts tell the same, ask about the same frames and hand out the same octets, whatever tags are answered, and end with answers that are so related.
pub data Alike {T A B : Type 0} (R : A → B → Type 0) : Script T A → Script (Unit {0}) B → Type 0 where
  done : {a : A} {b : B} → R a b → Alike R (Done a) (Done b)
  tell : {s : Script T A} {t : Script (Unit {0}) B} (r : Told) → Alike R s t → Alike R (Tell r s) (Tell r t)
  ask : {s : T → Script T A} {t : Unit {0} → Script (Unit {0}) B} (host : Host) (octets : List ℕ) → ((x : T) → Alike R (s x) (t tt)) → Alike R (Ask host octets s) (Ask host octets t)
  hand : {s : Script T A} {t : Script (Unit {0}) B} (link : ℕ) (parcel : Parcel T) → Alike R s t → Alike R (Hand link parcel s) (Hand link (bare_parcel parcel) t)
