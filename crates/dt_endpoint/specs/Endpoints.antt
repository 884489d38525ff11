-- An endpoint as its callers see it, and what an event does to it.
use Rattle.std.specs.Prelude.{◌≡◌, ℕ, ◌+◌, ◌<◌, ◌≤◌, max, min, Bool, true, false, List, [], ◌++◌, length, take, Option, None, Result, Ok, Err, option_map, unwrap_or}
use Rattle.dt_units.specs.declared.endpoints.Flow.{Flow}
use Rattle.dt_units.specs.declared.parameters.Params.{Params}
use Rattle.dt_reports.specs.Told.{Told}
use Rattle.dt_flow_model.specs.Keeping.{most_moment, octets_below}
use Rattle.dt_world_model.specs.declared.links.InLink.{InLink}
use Rattle.dt_world_model.specs.declared.links.OutLink.{OutLink}
use Rattle.dt_world_model.specs.declared.links.Route.{Route}
use Rattle.dt_world_model.specs.Host.{Host, sender_at}
use Rattle.dt_world_model.specs.Script.{Script}
use Rattle.dt_world_model.specs.Station.{Event, Station, station_event, station_wake, station_with}
use Rattle.dt_relay.specs.Ways as ways
use Rattle.dt_station.specs.Stations.{StationValue, station_started}
use Rattle.dt_endpoint.specs.Acts.{OutFrameValue, acts_of, answer_of, frames_in, reports_in}
use Rattle.dt_endpoint.specs.Counts.{Counted, counts_acts, counts_event, counts_refused, none_counted, with_flow}
use Rattle.dt_endpoint.specs.Collecting.{Collected}
use Rattle.dt_endpoint.specs.Waking.{IsUpToDate, WaitOnFirst}
use Rattle.dt_world_laws.specs.Counting.{HasTakenAtMost, octets_sent}

pub record EndpointValue : Type 0 where
  pub rules : Params
  -- the greatest moment that an event had
  pub latest : ℕ
  -- an event found no memory: no further one is done
  pub spent : Bool
  -- how many octets sends have handed in
  pub asked : ℕ
  pub state : Station (Unit {0})
  -- what waits to be pulled, in the order in which it came
  pub frames : List OutFrameValue
  pub reports : List Told
  -- what was counted since it opened
  pub counts : Counted

-- a moment that is given: one above 2^62 counts as 2^62, and one before the greatest as that
abbrev pub capped : ℕ → ℕ
capped now = min now most_moment

abbrev pub moment_of : ℕ → EndpointValue → ℕ
moment_of now e = max e.latest (capped now)

-- IT OPENS
abbrev pub opened : Params → ℕ → Option ℕ → List OutLink → List InLink → List Route → EndpointValue
opened p me again outs ins routes =
    let started = station_started p me (option_map capped again) outs ins routes in
    record { rules = p; latest = started.latest; spent = false; asked = 0; state = started.state; frames = []; reports = []; counts = none_counted }

-- AN EVENT, at a moment that is given
abbrev pub script_of : ℕ → Event (Unit {0}) → EndpointValue → Script (Unit {0}) (Station (Unit {0}))
script_of now event e = station_event e.rules (moment_of now e) event e.state

-- the endpoint after it: frames and reports are those of the script, in its order
abbrev pub after_event : ℕ → Event (Unit {0}) → EndpointValue → EndpointValue
after_event now event e =
    let script = script_of now event e in
    record {
      rules = e.rules;
      latest = moment_of now e;
      spent = false;
      asked = e.asked + octets_sent event;
      state = answer_of script;
      frames = e.frames ++ frames_in (acts_of script);
      reports = e.reports ++ reports_in (acts_of script);
      counts = counts_acts (acts_of script) (counts_event event e.counts);
    }

-- The event found no memory: a first part of it was done, and nothing more is said of the station but that it is of the same node.
pub record Breaks (now : ℕ) (event : Event (Unit {0})) (e f : EndpointValue) : Type 0 where
  pub rules : f.rules ≡ e.rules
  pub me : f.state.host.me ≡ e.state.host.me
  pub latest : f.latest ≡ moment_of now e
  pub spent : f.spent ≡ true
  pub count : ℕ
  pub frames : f.frames ≡ e.frames ++ frames_in (take count (acts_of (script_of now event e)))
  pub reports : f.reports ≡ e.reports ++ reports_in (take count (acts_of (script_of now event e)))
  pub counts : f.counts ≡ counts_acts (take count (acts_of (script_of now event e))) (counts_event event e.counts)

abbrev pub EventEnds : {U F : Type 0} → Result U F → ℕ → Event (Unit {0}) → EndpointValue → EndpointValue → Type 0
EventEnds (Ok done) now event e f = f ≡ after_event now event e
EventEnds (Err fault) now event e f = Breaks now event e f

-- THE WAKE: the moment at which the next tick does something. A spent endpoint has none.
abbrev pub wake_unless : Bool → Option ℕ → Option ℕ
wake_unless true wake = None
wake_unless false wake = wake

abbrev pub endpoint_wake : EndpointValue → Option ℕ
endpoint_wake e = wake_unless e.spent (station_wake e.rules e.state)

-- one route more, after the others
abbrev pub with_route : Route → EndpointValue → EndpointValue
with_route route e = record e { state = station_with e.state.host (ways.with_route route e.state.relay) }

-- a flow is followed from now on
abbrev pub with_followed : Flow → EndpointValue → EndpointValue
with_followed f e = record e { counts = record { node = e.counts.node; flows = with_flow f e.counts.flows } }

-- a datagram that was refused is counted
abbrev pub with_refused : EndpointValue → EndpointValue
with_refused e = record e { counts = counts_refused e.counts }

-- how many octets of a flow wait to be sent
abbrev pub waiting_octets : Flow → Host → ℕ
waiting_octets f host = unwrap_or (option_map (λ x. length x.waiting) (sender_at host f)) 0

-- WHAT THE CODE KEEPS
-- a station that an event may happen to, at a moment
pub record MayGo (now : ℕ) (station : StationValue (Unit {0})) : Type 0 where
  pub unspent : station.spent ≡ false
  pub past : station.latest ≤ now
  pub moment : now ≤ most_moment

-- what a station keeps over an event
pub record GoesOn (now octets : ℕ) (before after : StationValue (Unit {0})) : Type 0 where
  pub unspent : after.spent ≡ false
  pub taken : (bound : ℕ) → HasTakenAtMost bound before.state.host → HasTakenAtMost (bound + octets) after.state.host
  pub wait_on_first : WaitOnFirst before.state.relay.outs → WaitOnFirst after.state.relay.outs
  pub up_to_date : WaitOnFirst before.state.relay.outs → IsUpToDate after.rules now after.state

-- an endpoint that no event has left without memory can do the next one
pub record IsFine (asked : ℕ) (station : StationValue (Unit {0})) (collector : Collected) : Type 0 where
  pub unspent : station.spent ≡ false
  pub fine : collector.failed ≡ false
  pub taken : HasTakenAtMost asked station.state.host
  pub few : asked < octets_below
  pub wait_on_first : WaitOnFirst station.state.relay.outs
  pub up_to_date : IsUpToDate station.rules station.latest station.state

pub record IsEndpoint (latest asked : ℕ) (spent : Bool) (ins : List InLink) (station : StationValue (Unit {0})) (collector : Collected) : Type 0 where
  pub past : latest ≡ station.latest
  pub moment : latest ≤ most_moment
  pub links : ins ≡ station.state.relay.ins
  pub fine : spent ≡ false → IsFine asked station collector
