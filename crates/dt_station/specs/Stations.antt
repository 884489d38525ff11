-- A station as its callers see it.
use Rattle.std.specs.Prelude.{ℕ, ◌≡◌, Bool, true, false, List, Option, Some, None, Result, Ok, Err, unwrap_or}
use Rattle.dt_units.specs.declared.parameters.Params.{Params}
use Rattle.dt_world_model.specs.declared.links.OutLink.{OutLink}
use Rattle.dt_world_model.specs.declared.links.InLink.{InLink}
use Rattle.dt_world_model.specs.declared.links.Route.{Route}
use Rattle.dt_world_model.specs.Host.{Host, first_host, restarted_host}
use Rattle.dt_world_model.specs.Relay.{new_relay, with_outs}
use Rattle.dt_world_model.specs.Station.{Station, station_with}
use Rattle.dt_relay.specs.Ways as ways

pub record StationValue (T : Type 0) : Type 0 where
  pub rules : Params
  -- every later moment is no less
  pub latest : ℕ
  -- an event found no memory: the station is used no more
  pub spent : Bool
  pub state : Station T

-- WHAT NO PART OF AN EVENT CHANGES: the parameters, the moment, the node, and all of the relay but its queues.
pub record Stays {T : Type 0} (old new : StationValue T) : Type 0 where
  pub rules : new.rules ≡ old.rules
  pub latest : new.latest ≡ old.latest
  pub me : new.state.host.me ≡ old.state.host.me
  pub links : new.state.relay ≡ with_outs old.state.relay new.state.relay.outs

-- the host of a node that starts for the first time, or again at a moment
abbrev pub host_started : Params → ℕ → Option ℕ → Host
host_started p me None = first_host me
host_started p me (Some now) = restarted_host p me now

abbrev pub station_started : {T : Type 0} → Params → ℕ → Option ℕ → List OutLink → List InLink → List Route → StationValue T
station_started p me again outs ins routes =
    record { rules = p; latest = unwrap_or again 0; spent = false; state = station_with (host_started p me again) (new_relay outs ins routes) }

-- An event that found no memory leaves a spent station.
abbrev pub is_spent_by : {A E : Type 0} → Result A E → Bool
is_spent_by (Ok done) = false
is_spent_by (Err fault) = true

-- one route more, after the others
abbrev pub with_route : {T : Type 0} → Route → StationValue T → StationValue T
with_route route s = record s { state = station_with s.state.host (ways.with_route route s.state.relay) }
