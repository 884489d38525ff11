-- What a station keeps over an event.
use Rattle.std.proofs.Common.{◌≡◌, ℕ, ◌+◌, List, Result, Ok, Err}
use Rattle.std.specs.Prelude.{OnOk}
use Rattle.dt_reports.specs.Told.{Told}
use Rattle.dt_world_model.specs.Host.{Host, IsCurrentHost}
use Rattle.dt_world_model.specs.Relay.{Parcel}
use Rattle.dt_world_model.specs.Script.{Concludes}
use Rattle.dt_world_model.specs.Station.{Event, Station, station_event}
use Rattle.dt_station.specs.Stations.{StationValue, is_spent_by}
use Rattle.dt_station.proofs.Playing.{answers_hold}
use Rattle.dt_endpoint.specs.Endpoints.{GoesOn}
use Rattle.dt_endpoint.specs.Waking.{WaitOnFirst}
use Rattle.dt_world_laws.specs.Counting.{HasTakenAtMost, octets_sent}
use Rattle.dt_world_laws.proofs.Counting.{event_few}
use Rattle.dt_endpoint.proofs.Flushed.{StationStill, event_still}
use Rattle.dt_endpoint.proofs.UpToDate.{up_to_date}

module _ {V : Type 0} (tells : V → Told → V → Type 0) (tags : V → Host → List ℕ → Unit {0} → V → Type 0) (hands : V → ℕ → Parcel (Unit {0}) → V → Type 0) (fails : V → V → Type 0) where
  pub event_goes : {E : Type 0} (result : Result (Unit {0}) E) (now : ℕ) (event : Event (Unit {0})) (old new : StationValue (Unit {0})) (v w : V) → Concludes tells tags hands fails result (station_event old.rules now event old.state) v w new.state → new.spent ≡ is_spent_by result → OnOk result (IsCurrentHost new.rules now new.state.host) → OnOk result (GoesOn now (octets_sent event) old new)
  event_goes (Ok done) now event old new v w h spent current = record {
    unspent = spent;
    taken = λ bound few. answers_hold tells tags hands fails (λ (after : Station (Unit {0})). HasTakenAtMost (bound + octets_sent event) after.host) (station_event old.rules now event old.state) v w new.state (event_few old.rules now bound event old.state few) h;
    wait_on_first = λ first. (still first).1;
    up_to_date = λ first. up_to_date new.rules now new.state current (still first);
  }
    where
      still : WaitOnFirst old.state.relay.outs → StationStill now new.state
      still first = answers_hold tells tags hands fails (StationStill now) (station_event old.rules now event old.state) v w new.state (event_still now old.rules event old.state first) h
  event_goes (Err e) now event old new v w h spent current = tt
