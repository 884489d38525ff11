-- A node that was away so long that nothing of it is alive, and opens without silence.
use Rattle.std.specs.Prelude.{ℕ, ◌≡◌, ◌==◌, ◌+◌, ◌<◌, ◌≤◌, Some}
use Rattle.dt_units.specs.declared.endpoints.Flow.{Flow}
use Rattle.dt_units.specs.declared.parameters.Params.{Params}
use Rattle.dt_units.specs.Times.{quiet_time}
use Rattle.dt_flow_model.specs.Flow.{Run}
use Rattle.dt_flow_model.specs.Ledger.{last_at, top}
use Rattle.dt_world_model.specs.Host.{first_host}
use Rattle.dt_world_model.specs.Station.{station_with}
use Rattle.dt_world_model.specs.Tables.{write}
use Rattle.dt_world_model.specs.World.{Placed, World, view}
use Rattle.dt_world_model.specs.WorldStep.{restarted}

-- FOR THE QUIET TIME a station sent nothing on any flow, and accepted nothing
pub record WasAway (w : World) (n : ℕ) : Type 0 where
  pub sent : (f : Flow) (run : Run) → f.from.0 ≡ n → (view w f).run ≡ Some run → run.sent + quiet_time w.params ≤ w.now
  pub accepted : (f : Flow) → f.to.0 ≡ n → 0 < top (view w f).given → last_at (view w f).given + quiet_time w.params ≤ w.now

-- a station that starts again, but for the silence: its host is that of a first start
abbrev pub opened_at_once : Params → ℕ → Placed → Placed
opened_at_once p now at = let again = restarted p now at in record { zero = again.zero; life = again.life; station = station_with (first_host at.station.host.me) again.station.relay }

abbrev pub open_at_once : World → ℕ → Placed → World
open_at_once w n at = record w { stations = write ◌==◌ n (opened_at_once w.params w.now at) w.stations }
