-- A station that is up to date at a moment: nothing is due then, and its wake is later, but for that of a resend that was missed.
use Rattle.std.specs.Prelude.{ℕ, ◌<◌, ◌≡◌, ◌⊎◌, List, [], ◌∷◌, ◌++◌, None, Some}
use Rattle.std.specs.List.{All}
use Rattle.dt_units.specs.declared.parameters.Params.{Params}
use Rattle.dt_units.specs.declared.endpoints.Flow.{Flow}
use Rattle.dt_flow_model.specs.SendActs.{HoldsMissed}
use Rattle.dt_flow_model.specs.SendRecord.{SendRecord}
use Rattle.dt_world_model.specs.Host.{Host}
use Rattle.dt_world_model.specs.Relay.{Out}
use Rattle.dt_world_model.specs.Station.{Station, station_wake}
use Rattle.dt_world_laws.specs.Waking.{due_at}

-- A sender of the host holds a segment that was to go out again at the moment, and may do so no more: the time `r` from its first transmission is over.
pub record MissedResend (p : Params) (now moment : ℕ) (host : Host) : Type 0 where
  pub before : List (Flow × SendRecord)
  pub flow : Flow
  pub sender : SendRecord
  pub after : List (Flow × SendRecord)
  pub split : host.senders ≡ before ++ (flow, sender) ∷ after
  pub missed : HoldsMissed p now moment sender.outstanding

pub record IsUpToDate (p : Params) (now : ℕ) (station : Station (Unit {0})) : Type 0 where
  pub nothing_due : due_at p now station ≡ None
  pub later : (moment : ℕ) → station_wake p station ≡ Some moment → (now < moment) ⊎ MissedResend p now moment station.host

-- Packets wait on the first link of each number alone, since routes find no other.
abbrev pub IsEmptyFor : ℕ → Out (Unit {0}) → Type 0
IsEmptyFor link out = out.link ≡ link → out.waits ≡ []

abbrev pub WaitOnFirst : List (Out (Unit {0})) → Type 0
WaitOnFirst [] = Unit {0}
WaitOnFirst (out ∷ outs) = All (IsEmptyFor out.link) outs × WaitOnFirst outs
