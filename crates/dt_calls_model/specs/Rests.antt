-- A station at rest: after an event, until time passes, nothing is due at it.
use Rattle.std.specs.Prelude.{ℕ, ◌+◌, ◌≡◌, ◌==◌, MatchBool, List, [], ◌∷◌, Some, None}
use Rattle.dt_units.specs.declared.parameters.Params.{Params}
use Rattle.dt_world_model.specs.Host.{IsCurrentHost}
use Rattle.dt_world_model.specs.Relay.{Out, leave}
use Rattle.dt_world_model.specs.Station.{Station}
use Rattle.dt_world_model.specs.Tables.{look}
use Rattle.dt_world_model.specs.World.{Placed, World}

-- no packet may leave the link, where there is one of that number
abbrev pub LinkRests : {T : Type 0} → ℕ → ℕ → List (Out T) → Type 0
LinkRests now link [] = Unit {0}
LinkRests now link (out ∷ outs) = MatchBool (out.link == link) ((leave now out).0 ≡ None) (LinkRests now link outs)

abbrev pub LinksRest : {T : Type 0} → ℕ → List (Out T) → Type 0
LinksRest now outs = (link : ℕ) → LinkRests now link outs

-- A STATION RESTS where no act of its host is due and no packet may leave.
pub record Rests {T : Type 0} (p : Params) (now : ℕ) (station : Station T) : Type 0 where
  pub acts : IsCurrentHost p now station.host
  pub links : LinksRest now station.relay.outs

-- the station of a node rests in the world, if it is there
abbrev pub RestsIn : World → ℕ → Type 0
RestsIn w n = (at : Placed) → look ◌==◌ n w.stations ≡ Some at → Rests w.params (w.now + at.zero) at.station
