-- Where a read tells nothing and changes nothing: nothing is unread, and the station rests.
use Rattle.std.specs.Prelude.{◌≡◌, List, [], ◌∷◌}
use Rattle.dt_units.specs.declared.endpoints.Flow.{Flow}
use Rattle.dt_world_model.specs.World.{World, view}
use Rattle.dt_calls_model.specs.Calls.{Side, flow_read}
use Rattle.dt_calls_model.specs.Rests.{RestsIn}

pub record RestsAt (w : World) (g : Flow) : Type 0 where
  pub unread : (view w g).unread ≡ []
  pub rests : RestsIn w g.to.0

-- one side of each of these flows
abbrev pub AllRest : Side → World → List Flow → Type 0
AllRest side w [] = Unit {0}
AllRest side w (k ∷ ks) = RestsAt w (flow_read side k) × AllRest side w ks
