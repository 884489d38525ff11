use Rattle.dt_world_laws.proofs.Bare.{event_alike}
use Rattle.dt_world_laws.proofs.tags_change_nothing.Goals as goal

-- src/lib.rt
pub returns : goal.returns
returns c = event_alike
