use Rattle.std.proofs.Common.{refl}
use Rattle.dt_world_model.specs.Relay.{emptied}
use Rattle.dt_world_laws.proofs.Linking.{event_kept}
use Rattle.dt_world_laws.proofs.settling.event_leaves_links_and_routes.Goals as goal

-- src/settling.rt
pub returns : goal.returns
returns c s = λ p now event station. event_kept (emptied station.relay) p now event station refl
