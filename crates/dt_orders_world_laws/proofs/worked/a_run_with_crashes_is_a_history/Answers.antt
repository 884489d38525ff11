use Rattle.std.proofs.Common.{refl}
use Rattle.dt_orders_world_laws.proofs.Running.{at_told}
use Rattle.dt_orders_world_laws.proofs.worked.a_run_with_crashes_is_a_history.Goals as goal

pub returns : goal.returns
returns c = record { runs = at_told; told = refl }
