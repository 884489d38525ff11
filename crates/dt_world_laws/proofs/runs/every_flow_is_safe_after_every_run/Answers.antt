use Rattle.dt_world_laws.proofs.Running.{run_is_safe}
use Rattle.dt_world_laws.proofs.runs.every_flow_is_safe_after_every_run.Goals as goal

-- src/runs.rt
pub returns : goal.returns
returns c = run_is_safe
