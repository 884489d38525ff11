use Rattle.dt_node.proofs.Repeated.{run_again}
use Rattle.dt_node.proofs.laws.traced_run_is_run_again.Goals as goal

pub returns : goal.returns
returns c script o outcome before after accepted run whole few again old new h = run_again o outcome before after run whole few script accepted again old new h
