use Rattle.std.proofs.Common.{rules}
use Rattle.dt_host.proofs.hosts.Host.restarted.Goals as goal

-- refused here: restarted_host_has_no_quiet_time
pub returns : goal.returns
returns c = search rules
