use Rattle.std.proofs.Common.{rules}
use Rattle.dt_host.proofs.hosts.Host.send.Goals as goal

-- refused here: silence_ends_a_millisecond_early
pub returns-clause-answer : goal.returns-clause-answer
returns-clause-answer g c = search rules
