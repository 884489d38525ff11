use Rattle.std.proofs.Common.{rules}
use Rattle.dt_machine.proofs.peers.link_of.Goals as goal

-- refused here: another_peers_link
pub returns-clause-some : goal.returns-clause-some
returns-clause-some c = search rules
