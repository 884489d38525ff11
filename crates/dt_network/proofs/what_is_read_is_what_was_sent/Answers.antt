use Rattle.dt_network.proofs.Going.{network_reads}
use Rattle.dt_network.proofs.what_is_read_is_what_was_sent.Goals as goal

-- src/lib.rt
pub returns : goal.returns
returns c = network_reads
