use Rattle.std.proofs.lemmas.Grind.{common_steps}
use Rattle.std.proofs.Common.{arith}
use Rattle.dt_relay.proofs.queues.LinkQueue.pass.Goals as goal

-- refused here: straight_packet_passes_the_queue
pub returns-then-life-le1-clause-passage : goal.returns-then-life-le1-clause-passage
returns-then-life-le1-clause-passage g c = grind (arith, common_steps)
