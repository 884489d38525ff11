use Rattle.std.proofs.lemmas.Grind.{common_steps}
use Rattle.std.proofs.Common.{arith}
use Rattle.dt_relay.proofs.relays.Relay.wake.Goals as goal

-- refused here: wake_is_the_last_of_all
pub loop-queue-preserved : goal.loop-queue-preserved
loop-queue-preserved g c = grind (arith, common_steps)
