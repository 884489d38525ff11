use Rattle.std.proofs.Common.{arith}
use Rattle.dt_send.proofs.RingLemmas.{held_fits}
use Rattle.dt_send.proofs.senders.Sender.waiting.Goals as goal

pub overflow_cast-result : goal.overflow_cast-result
overflow_cast-result c = omega (arith, held_fits _ _ c.self.invariant, c.self.invariant.limits.cap)
