use Rattle.std.proofs.Common.{arith}
use Rattle.dt_send.proofs.RingLemmas.{bounded}
use Rattle.dt_send.proofs.senders.Sender.left.Goals as goal

pub number_at-requires : goal.number_at-requires
number_at-requires c = omega (arith, bounded _ _ c.self.invariant)
