use Rattle.std.proofs.Common.{arith}
use Rattle.dt_send.proofs.RingLemmas.{bounded, edge_bounded}
use Rattle.dt_send.proofs.senders.Sender.edge.Goals as goal

pub number_at-requires : goal.number_at-requires
number_at-requires c = omega (arith, bounded _ _ c.self.invariant, edge_bounded _ _ c.self.invariant)
