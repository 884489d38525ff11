use Rattle.dt_send.proofs.SenderLemmas.{ring_is}
use Rattle.dt_send.proofs.senders.Sender.ring.Goals as goal

pub returns : goal.returns
returns c = rw (← c.self.view_is) (ring_is c.self.inside.rules.value c.self.inside.buffer c.self.invariant)
