use Rattle.std.proofs.Common.{sym, ◌∙◌, arith}
use Rattle.dt_send.proofs.RingLemmas.{held_fits, held_is}
use Rattle.dt_send.proofs.senders.Sender.held.Goals as goal

pub overflow_cast-result : goal.overflow_cast-result
overflow_cast-result c = omega (arith, held_fits _ _ c.self.invariant, c.self.invariant.limits.cap)

pub returns-clause-value : goal.returns-clause-value
returns-clause-value c = rw (← c.self.view_is) (c.len.ensures.len ∙ sym (held_is c.self.inside.rules.value c.self.inside.buffer c.self.invariant))
