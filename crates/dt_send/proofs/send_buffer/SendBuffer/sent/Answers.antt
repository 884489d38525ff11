use Rattle.std.proofs.Common.{arith}
use Rattle.dt_send.proofs.RingLemmas.{next_is}
use Rattle.dt_send.proofs.send_buffer.SendBuffer.sent.Goals as goal

pub overflow_sub-result : goal.overflow_sub-result
overflow_sub-result c = omega (arith, next_is _ _ c.requires)

pub returns-clause-value : goal.returns-clause-value
returns-clause-value c = omega (arith, next_is _ _ c.requires)

pub returns-clause-within : goal.returns-clause-within
returns-clause-within c = omega (arith, next_is _ _ c.requires, c.requires.lie)
