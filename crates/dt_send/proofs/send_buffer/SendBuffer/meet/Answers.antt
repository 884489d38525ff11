use Rattle.std.proofs.Common.{rules}
use Rattle.dt_send.proofs.send_buffer.SendBuffer.meet.Goals as goal

-- refused here: a_rendezvous_does_not_touch_the_record
pub returns-clause-acts : goal.returns-clause-acts
returns-clause-acts c = search rules
