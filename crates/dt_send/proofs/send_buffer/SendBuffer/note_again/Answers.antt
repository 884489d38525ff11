use Rattle.std.proofs.Common.{rules}
use Rattle.dt_send.proofs.send_buffer.SendBuffer.note_again.Goals as goal

-- refused here: a_retransmission_does_not_touch_the_record
pub returns : goal.returns
returns c = search rules
