use Rattle.std.proofs.Common.{rules}
use Rattle.dt_send.proofs.send_buffer.SendBuffer.spaced_from.Goals as goal

-- refused here: the_spacing_is_left_out
pub returns-in-Some : goal.returns-in-Some
returns-in-Some c = search rules
