use Rattle.std.proofs.Common.{rules}
use Rattle.dt_messages.proofs.call_messages.write_message.Goals as goal

-- refused here: message_has_no_number
pub returns : goal.returns
returns c = search rules
