use Rattle.dt_calls_laws.proofs.OneMessage.{one_message}
use Rattle.dt_calls_laws.proofs.items_between_marks_are_one_message.Goals as goal

pub returns : goal.returns
returns c = one_message
