use Rattle.std.proofs.Common.{rules}
use Rattle.dt_messages.proofs.joiners.Joiner.drop_begun.Goals as goal

-- refused here: long_message_is_not_counted, long_message_leaves_no_gap
pub returns : goal.returns
returns c = search rules
