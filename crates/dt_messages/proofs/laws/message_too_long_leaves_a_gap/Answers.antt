use Rattle.dt_messages.proofs.LeftOut.{gap_is_had}
use Rattle.dt_messages.proofs.laws.message_too_long_leaves_a_gap.Goals as goal

pub returns : goal.returns
returns c = gap_is_had
