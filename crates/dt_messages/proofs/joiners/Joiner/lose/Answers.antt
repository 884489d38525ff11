use Rattle.std.proofs.Common.{rules}
use Rattle.dt_messages.proofs.joiners.Joiner.lose.Goals as goal

-- refused here: lost_octets_leave_no_gap
pub returns : goal.returns
returns c = search rules
