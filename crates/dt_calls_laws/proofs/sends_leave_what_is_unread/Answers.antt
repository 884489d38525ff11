use Rattle.dt_calls_laws.proofs.SendsUnread.{station_keeps_unread}
use Rattle.dt_calls_laws.proofs.sends_leave_what_is_unread.Goals as goal

pub returns : goal.returns
returns c = station_keeps_unread
