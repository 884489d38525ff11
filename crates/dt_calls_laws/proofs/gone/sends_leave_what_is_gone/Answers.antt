use Rattle.dt_calls_laws.proofs.Calm.{send_steady, send_unread}
use Rattle.dt_calls_laws.proofs.gone.sends_leave_what_is_gone.Goals as goal

pub returns-clause-gone : goal.returns-clause-gone
returns-clause-gone c = send_steady

pub returns-clause-unread : goal.returns-clause-unread
returns-clause-unread c = send_unread
