use Rattle.dt_calls_laws.proofs.Calm.{others_give, restart_unread}
use Rattle.dt_calls_laws.proofs.gone.what_is_given_is_unread.Goals as goal

pub returns-clause-given : goal.returns-clause-given
returns-clause-given c = others_give

pub returns-clause-restarted : goal.returns-clause-restarted
returns-clause-restarted c = restart_unread
