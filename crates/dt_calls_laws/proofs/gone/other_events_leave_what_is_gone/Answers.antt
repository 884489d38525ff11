use Rattle.dt_calls_laws.proofs.Calm.{others_calm}
use Rattle.dt_calls_laws.proofs.gone.other_events_leave_what_is_gone.Goals as goal

pub returns : goal.returns
returns c = others_calm
