use Rattle.dt_calls_laws.proofs.Growing.{others_grow}
use Rattle.dt_calls_laws.proofs.other_events_only_give.Goals as goal

pub returns : goal.returns
returns c = others_grow
