use Rattle.dt_calls_laws.proofs.Ended.{rests_after}
use Rattle.dt_calls_laws.proofs.station_rests_after_its_event.Goals as goal

pub returns : goal.returns
returns c = rests_after
