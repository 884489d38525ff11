use Rattle.dt_watch.proofs.Leaving.{made_before, proved_by}
use Rattle.dt_watch.proofs.opening_laws.former_opening_has_no_later_reading.Goals as goal

pub returns : goal.returns
returns c = record { made = made_before; proved = proved_by }
