use Rattle.std.proofs.Common.{rules}
use Rattle.dt_make.proofs.rounds.put_events.Goals as goal

-- refused here: acknowledgements_in_the_other_order
pub returns-in-Plain : goal.returns-in-Plain
returns-in-Plain g c = search rules
