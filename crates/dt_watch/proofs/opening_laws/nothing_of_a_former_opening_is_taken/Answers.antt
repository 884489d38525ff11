use Rattle.dt_watch.proofs.Leaving.{none_is_taken}
use Rattle.dt_watch.proofs.opening_laws.nothing_of_a_former_opening_is_taken.Goals as goal

pub returns : goal.returns
returns c = none_is_taken
