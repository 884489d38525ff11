use Rattle.std.proofs.Common.{rules}
use Rattle.dt_messages.proofs.joiners.Joiner.grow.Goals as goal

-- refused here: gap_is_forgotten, octets_before_a_run_mark_stay
pub returns-clause-grown : goal.returns-clause-grown
returns-clause-grown c = search rules
