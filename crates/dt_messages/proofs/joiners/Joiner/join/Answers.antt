use Rattle.std.proofs.Common.{rules}
use Rattle.dt_messages.proofs.joiners.Joiner.join.Goals as goal

-- refused here: gap_is_told_again
pub returns-clause-after : goal.returns-clause-after
returns-clause-after c = search rules
