use Rattle.std.proofs.Common.{rules}
use Rattle.dt_items.proofs.unread.take_piece.Goals as goal

-- refused here: a_read_leaves_what_it_took
pub returns-clause-taken : goal.returns-clause-taken
returns-clause-taken c = search rules
