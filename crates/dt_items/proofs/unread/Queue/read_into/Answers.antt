use Rattle.dt_items.proofs.Longest.{first_piece-is_longest}
use Rattle.dt_items.proofs.unread.Queue.read_into.Goals as goal

pub returns-clause-longest : goal.returns-clause-longest
returns-clause-longest c = first_piece-is_longest _ _
