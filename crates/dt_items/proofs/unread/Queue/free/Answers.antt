use Rattle.std.proofs.Common.{rules}
use Rattle.dt_items.proofs.unread.Queue.free.Goals as goal

-- refused here: free_counts_what_was_read
pub returns : goal.returns
returns c = search rules
