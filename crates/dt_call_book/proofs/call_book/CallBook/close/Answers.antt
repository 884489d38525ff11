use Rattle.std.proofs.Common.{rules}
use Rattle.dt_call_book.proofs.call_book.CallBook.close.Goals as goal

-- refused here: closed_node_forgets_what_waits
pub returns : goal.returns
returns c = search rules
