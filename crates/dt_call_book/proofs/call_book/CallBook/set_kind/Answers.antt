use Rattle.std.proofs.Common.{rules}
use Rattle.dt_call_book.proofs.call_book.CallBook.set_kind.Goals as goal

-- refused here: port_changes_its_kind
pub returns-clause-given : goal.returns-clause-given
returns-clause-given c = search rules
