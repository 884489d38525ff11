use Rattle.std.proofs.Common.{rules}
use Rattle.dt_call_book.proofs.begun_messages.joined.Goals as goal

-- refused here: octets_go_on_behind_a_run_mark
pub returns : goal.returns
returns c = search rules
