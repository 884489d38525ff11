use Rattle.std.proofs.Common.{rules}
use Rattle.dt_recv.proofs.records.paid.Goals as goal

-- refused here: reply_leaves_what_is_owed
pub returns : goal.returns
returns c = search rules
