use Rattle.std.proofs.Common.{rules}
use Rattle.dt_recv.proofs.records.Record.release.Goals as goal

-- refused here: released_early
pub returns : goal.returns
returns c = search rules
