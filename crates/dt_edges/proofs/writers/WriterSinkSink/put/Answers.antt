use Rattle.std.proofs.Common.{rules}
use Rattle.dt_edges.proofs.writers.WriterSinkSink.put.Goals as goal

-- refused here: takes_nothing_and_says_ok
pub returns-in-Ok-clause-some : goal.returns-in-Ok-clause-some
returns-in-Ok-clause-some g c = search rules
