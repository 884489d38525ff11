use Rattle.std.proofs.Common.{rules}
use Rattle.dt_text.proofs.tasks.Task.of.Goals as goal

-- refused here: read_asks_for_memory
pub returns-in-Read-clause-memory : goal.returns-in-Read-clause-memory
returns-in-Read-clause-memory c = search rules
