use Rattle.std.proofs.Common.{rules}
use Rattle.dt_edges.proofs.readers.ReaderSourceSource.take.Goals as goal

-- refused here: an_error_is_the_end
pub returns-in-Err-clause-reads : goal.returns-in-Err-clause-reads
returns-in-Err-clause-reads g c = search rules
