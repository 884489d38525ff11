use Rattle.std.proofs.Common.{rules}
use Rattle.dt_endpoint.proofs.collectors.Collector.next_frame.Goals as goal

-- refused here: frames_are_handed_out_backwards
pub returns-clause-first : goal.returns-clause-first
returns-clause-first c = search rules
