use Rattle.std.proofs.Common.{rules}
use Rattle.dt_audit.proofs.flow_notes.FlowNotes.acknowledge.Goals as goal

-- refused here: acknowledged_before_it_is_accepted
pub returns-clause-notes : goal.returns-clause-notes
returns-clause-notes c = search rules
