use Rattle.std.proofs.Common.{rules}
use Rattle.dt_audit.proofs.flow_notes.FlowNotes.accept.Goals as goal

-- refused here: doubled_acceptance_passes
pub returns-then-not-goes_on-clause-notes : goal.returns-then-not-goes_on-clause-notes
returns-then-not-goes_on-clause-notes c = search rules
