use Rattle.dt_world_laws.proofs.Reported.{entry_changes, entry_stays}
use Rattle.dt_world_laws.proofs.reports.report_changes_one_flow.Goals as goal

-- src/reports.rt
pub returns-clause-here : goal.returns-clause-here
returns-clause-here c = entry_changes

-- src/reports.rt
pub returns-clause-others : goal.returns-clause-others
returns-clause-others c = entry_stays
