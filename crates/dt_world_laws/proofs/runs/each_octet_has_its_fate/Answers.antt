use Rattle.dt_world_laws.proofs.Running.{fates_stay, run_ledger}
use Rattle.dt_world_laws.proofs.runs.each_octet_has_its_fate.Goals as goal

-- src/runs.rt
pub returns-clause-acknowledged : goal.returns-clause-acknowledged
returns-clause-acknowledged c = λ setup events f limits can. (run_ledger setup events f limits can).ledger.acknowledged_given

-- src/runs.rt
pub returns-clause-passed_over : goal.returns-clause-passed_over
returns-clause-passed_over c = λ setup events f limits can. (run_ledger setup events f limits can).ledger.skips_reported

-- src/runs.rt
pub returns-clause-stays : goal.returns-clause-stays
returns-clause-stays c = fates_stay
