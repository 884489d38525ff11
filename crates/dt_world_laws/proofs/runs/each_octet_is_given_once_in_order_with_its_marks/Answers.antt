use Rattle.dt_world_model.specs.World.{view}
use Rattle.dt_world_model.specs.Setup.{new_world}
use Rattle.dt_world_model.specs.WorldStep.{world_after}
use Rattle.dt_world_laws.proofs.Running.{run_ledger}
use Rattle.dt_world_laws.proofs.runs.each_octet_is_given_once_in_order_with_its_marks.Goals as goal

-- src/runs.rt
pub returns-clause-in_order : goal.returns-clause-in_order
returns-clause-in_order c = λ setup events f limits can. (run_ledger setup events f limits can).ledger.in_order

-- src/runs.rt
pub returns-clause-taken : goal.returns-clause-taken
returns-clause-taken c = λ setup events f limits can. (run_ledger setup events f limits can).ledger.in_ledger

-- src/runs.rt
pub returns-clause-intact : goal.returns-clause-intact
returns-clause-intact c = λ setup events f limits can. (run_ledger setup events f limits can).ledger.intact

-- src/runs.rt
pub returns-clause-unread : goal.returns-clause-unread
returns-clause-unread c = λ setup events f limits can. let h = run_ledger setup events f limits can in (h.ledger.read_within (view (world_after (new_world setup) events) f).receiver_life, h.unread)
