use Rattle.std.proofs.Common.{rules}
use Rattle.dt_scenario.proofs.scenarios.ScenarioLineTurns.close.Goals as goal

-- refused here: input_without_go_is_accepted
pub returns-in-Nothing : goal.returns-in-Nothing
returns-in-Nothing g c = search rules
