use Rattle.std.proofs.Common.{rules}
use Rattle.dt_scenario.proofs.scenario_phases.add.Goals as goal

-- refused here: link_goes_the_other_way
pub returns-in-Link-clause-ok : goal.returns-in-Link-clause-ok
returns-in-Link-clause-ok c = search rules
