use Rattle.dt_world_model.specs.World.{view}
use Rattle.dt_world_laws.proofs.Lifting.{lifted_fates}
use Rattle.dt_world_laws.proofs.Worlds.{step_keeps_world}
use Rattle.dt_world_laws.proofs.step_keeps_facts.Goals as goal

-- src/lib.rt
pub returns-clause-facts : goal.returns-clause-facts
returns-clause-facts c = λ w e lines after limits can facts is. (step_keeps_world w limits facts e lines after can is).0

-- src/lib.rt
pub returns-clause-lift : goal.returns-clause-lift
returns-clause-lift c = λ w e lines after f limits can facts is. (step_keeps_world w limits facts e lines after can is).1 f

-- src/lib.rt
pub returns-clause-fates : goal.returns-clause-fates
returns-clause-fates c = λ w e lines after f limits can facts is. lifted_fates w.params (view w f) (view after f) ((step_keeps_world w limits facts e lines after can is).1 f)
