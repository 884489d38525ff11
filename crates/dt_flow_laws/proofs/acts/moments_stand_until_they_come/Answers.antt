use Rattle.dt_flow_laws.proofs.Moments.{moment_passed}
use Rattle.dt_flow_laws.proofs.acts.moments_stand_until_they_come.Goals as goal

pub returns-clause-passed : goal.returns-clause-passed
returns-clause-passed c = moment_passed
