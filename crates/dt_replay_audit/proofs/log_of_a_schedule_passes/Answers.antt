use Rattle.std.proofs.Common.{arith}
use Rattle.dt_scenario.proofs.LineCounts.{lines_count}
use Rattle.dt_replay_audit.proofs.Turning.{schedule_passes}
use Rattle.dt_replay_audit.proofs.log_of_a_schedule_passes.Goals as goal

pub returns-clause-lines : goal.returns-clause-lines
returns-clause-lines c octets = lines_count octets

pub returns-clause-passes : goal.returns-clause-passes
returns-clause-passes c octets few = schedule_passes octets few

pub returns-clause-log_passes : goal.returns-clause-log_passes
returns-clause-log_passes c octets short = schedule_passes octets (let few = lines_count octets in omega (arith, few, short))
