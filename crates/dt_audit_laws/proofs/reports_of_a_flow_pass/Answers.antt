use Rattle.dt_audit_laws.proofs.Reports.{ack_passes, act_passes, data_passes, taking_passes}
use Rattle.dt_audit_laws.proofs.reports_of_a_flow_pass.Goals as goal

pub returns-clause-act : goal.returns-clause-act
returns-clause-act c p s f node x act log is h chosen follows = act_passes p s f node x act log is h chosen follows

pub returns-clause-taken : goal.returns-clause-taken
returns-clause-taken c p s f node items log follows = taking_passes p s f node items log follows

pub returns-clause-acknowledged : goal.returns-clause-acknowledged
returns-clause-acknowledged c p s f node x after gone rest window log is split h g follows = ack_passes p s f node x after gone rest window log is split h g follows

pub returns-clause-came : goal.returns-clause-came
returns-clause-came c p s f node q drf items from_port to_port begin end octets log kind alive fits h g follows = data_passes p s f node q drf items from_port to_port begin end octets log kind alive fits h follows g
