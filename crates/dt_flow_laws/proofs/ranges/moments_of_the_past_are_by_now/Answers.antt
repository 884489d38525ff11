use Rattle.dt_flow_laws.proofs.Records.{acked_up_to}
use Rattle.dt_flow_laws.proofs.ranges.moments_of_the_past_are_by_now.Goals as goal

pub returns-clause-acked : goal.returns-clause-acked
returns-clause-acked c = acked_up_to
