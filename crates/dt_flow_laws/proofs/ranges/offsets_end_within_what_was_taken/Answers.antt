use Rattle.dt_flow_laws.proofs.Records.{taken_is_counted}
use Rattle.dt_flow_laws.proofs.ranges.offsets_end_within_what_was_taken.Goals as goal
use Rattle.dt_flow_model.proofs.Records.{acked_counts}

pub returns-clause-acked : goal.returns-clause-acked
returns-clause-acked c = acked_counts

pub returns-clause-flow : goal.returns-clause-flow
returns-clause-flow c = taken_is_counted
