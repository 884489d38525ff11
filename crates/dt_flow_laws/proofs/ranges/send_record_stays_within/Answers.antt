use Rattle.dt_flow_laws.proofs.ranges.send_record_stays_within.Goals as goal
use Rattle.dt_flow_model.proofs.Records.{acked_kept}

pub returns-clause-acked : goal.returns-clause-acked
returns-clause-acked c = λ p x gone rest w h split le. acked_kept p x gone rest w h split le
