use Rattle.dt_flow_laws.proofs.Sums.{record_fits}
use Rattle.dt_flow_laws.proofs.ranges.sums_of_records_fit.Goals as goal

pub returns-clause-sender : goal.returns-clause-sender
returns-clause-sender c = λ p limits now by x kept up end. record_fits p limits now by x kept up end
