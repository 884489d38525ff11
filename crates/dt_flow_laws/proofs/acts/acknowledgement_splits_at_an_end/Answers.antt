use Rattle.dt_flow_laws.proofs.Laws.{split_where}
use Rattle.dt_flow_laws.proofs.acts.acknowledgement_splits_at_an_end.Goals as goal

pub returns-clause-there : goal.returns-clause-there
returns-clause-there c = split_where
