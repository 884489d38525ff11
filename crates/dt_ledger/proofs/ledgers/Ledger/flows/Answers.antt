use Rattle.std.proofs.Common.{subst}
use Rattle.dt_world_model.specs.Tables.{Distinct, same_flow}
use Rattle.dt_world_model.proofs.Maps.{flows_distinct}
use Rattle.dt_ledger.proofs.ledgers.Ledger.flows.Goals as goal

pub returns-clause-distinct : goal.returns-clause-distinct
returns-clause-distinct c = subst (Distinct same_flow) c.self.view_is (flows_distinct c.self.inside.flows.entries c.len.ensures.unique)
