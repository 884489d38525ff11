use Rattle.std.proofs.Common.{List, length, ap, arith}
use Rattle.dt_flow_model.specs.declared.rows.Given.{Given}
use Rattle.dt_ledger.proofs.Giving.{length-given_in_all}
use Rattle.dt_ledger.proofs.gives.GivenRows.count.Goals as goal

pub returns : goal.returns
returns c =
    omega (arith, length-given_in_all c.self.inside.gives.items c.self.inside.octets.items c.self.invariant, ap (λ (xs : List Given). length xs) c.self.view_is, c.self.inside.octets.ok.0)
