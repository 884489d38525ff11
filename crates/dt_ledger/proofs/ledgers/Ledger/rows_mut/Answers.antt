use Rattle.std.proofs.Common.{◌≡◌, ap, refl, subst, ◌∙◌, List}
use Rattle.std.specs.Prelude.{OnSome}
use Rattle.dt_units.specs.declared.endpoints.Flow.{Flow}
use Rattle.dt_world_model.specs.Ledgers.{FlowLedger}
use Rattle.dt_world_model.specs.Tables.{look, same_flow, write}
use Rattle.dt_world_model.proofs.Maps.{flow_looked}
use Rattle.dt_ledger.proofs.Entries.{lent}
use Rattle.dt_ledger.proofs.ledgers.Ledger.rows_mut.Goals as goal

pub returns : goal.returns
returns c =
    let f = c.args.flow.now in
    let es = c.self.inside.flows.entries in (
      (
        refl,
        (λ w. subst (λ (rows : List (Flow × FlowLedger)). OnSome c.get_mut.result ((c.get_mut.follows.lender w).entries ≡ write same_flow f w rows)) c.self.view_is (lent f c.get_mut.result w es (c.get_mut.follows.lender w).entries c.get_mut.ensures.value ((c.get_mut.follows.holds w).0))),
        ap (λ m. m.entries) c.get_mut.follows.holds-at-none ∙ c.self.view_is,
      ),
      record {
        writes_back = tt;
        value = c.get_mut.ensures.value ∙ flow_looked f es ∙ ap (look same_flow f) c.self.view_is;
      },
    )
