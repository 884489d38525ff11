use Rattle.std.proofs.Common.{◌≡◌, ◌-◌, ◌<◌, List, Some, length, slice_get, sym, ap, subst, ◌∙◌, true≢false, arith}
use Rattle.dt_flow_model.specs.declared.rows.Given.{Given}
use Rattle.dt_flow_model.specs.Ledger.{top}
use Rattle.dt_ledger.specs.declared.gives.Give.{Give}
use Rattle.dt_ledger.proofs.Giving.{IsLast, last_is}
use Rattle.dt_ledger.proofs.gives.GivenRows.last_place.Goals as goal

-- the last give, by what the call of `last` says
last : (c : goal.In-Some) → IsLast c.self.inside.gives.items c.self.inside.octets.items c.in-Some.give.now
last c =
    let gives = c.self.inside.gives.items in
    let e : slice_get gives (length gives - 1) ≡ Some c.in-Some.give.now = ap (λ (xs : List Give). slice_get xs (length xs - 1)) (sym c.deref.ensures.value) ∙ sym c.in-Some.ensures.value in
    last_is gives c.self.inside.octets.items c.in-Some.give.now c.self.invariant e

pub overflow_add-result : goal.overflow_add-result
overflow_add-result c = omega (arith, (last c).below)

pub overflow_sub-result : goal.overflow_sub-result
overflow_sub-result c = omega (arith, (last c).some)

pub returns-in-Some-clause-none : goal.returns-in-Some-clause-none
returns-in-Some-clause-none c =
    (λ e. absurd (true≢false e), λ e. absurd (let some : 0 < length c.args.self.now = subst (λ (rows : List Given). 0 < length rows) c.self.view_is (last c).rows in omega (arith, some, ap (λ (rows : List Given). length rows) e)))

pub returns-in-Some-clause-last : goal.returns-in-Some-clause-last
returns-in-Some-clause-last c = omega (arith, (last c).top_is, (last c).some, ap top c.self.view_is)

pub returns-in-Some-clause-below : goal.returns-in-Some-clause-below
returns-in-Some-clause-below c = omega (arith, (last c).below, (last c).some)
