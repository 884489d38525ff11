use Rattle.std.proofs.Common.{◌<◌, ◌++◌, List, length, refl, ap, ◌∙◌, arith}
use Rattle.std.proofs.lemmas.Bool.Decides.{nat_tests}
use Rattle.dt_flow_model.specs.declared.rows.Given.{Given}
use Rattle.dt_ledger.specs.Gives.{rows_given}
use Rattle.dt_ledger.proofs.Giving.{given_in_all-push, have_octets-push}
use Rattle.dt_ledger.proofs.gives.GivenRows.give.Goals as goal

pub invariant_of-self-2 : goal.invariant_of-self-2
invariant_of-self-2 c =
    let gives = c.self.inside.gives.items in
    let octets = c.self.inside.octets.items in
    let more = c.args.given.now.payload.octets.now in
    let some : 0 < length more = grind (arith, nat_tests, c.is_empty.ensures, c.if-is_empty.false) in
    rw (c.push_reserved.ensures.items, c.reserve.ensures.items, c.in_ok-extend_from_slice.ensures.items, c.reserve-2.ensures.items)
    (have_octets-push gives octets _ more c.self.invariant refl some c.args.given.now.below)

pub returns-clause-ok : goal.returns-clause-ok
returns-clause-ok c =
    let gives = c.self.inside.gives.items in
    let octets = c.self.inside.octets.items in
    let more = c.args.given.now.payload.octets.now in
    rw (c.push_reserved.ensures.items, c.reserve.ensures.items, c.in_ok-extend_from_slice.ensures.items, c.reserve-2.ensures.items)
    (given_in_all-push gives octets _ more c.self.invariant refl ∙ ap (λ (rows : List Given). rows ++ rows_given c.args.given.now) c.self.view_is)
