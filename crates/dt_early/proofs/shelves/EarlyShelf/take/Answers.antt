use Rattle.std.proofs.Common.{rules, ◌≡◌, ◌∙◌, ◌<◌, ap, get_or, length, subst, sym, arith, refl, ℕ, Option, Some, None, List}
use Rattle.std.specs.List.{position}
use Rattle.dt_early.specs.Early.{Early, EarlyShelf, expected_at, is_ready}
use Rattle.dt_early.proofs.Picking.{falls, left_by, nowhere, stays_as, took}
use Rattle.dt_early.proofs.shelves.EarlyShelf.take.Goals as goal

pub returns-in_err-place-clause-taken : goal.returns-in_err-place-clause-taken
returns-in_err-place-clause-taken c =
    let test = is_ready (expected_at c.args.endpoint.now.state.host c.args.flow.now) c.args.now c.args.flow.now in
    let at : position test c.args.self.now.held ≡ None = rw c.expected_by-expected.ensures at (sym c.ready_place.ensures ∙ c.in_err-place.was) in
    rw (nowhere test c.args.self.now.held at) (search rules)

pub returns-in_err-place-clause-left : goal.returns-in_err-place-clause-left
returns-in_err-place-clause-left c =
    let test = is_ready (expected_at c.args.endpoint.now.state.host c.args.flow.now) c.args.now c.args.flow.now in
    let at : position test c.args.self.now.held ≡ None = rw c.expected_by-expected.ensures at (sym c.ready_place.ensures ∙ c.in_err-place.was) in
    stays_as test c.args.self.now at

pub returns-clause-taken : goal.returns-clause-taken
returns-clause-taken c =
    let test = is_ready (expected_at c.args.endpoint.now.state.host c.args.flow.now) c.args.now c.args.flow.now in
    let at : position test c.args.self.now.held ≡ Some c.in_ok-place.place = rw c.expected_by-expected.ensures at (sym c.ready_place.ensures ∙ c.in_ok-place.was) in
    let held : c.self.inside.held.items ≡ c.args.self.now.held = ap (λ (s : EarlyShelf). s.held) c.self.view_is in
    took test c.args.self.now.held c.in_ok-place.place c.remove.result at (rw (sym held) c.remove.ensures.value)

pub returns-clause-left : goal.returns-clause-left
returns-clause-left c =
    let test = is_ready (expected_at c.args.endpoint.now.state.host c.args.flow.now) c.args.now c.args.flow.now in
    let at : position test c.args.self.now.held ≡ Some c.in_ok-place.place = rw c.expected_by-expected.ensures at (sym c.ready_place.ensures ∙ c.in_ok-place.was) in
    left_by test c.self.inside.most c.self.inside.of_flow c.self.inside.held.items c.remove.new.self.items c.args.self.now c.in_ok-place.place c.remove.result c.self.view_is at c.remove.ensures.value c.remove.ensures.items
