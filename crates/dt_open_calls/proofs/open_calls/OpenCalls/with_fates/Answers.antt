use Rattle.std.proofs.Common.{ℕ, ◌≡◌, ap, ◌∙◌, List, Some, None, sym}
use Rattle.std.specs.Map.{lookup}
use Rattle.dt_table.specs.Places.{equal_flows, present}
use Rattle.dt_service_model.specs.declared.calls.OpenCall.{OpenCall}
use Rattle.dt_service_model.specs.Hearing.{with_fates}
use Rattle.dt_open_calls.proofs.Present.{fated_present}
use Rattle.dt_open_calls.proofs.Settled.{nothing_settled}
use Rattle.dt_open_calls.proofs.Kept.{flow_span, kept_fated, narrowed, no_flow}
use Rattle.dt_open_calls.proofs.open_calls.OpenCalls.with_fates.Goals as goal

pub returns-in_default : goal.returns-in_default
returns-in_default c =
    let o = c.self.inside in
    let f = c.args.flow.now in
    let none : lookup (equal_flows f) o.index.flows.entries ≡ None = sym (c.copied.ensures ∙ c.get.ensures.value) ∙ c.in_default.is in
    sym c.self.view_is
    ∙ ap present (sym (nothing_settled c.args.given_up f c.args.count o.slots.items (no_flow o.waiting o.index.first o.index.dues.items o.index.numbers.entries o.index.flows.entries o.slots.items c.self.invariant f none)))
    ∙ fated_present c.args.given_up f c.args.count o.slots.items
    ∙ ap (λ (calls : List OpenCall). with_fates c.args.given_up f c.args.count calls) c.self.view_is

pub settle_fates-first-requires-clause-span : goal.settle_fates-first-requires-clause-span
settle_fates-first-requires-clause-span c =
    let o = c.self.inside in
    let f = c.args.flow.now in
    let is : lookup (equal_flows f) o.index.flows.entries ≡ Some c.in-Some.span = sym (c.copied.ensures ∙ c.get.ensures.value) ∙ c.in-Some.is in
    flow_span o.waiting o.index.first o.index.dues.items o.index.numbers.entries o.index.flows.entries o.slots.items c.self.invariant f c.in-Some.span is

pub invariant_of-self : goal.invariant_of-self
invariant_of-self c =
    let o = c.self.inside in
    let f = c.args.flow.now in
    let s = c.settle_fates-first in
    let after = s.new.slots.items in
    kept_fated c.args.given_up f c.args.count o.waiting o.index.first o.index.dues.items s.new.dues.items o.index.numbers.entries o.index.flows.entries c.narrow_flow.new.flows.entries o.slots.items after c.self.invariant s.ensures.slots s.ensures.due c.narrow_flow.ensures.same
    (narrowed f s.result c.in-Some.span.last c.is_done-done.result o.index.flows.entries c.narrow_flow.new.flows.entries after s.ensures.reached c.is_done-done.ensures c.narrow_flow.ensures.here)

pub returns : goal.returns
returns c =
    ap present c.settle_fates-first.ensures.slots
    ∙ fated_present c.args.given_up c.args.flow.now c.args.count c.self.inside.slots.items
    ∙ ap (λ (calls : List OpenCall). with_fates c.args.given_up c.args.flow.now c.args.count calls) c.self.view_is
