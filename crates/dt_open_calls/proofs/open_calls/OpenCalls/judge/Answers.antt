use Rattle.std.proofs.Common.{ℕ, ◌+◌, ◌-◌, ◌≡◌, ◌++◌, ap, subst, sym, ◌∙◌, List, length, map, arith}
use Rattle.std.specs.Prelude.{filter, filter_map}
use Rattle.std.proofs.lemmas.List.{length-append}
use Rattle.dt_table.specs.Places.{present}
use Rattle.dt_service_model.specs.declared.calls.OpenCall.{OpenCall}
use Rattle.dt_service_model.specs.declared.happenings.Happening.{Happening}
use Rattle.dt_service_model.specs.Ends.{is_kept, judged_call, unsure_of}
use Rattle.dt_open_calls.specs.Slots.{AreDue, AreKept, Slot, unsure_slot}
use Rattle.dt_open_calls.proofs.Present.{judged_present, total_judged, unsure_present}
use Rattle.dt_open_calls.proofs.Found.{due_all_judged, due_found}
use Rattle.dt_open_calls.proofs.Kept.{kept_judged}
use Rattle.dt_open_calls.proofs.open_calls.OpenCalls.judge.Goals as goal

pub judge_slots-requires-clause-room : goal.judge_slots-requires-clause-room
judge_slots-requires-clause-room c = omega (arith, total_judged c.args.now c.self.inside.slots.items, c.self.invariant.counted, c.in_ok-reserve.ensures.ok, c.in_ok-reserve.ensures.len)

pub renew_dues-requires : goal.renew_dues-requires
renew_dues-requires c =
    let o = c.self.inside in
    subst (λ (xs : List Slot). AreDue o.index.dues.items xs) (sym c.deref-2.ensures.value)
    (due_all_judged c.args.now o.index.dues.items o.slots.items c.judge_slots.new.slots.items c.judge_slots.ensures.slots (due_found o.index.first o.index.dues.items o.index.numbers.entries o.index.flows.entries o.slots.items c.self.invariant.found))

pub invariant_of-self : goal.invariant_of-self
invariant_of-self c =
    let o = c.self.inside in
    let us : List Happening = filter_map (unsure_slot c.args.now) o.slots.items in
    let long : length c.judge_slots.new.happenings.items ≡ length c.reserve.new.self.items + length us = ap (λ (hs : List Happening). length hs) c.judge_slots.ensures.told ∙ length-append c.reserve.new.self.items us in
    let due : AreDue c.renew_dues.new.dues.items c.judge_slots.new.slots.items = subst (λ (xs : List Slot). AreDue c.renew_dues.new.dues.items xs) c.deref-2.ensures.value c.renew_dues.ensures in
    let same : o.waiting - length us ≡ c.saturating_sub-self-inside.result = omega (arith, long) in
    subst (λ (n : ℕ). AreKept n o.index.first c.renew_dues.new.dues.items o.index.numbers.entries o.index.flows.entries c.judge_slots.new.slots.items) same
    (kept_judged c.args.now o.waiting o.index.first o.index.dues.items c.renew_dues.new.dues.items o.index.numbers.entries o.index.flows.entries o.slots.items c.judge_slots.new.slots.items c.self.invariant c.judge_slots.ensures.slots due)

pub returns-clause-calls : goal.returns-clause-calls
returns-clause-calls c =
    ap present c.judge_slots.ensures.slots ∙ judged_present c.args.now c.self.inside.slots.items ∙ ap (λ (calls : List OpenCall). filter is_kept (map (judged_call c.args.now) calls)) c.self.view_is

pub returns-clause-told : goal.returns-clause-told
returns-clause-told c =
    c.judge_slots.ensures.told
    ∙ ap (λ (hs : List Happening). hs ++ filter_map (unsure_slot c.args.now) c.self.inside.slots.items) c.in_ok-reserve.ensures.items
    ∙ ap (λ (us : List Happening). c.args.happenings.now.items ++ us) (unsure_present c.args.now c.self.inside.slots.items ∙ ap (λ (calls : List OpenCall). filter_map (unsure_of c.args.now) calls) c.self.view_is)
