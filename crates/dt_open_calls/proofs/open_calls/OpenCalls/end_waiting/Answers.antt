use Rattle.std.proofs.Common.{ℕ, ◌≡◌, ◌-◌, ◌<◌, true, false, is_some, List, Option, Some, None, nat_eq, ap, ◌∙◌, sym, subst, arith}
use Rattle.std.specs.List.{position}
use Rattle.std.specs.Map.{lookup}
use Rattle.dt_table.specs.Places.{present}
use Rattle.dt_service_model.specs.declared.calls.OpenCall.{OpenCall}
use Rattle.dt_service_model.specs.Names.{to_u64}
use Rattle.dt_service_model.specs.Whole.{is_waiting_call}
use Rattle.dt_open_calls.specs.Slots.{AreKept, ended_in}
use Rattle.dt_open_calls.proofs.Present.{ended_present, is_found}
use Rattle.dt_open_calls.proofs.Kept.{kept_ended, none_before, none_in_span, not_found, nowhere_waiting, place_in_span, waits_there}
use Rattle.dt_open_calls.proofs.open_calls.OpenCalls.end_waiting.Goals as goal

pub returns-in_default-clause-found : goal.returns-in_default-clause-found
returns-in_default-clause-found c =
    let o = c.self.inside in
    let n = c.args.number in
    let f = c.args.flow.now in
    let none : lookup (nat_eq (to_u64 n)) o.index.numbers.entries ≡ None = ap (λ (k : ℕ). lookup (nat_eq k) o.index.numbers.entries) (sym c.to_u64.ensures.one) ∙ sym (c.copied.ensures ∙ c.get.ensures.value) ∙ c.in_default.is in
    (not_found (is_waiting_call f n) (present o.slots.items) c.args.self.now c.self.view_is (nowhere_waiting o.waiting o.index.first o.index.dues.items o.index.numbers.entries o.index.flows.entries o.slots.items c.self.invariant f n none)).0

pub returns-in_default-clause-ended : goal.returns-in_default-clause-ended
returns-in_default-clause-ended c =
    let o = c.self.inside in
    let n = c.args.number in
    let f = c.args.flow.now in
    let none : lookup (nat_eq (to_u64 n)) o.index.numbers.entries ≡ None = ap (λ (k : ℕ). lookup (nat_eq k) o.index.numbers.entries) (sym c.to_u64.ensures.one) ∙ sym (c.copied.ensures ∙ c.get.ensures.value) ∙ c.in_default.is in
    (not_found (is_waiting_call f n) (present o.slots.items) c.args.self.now c.self.view_is (nowhere_waiting o.waiting o.index.first o.index.dues.items o.index.numbers.entries o.index.flows.entries o.slots.items c.self.invariant f n none)).1

pub returns-in_default-find_waiting-clause-found : goal.returns-in_default-find_waiting-clause-found
returns-in_default-find_waiting-clause-found c =
    let o = c.self.inside in
    let n = c.args.number in
    let f = c.args.flow.now in
    let is : lookup (nat_eq (to_u64 n)) o.index.numbers.entries ≡ Some c.in-Some.span = ap (λ (k : ℕ). lookup (nat_eq k) o.index.numbers.entries) (sym c.to_u64.ensures.one) ∙ sym (c.copied.ensures ∙ c.get.ensures.value) ∙ c.in-Some.is in
    (not_found (is_waiting_call f n) (present o.slots.items) c.args.self.now c.self.view_is (none_in_span o.waiting o.index.first o.index.dues.items o.index.numbers.entries o.index.flows.entries o.slots.items c.self.invariant f n c.in-Some.span is c.in_default-find_waiting.ensures.none)).0

pub returns-in_default-find_waiting-clause-ended : goal.returns-in_default-find_waiting-clause-ended
returns-in_default-find_waiting-clause-ended c =
    let o = c.self.inside in
    let n = c.args.number in
    let f = c.args.flow.now in
    let is : lookup (nat_eq (to_u64 n)) o.index.numbers.entries ≡ Some c.in-Some.span = ap (λ (k : ℕ). lookup (nat_eq k) o.index.numbers.entries) (sym c.to_u64.ensures.one) ∙ sym (c.copied.ensures ∙ c.get.ensures.value) ∙ c.in-Some.is in
    (not_found (is_waiting_call f n) (present o.slots.items) c.args.self.now c.self.view_is (none_in_span o.waiting o.index.first o.index.dues.items o.index.numbers.entries o.index.flows.entries o.slots.items c.self.invariant f n c.in-Some.span is c.in_default-find_waiting.ensures.none)).1

pub forget_number-requires-clause-place : goal.forget_number-requires-clause-place
forget_number-requires-clause-place c =
    let o = c.self.inside in
    let n = c.args.number in
    let is : lookup (nat_eq (to_u64 n)) o.index.numbers.entries ≡ Some c.in-Some.span = ap (λ (k : ℕ). lookup (nat_eq k) o.index.numbers.entries) (sym c.to_u64.ensures.one) ∙ sym (c.copied.ensures ∙ c.get.ensures.value) ∙ c.in-Some.is in
    place_in_span o.waiting o.index.first o.index.dues.items o.index.numbers.entries o.index.flows.entries o.slots.items c.self.invariant c.args.flow.now n c.in-Some.span c.in-Some-find_waiting.place is c.in-Some-find_waiting.ensures.here

pub invariant_of-self : goal.invariant_of-self
invariant_of-self c =
    let o = c.self.inside in
    let place = c.in-Some-find_waiting.place in
    subst (λ (w : ℕ). AreKept w o.index.first c.end_at.new.dues.items c.forget_number.new.numbers.entries o.index.flows.entries c.end_at.new.slots.items) (sym c.saturating_sub-self-inside.ensures)
    (kept_ended o.waiting o.index.first place c.to_u64-2.result o.index.dues.items c.end_at.new.dues.items o.index.numbers.entries c.forget_number.new.numbers.entries o.index.flows.entries o.slots.items c.end_at.new.slots.items c.self.invariant
    c.in-Some-find_waiting.ensures.within (waits_there c.args.flow.now c.args.number _ c.in-Some-find_waiting.ensures.here) c.end_at.ensures.slots c.end_at.ensures.due c.forget_number.ensures)

pub returns-clause-found : goal.returns-clause-found
returns-clause-found c =
    let o = c.self.inside in
    let t = is_waiting_call c.args.flow.now c.args.number in
    sym (ap (λ (calls : List OpenCall). is_some (position t calls)) (sym c.self.view_is) ∙ is_found t o.slots.items c.in-Some-find_waiting.place c.in-Some-find_waiting.ensures.here)

pub returns-clause-ended : goal.returns-clause-ended
returns-clause-ended c =
    let o = c.self.inside in
    let n = c.args.number in
    let f = c.args.flow.now in
    let t = is_waiting_call f n in
    let place = c.in-Some-find_waiting.place in
    let is : lookup (nat_eq (to_u64 n)) o.index.numbers.entries ≡ Some c.in-Some.span = ap (λ (k : ℕ). lookup (nat_eq k) o.index.numbers.entries) (sym c.to_u64.ensures.one) ∙ sym (c.copied.ensures ∙ c.get.ensures.value) ∙ c.in-Some.is in
    ap present c.end_at.ensures.slots
    ∙ ended_present t o.slots.items place c.in-Some-find_waiting.ensures.here (none_before o.waiting o.index.first o.index.dues.items o.index.numbers.entries o.index.flows.entries o.slots.items c.self.invariant f n c.in-Some.span place is c.in-Some-find_waiting.ensures.before)
    ∙ ap (λ (calls : List OpenCall). ended_in (position t calls) calls) c.self.view_is
