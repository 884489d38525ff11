use Rattle.std.proofs.Common.{ℕ, ◌≡◌, ap, ◌∙◌, List, Some, None, nat_eq, sym}
use Rattle.std.specs.Map.{lookup}
use Rattle.dt_service_model.specs.declared.calls.OpenCall.{OpenCall}
use Rattle.dt_service_model.specs.Names.{to_u64}
use Rattle.dt_service_model.specs.Whole.{waits_anywhere}
use Rattle.dt_open_calls.proofs.Kept.{waits_is, waits_nowhere}
use Rattle.dt_open_calls.proofs.open_calls.OpenCalls.waits_anywhere.Goals as goal

pub returns-in-Some : goal.returns-in-Some
returns-in-Some c =
    let o = c.self.inside in
    let is : lookup (nat_eq (to_u64 c.args.number)) o.index.numbers.entries ≡ Some c.in-Some.span.now = ap (λ (k : ℕ). lookup (nat_eq k) o.index.numbers.entries) (sym c.to_u64.ensures.one) ∙ sym c.in-Some.ensures.value in
    waits_is o.waiting o.index.first o.index.dues.items o.index.numbers.entries o.index.flows.entries o.slots.items c.self.invariant c.args.number c.in-Some.span.now c.waits_in.result is c.waits_in.ensures.yes c.waits_in.ensures.no
    ∙ ap (λ (calls : List OpenCall). waits_anywhere c.args.number calls) c.self.view_is

pub returns-in-None : goal.returns-in-None
returns-in-None c =
    let o = c.self.inside in
    let is : lookup (nat_eq (to_u64 c.args.number)) o.index.numbers.entries ≡ None = ap (λ (k : ℕ). lookup (nat_eq k) o.index.numbers.entries) (sym c.to_u64.ensures.one) ∙ sym c.in-None.ensures.value in
    waits_nowhere o.waiting o.index.first o.index.dues.items o.index.numbers.entries o.index.flows.entries o.slots.items c.self.invariant c.args.number is
    ∙ ap (λ (calls : List OpenCall). waits_anywhere c.args.number calls) c.self.view_is
