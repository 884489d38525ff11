use Rattle.std.proofs.Common.{ℕ, ◌≡◌, Option, Some, ap, ◌∙◌, sym, subst, inl, inr, cond, Bool}
use Rattle.std.specs.Map.{lookup}
use Rattle.std.proofs.lemmas.Bool.{cases_Bool}
use Rattle.dt_units.specs.declared.endpoints.Flow.{Flow}
use Rattle.dt_world_model.proofs.Maps.{flows_agree}
use Rattle.dt_world_model.proofs.Tables.{flow_is}
use Rattle.dt_table.specs.Places.{equal_flows}
use Rattle.dt_open_calls.specs.Slots.{IsInSpan}
use Rattle.dt_open_calls.specs.declared.spans.Span.{Span}
use Rattle.dt_open_calls.proofs.spans.widen_flow.Goals as goal

pub returns-clause-others : goal.returns-clause-others
returns-clause-others c f i le r =
    let g = c.args.flow.now in
    let old = c.args.flows.now.entries in
    let wide = c.widened-span.result in
    elim (cases_Bool (equal_flows g f)) [
      | inl y ↦
          let same : f ≡ g = flow_is f g (sym (flows_agree g f) ∙ y) in
          let new : lookup (equal_flows f) c.insert.new.self.entries ≡ Some wide = c.in_ok-insert.ensures.updates.0 f ∙ ap (λ (b : Bool). cond b (Some wide) (lookup (equal_flows f) old)) y in
          let had : IsInSpan c.copied.result i = subst (λ (o : Option Span). IsInSpan o i) (sym (c.copied.ensures ∙ c.get.ensures.value)) (subst (λ (h : Flow). IsInSpan (lookup (equal_flows h) old) i) same r) in
          subst (λ (o : Option Span). IsInSpan o i) (sym new) (c.widened-span.ensures.others i le had)
      | inr n ↦ subst (λ (o : Option Span). IsInSpan o i) (sym (c.in_ok-insert.ensures.updates.0 f ∙ ap (λ (b : Bool). cond b (Some wide) (lookup (equal_flows f) old)) n)) r
    ]
