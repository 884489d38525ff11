-- Whether a call goes along a flow is seen by the flows with a call.
use Rattle.std.proofs.Common.{ℕ, zero, suc, ◌≡◌, ◌<◌, rules, Bool, true, false, List, [], ◌∷◌, length, Option, Some, None, refl, ap, sym, subst, inl, inr, arith}
use Rattle.std.specs.Prelude.{◌||◌, is_some, nat_lt}
use Rattle.std.specs.List.{list_any}
use Rattle.std.proofs.lemmas.Bool.{and_parts, cases_Bool}
use Rattle.std.proofs.lemmas.List.Elements.{All-weaker}
use Rattle.std.proofs.lemmas.List.Folds.{list_any_none}
use Rattle.dt_units.specs.declared.endpoints.Flow.{Flow}
use Rattle.dt_world_model.specs.Tables.{has_key, look, same_flow}
use Rattle.dt_world_model.proofs.Tables.{flow_is}
use Rattle.dt_calls_laws.proofs.Onward.{flow_found}
use Rattle.dt_calls_model.specs.declared.calls.Call.{Call}
use Rattle.dt_calls_model.specs.CallFacts.{CallIsKept, CourseFacts}
use Rattle.dt_calls_model.specs.Calls.{Begun, Calls, call_at, call_in}

or_true : (a b : Bool) → b ≡ true → (a || b) ≡ true
or_true true b h = refl
or_true false b h = h

any_at : (f : Flow) (calls : List Call) (n : ℕ) → n < length calls → same_flow (call_in calls n).flow f ≡ true → list_any (λ (call : Call). same_flow call.flow f) calls ≡ true
any_at f [] n h t = absurd (omega arith)
any_at f (x ∷ xs) zero h t = rw t refl
any_at f (x ∷ xs) (suc n) h t = or_true (same_flow x.flow f) (list_any (λ (call : Call). same_flow call.flow f) xs) (any_at f xs n (omega arith) t)

is_less : (n m : ℕ) → nat_lt n m ≡ true → n < m
is_less n m h = search rules

module _ (answer : List ℕ → List ℕ) (c : Calls) (course : CourseFacts answer c) (f : Flow) where
  none_along : has_key same_flow f c.flows ≡ false → (call : Call) → CallIsKept c call → same_flow call.flow f ≡ false
  none_along not call kept =
      elim (cases_Bool (same_flow call.flow f)) [
        | inl y ↦ absurd (let there : has_key same_flow f c.flows ≡ true = subst (λ (g : Flow). has_key same_flow g c.flows ≡ true) (flow_is call.flow f y) kept.flow in cc)
        | inr n ↦ n
      ]

  by_look : (o : Option Begun) → look same_flow f c.flows ≡ o → list_any (λ (call : Call). same_flow call.flow f) c.calls ≡ is_some o
  by_look None e = list_any_none (λ (call : Call). same_flow call.flow f) c.calls (All-weaker (CallIsKept c) (λ (call : Call). same_flow call.flow f ≡ false) (none_along (ap is_some e)) c.calls course.calls)
  by_look (Some b) e =
      let h = flow_found answer c f b course e in
      let parts = and_parts (nat_lt h.called (length c.calls)) (same_flow (call_at c h.called).flow f) h.is_called in
      any_at f c.calls h.called (is_less h.called (length c.calls) parts.0) parts.1

  pub calls_along : has_key same_flow f c.flows ≡ list_any (λ (call : Call). same_flow call.flow f) c.calls
  calls_along = sym (by_look (look same_flow f c.flows) refl)
