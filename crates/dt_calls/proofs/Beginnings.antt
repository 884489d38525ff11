-- Calls over a world that has made no step are what is kept of calls.
use Rattle.std.proofs.Common.{ℕ, ◌≡◌, false, List, [], ap, sym, subst, ◌∙◌}
use Rattle.dt_units.specs.declared.endpoints.Flow.{Flow}
use Rattle.dt_world_model.specs.World.{World}
use Rattle.dt_calls_laws.proofs.Starting.{new_calls_facts}
use Rattle.dt_calls_model.specs.declared.calls.Call.{Call}
use Rattle.dt_calls_model.specs.CallFacts.{CallFacts}
use Rattle.dt_calls_model.specs.Calls.{Calls, new_calls}
use Rattle.dt_call_parts.specs.declared.flow_sides.FlowSides.{FlowSides}
use Rattle.dt_calls.specs.declared.call_courses.CallsParts.{CallsParts}
use Rattle.dt_calls.specs.CallCourses.{IsOnCourse}
use Rattle.dt_calls.specs.CallOutcomes.{IsNew}
use Rattle.dt_call_parts.specs.Flows.{flows_seen}
use Rattle.dt_call_parts.specs.Kept.{AreShort}
use Rattle.dt_calls.specs.Parts.{calls_seen}
use Rattle.dt_call_parts.specs.Waiting.{Covers}
use Rattle.dt_calls.proofs.Kept.{world_kept}

pub new_facts : (answer : List ℕ → List ℕ) (w : World) → IsNew w → CallFacts answer (new_calls w)
new_facts answer w new = subst (λ (v : World). CallFacts answer (new_calls v)) (sym new.new) (new_calls_facts answer new.setup new.limits)

module _ {H : Type 0} (answer : List ℕ → List ℕ) (p : CallsParts H) (new : IsNew p.world.state) (no_calls : p.calls.items ≡ []) (no_waiting : p.waiting.items ≡ []) (no_flows : p.flows.entries ≡ []) where
  pub seen : calls_seen p ≡ new_calls p.world.state
  seen =
      ap (λ (cs : List Call). let c : Calls = record { world = p.world.state; calls = cs; flows = flows_seen p.flows.entries } in c) no_calls
      ∙ ap (λ (es : List (Flow × FlowSides)). let c : Calls = record { world = p.world.state; calls = []; flows = flows_seen es } in c) no_flows

  facts : CallFacts answer (calls_seen p)
  facts = subst (CallFacts answer) (sym seen) (new_facts answer p.world.state new)

  covered : Covers 0 p.waiting.items p.calls.items
  covered = subst (λ (ks : List ℕ). Covers 0 ks p.calls.items) (sym no_waiting) (subst (λ (cs : List Call). Covers 0 [] cs) (sym no_calls) tt)

  pub begins_on : p.world.spent ≡ false → p.heard.failed ≡ false → IsOnCourse answer p
  begins_on unspent heard = record { whole = record { unspent = unspent; heard = heard; world = world_kept answer (calls_seen p) facts.course; waiting = covered; requests = subst AreShort (sym no_calls) tt }; course = facts.course }
