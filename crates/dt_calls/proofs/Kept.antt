-- The facts of calls over the parts of a step, as the code comes to them.
use Rattle.std.proofs.Common.{ℕ, ◌≡◌, ◌<◌, ◌≤◌, ◌^◌, List, length, Option, None, Some, Result, refl, sym, subst}
use Rattle.dt_units.specs.declared.endpoints.Flow.{Flow}
use Rattle.dt_units.specs.Flows.{IsFlow}
use Rattle.dt_reports.specs.Entries.{Entry}
use Rattle.dt_reports.specs.declared.faults.StepFault.{StepFault}
use Rattle.dt_world_model.specs.World.{World}
use Rattle.dt_world_model.specs.WorldStep as world
use Rattle.dt_world_model.specs.WorldStep.{WorldEvent, after_event, first_refusal, refusals, step_unless, world_step}
use Rattle.dt_calls_laws.specs.Grown.{IsNoSendOrRead}
use Rattle.dt_calls_laws.specs.MayCome as law
use Rattle.dt_calls_laws.proofs.Happening.{event_course}
use Rattle.dt_calls_laws.proofs.Stepping.{made_on, step_answers, step_facts, step_made}
use Rattle.dt_calls_model.specs.CallFacts.{CallFacts, CourseFacts}
use Rattle.dt_calls_model.specs.Calls.{Calls}
use Rattle.dt_calls_model.specs.CallStep as step
use Rattle.dt_calls_model.specs.CallStep.{call_refusals, flows_after, make}
use Rattle.dt_calls_model.specs.CallTold.{CallEntry}
use Rattle.dt_calls_model.specs.Promises.{AreServedOnce}
use Rattle.dt_calls.specs.CallCourses.{CourseValue, calls_value}
use Rattle.dt_calls.specs.CallOutcomes.{Answers, CallsValue, IsDone, StepsTo, lacks_memory}
use Rattle.dt_call_parts.specs.Kept.{IsKeptWorld}

-- the world of calls
pub world_kept : (answer : List ℕ → List ℕ) (c : Calls) → CourseFacts answer c → IsKeptWorld c.world
world_kept answer c h = record { limits = h.limits; facts = h.world }

-- AN EVENT of the world that was done
pub record IsStepped (o : Option StepFault) (r : List Entry × World) (w : World) : Type 0 where
  pub clear : o ≡ None
  pub world : r.1 ≡ w

pub stepped_is : (o : Option StepFault) (r : List Entry × World) (lines : List Entry) (w : World) → step_unless o r ≡ world.Stepped lines w → IsStepped o r w
stepped_is None r lines w e = let is : r.1 ≡ w = cc in record { clear = refl; world = is }
stepped_is (Some fault) r lines w e = absurd cc

pub event_kept : (answer : List ℕ → List ℕ) (c : Calls) (e : WorldEvent) (lines : List Entry) (w : World) → CourseFacts answer c → IsNoSendOrRead e → world_step c.world e ≡ world.Stepped lines w → CourseFacts answer (record { world = w; calls = c.calls; flows = flows_after e c.flows })
event_kept answer c e lines w course may is =
    let h = stepped_is (first_refusal (refusals c.world e)) (after_event c.world e) lines w is in
    subst (λ (v : World). CourseFacts answer (record { world = v; calls = c.calls; flows = flows_after e c.flows })) h.world (event_course answer c e course may h.clear)

-- A CALL that was made
pub record IsMade (answer : List ℕ → List ℕ) (d : Calls) : Type 0 where
  pub course : CourseFacts answer d
  pub few : length d.calls ≤ 2 ^ 64

pub made_kept : (answer : List ℕ → List ℕ) (c d : Calls) (f : Flow) (payload : List ℕ) → CourseFacts answer c → length c.calls < 2 ^ 64 → IsFlow f → first_refusal (call_refusals c f) ≡ None → d ≡ (make f payload c).calls → IsMade answer d
made_kept answer c d f payload course few flow fine is =
    let made = made_on answer c f payload course few flow fine in
    record { course = subst (CourseFacts answer) (sym is) made.facts; few = subst (λ (x : Calls). length x.calls ≤ 2 ^ 64) (sym is) made.few }

-- A STEP that is done
pub facts_done : {L : Type 0} (tells : L → CallEntry → L → Type 0) (answer : List ℕ → List ℕ) (c new : Calls) (e : step.CallEvent) (l m : L) → CallFacts answer c → length c.calls < 2 ^ 64 → law.MayCome e → IsDone tells answer c e l m new → CallFacts answer new
facts_done tells answer c new e l m facts few may h = step_facts answer c e h.told new facts few may h.step

-- WHAT A STEP ANSWERS, by what it told and left
module _ {L H U : Type 0} (tells : L → CallEntry → L → Type 0) (answer : H → List ℕ → List ℕ) (c new : CourseValue H) (v : CallsValue H) (seen : calls_value c ≡ v) (e : step.CallEvent) (l m : L) (result : Result U StepFault) (facts : CallFacts (answer c.handler) c.calls) (few : length c.calls.calls < 2 ^ 64) (may : law.MayCome e) where
  pub answers_so : StepsTo tells (answer c.handler) c.calls e l m result new.calls → new.handler ≡ c.handler → new.spent ≡ lacks_memory result → AreServedOnce new.calls → Answers tells answer v e l m (calls_value new) result
  answers_so steps handler spent once =
      subst (λ (x : CallsValue H). Answers tells answer x e l m (calls_value new) result) seen
      record {
        steps = steps;
        handler = handler;
        spent = spent;
        once = once;
        answers = λ payloads own told after is. (step_answers (answer c.handler) c.calls e told after facts few may is payloads own, step_made (answer c.handler) c.calls e told after facts few may is payloads own);
      }
