-- EACH STEP keeps the facts of calls, and so does every list of events.
use Rattle.std.proofs.Common.{ap, Bool, List, None, Option, Some, ℕ, [], arith, false, if◌then◌else◌, length, map, refl, subst, suc, sym, true, ◌++◌, ◌+◌, ◌<◌, ◌^◌, ◌∙◌, ◌∷◌, ◌≡◌, ◌≢◌, ◌≤◌, append-nil, append_assoc, inl, inr}
use Rattle.std.specs.List.{All}
use Rattle.std.proofs.lemmas.Bool.{cases_lt}
use Rattle.std.proofs.lemmas.List.{get_or_append_left, get_or_at, length-map, length_push}
use Rattle.std.proofs.lemmas.List.Elements.{All-append, All-cons, All-head, All-nil, All-push, All-tail, All-weaker}
use Rattle.dt_units.specs.declared.endpoints.Flow.{Flow}
use Rattle.dt_units.specs.Flows.{IsFlow}
use Rattle.dt_units.specs.Limits.{IsWithinLimits}
use Rattle.dt_reports.specs.declared.faults.StepFault.{StepFault}
use Rattle.dt_world_model.specs.Setup.{Setup, new_world}
use Rattle.dt_world_model.specs.Tables.{AllEntries}
use Rattle.dt_world_model.specs.World.{World, view}
use Rattle.dt_world_model.specs.WorldStep.{WorldEvent, after_event, first_refusal, refusals, step_unless}
use Rattle.dt_calls_model.specs.declared.calls.Call.{Call}
use Rattle.dt_calls_model.specs.declared.calls.Posted.{Posted}
use Rattle.dt_calls_model.specs.declared.calls.Posted.TheVariants.{Refused, Taken}
use Rattle.dt_calls_model.specs.CallFacts.{CallFacts, CourseFacts, FlowRests}
use Rattle.dt_calls_model.specs.CallRuns.{call_run, call_run_from, payloads_run, then_call}
use Rattle.dt_calls_model.specs.Calls.{Begun, Calls, Client, Server, Side, call_at, flow_read, new_calls}
use Rattle.dt_calls_model.specs.CallStep.{CallEvent, Faulty, Happens, Makes, Outcome, Stepped, becomes_unsure, call_refusals, call_step, judge_all, judged, verdicts_from, finish, go_on, make, make_unless, say_posted}
use Rattle.dt_calls_model.specs.CallTold as told
use Rattle.dt_calls_model.specs.CallTold.{CallEntry, CallTold}
use Rattle.dt_calls_model.specs.Messages.{message_of}
use Rattle.dt_calls_model.specs.Promises.{AreItsAnswers, AreMadeWith, AreServedOnce, IsItsAnswer, payload_of, payloads_by, payloads_in}
use Rattle.dt_calls_model.specs.Reads.{Course, post, read_all, say}
use Rattle.dt_calls_laws.specs.Leads.{AllRead, AreDone}
use Rattle.dt_calls_laws.specs.MayCome.{MayCome}
use Rattle.dt_calls_laws.specs.Onward.{CallGoesOn, Onward}
use Rattle.dt_calls_laws.specs.Told.{AreTold, IsOn, IsTold}
use Rattle.dt_calls_laws.proofs.Courses.{all_told, onward_same, onward_then, payloads_stay}
use Rattle.dt_calls_laws.proofs.Happening.{event_course, event_onward, happened}
use Rattle.dt_calls_laws.proofs.Making.{made, made_payload, make_course, make_onward, new_call, only_one}
use Rattle.dt_calls_laws.proofs.SideReads.{all_read}
use Rattle.dt_calls_laws.proofs.Starting.{new_calls_facts}
use Rattle.dt_calls_laws.proofs.States.{all_entries_on, judge_course, judge_onward, verdicts_sure}

-- the judged calls' reports tell no answer
judge_told : (answer : List ℕ → List ℕ) (after : Calls) (b : Bool) (moment n : ℕ) → AreTold answer after (if b then record { moment = moment; told = told.Unsure n } ∷ [] else [])
judge_told answer after true moment n = All-cons (λ (e : CallEntry). IsTold answer after e.told) (record { moment = moment; told = told.Unsure n }) [] tt (All-nil (λ (e : CallEntry). IsTold answer after e.told))
judge_told answer after false moment n = All-nil (λ (e : CallEntry). IsTold answer after e.told)

verdicts_told : (answer : List ℕ → List ℕ) (after : Calls) (w : World) (n : ℕ) (calls : List Call) → AreTold answer after (verdicts_from w n calls)
verdicts_told answer after w n [] = All-nil (λ (e : CallEntry). IsTold answer after e.told)
verdicts_told answer after w n (call ∷ calls) =
    All-append (λ (e : CallEntry). IsTold answer after e.told) (if becomes_unsure w call then record { moment = w.now; told = told.Unsure n } ∷ [] else []) (verdicts_from w (suc n) calls) (judge_told answer after (becomes_unsure w call) w.now n) (verdicts_told answer after w (suc n) calls)

-- what is told right is the handler's to what the call was made with
answers_of : (answer : List ℕ → List ℕ) (payloads : List (List ℕ)) (c : Calls) (t : CallTold) → AreMadeWith payloads c → IsTold answer c t → IsItsAnswer answer payloads t
answers_of answer payloads c (told.Made call flow count) own h = tt
answers_of answer payloads c (told.Declined call) own h = tt
answers_of answer payloads c (told.Served call) own h = tt
answers_of answer payloads c (told.Answered call octets) own h = let many = own.count in let lt = h.0 in (omega (arith, many, lt), h.1 ∙ ap answer (own.carried call h.0 h.2))
answers_of answer payloads c (told.Unsure call) own h = tt

pub all_answers : (answer : List ℕ → List ℕ) (payloads : List (List ℕ)) (c : Calls) (entries : List CallEntry) → AreMadeWith payloads c → AreTold answer c entries → AreItsAnswers answer payloads entries
all_answers answer payloads c entries own h = All-weaker (λ (e : CallEntry). IsTold answer c e.told) (λ (e : CallEntry). IsItsAnswer answer payloads e.told) (λ e k. answers_of answer payloads c e.told own k) entries h

-- ALL FLOWS REST where all sides are done
all_rest : (c : Calls) (flows : List (Flow × Begun)) → AreDone Server c.world (map (λ (e : Flow × Begun). e.0) flows) → AreDone Client c.world (map (λ (e : Flow × Begun). e.0) flows) → AllEntries (FlowRests c) flows
all_rest c [] s k = tt
all_rest c (x ∷ flows) s k = (record { client_rests = k.0.rests; server_rests = s.0.rests; all_read = read_at }, all_rest c flows s.1 k.1)
  where
    read_at : (side : Side) → (view c.world (flow_read side x.0)).unread ≡ []
    read_at Server = s.0.read
    read_at Client = k.0.read

module _ (answer : List ℕ → List ℕ) where
  -- THE PAYLOADS of calls stay, and a call that is made has its own.
  abbrev pub GainsPayloads : Calls → List (List ℕ) → Calls → Type 0
  GainsPayloads c more after = (payloads : List (List ℕ)) → AreMadeWith payloads c → AreMadeWith (payloads ++ more) after

  payloads_same : (payloads : List (List ℕ)) (c after : Calls) → CourseFacts answer c → Onward c after → length after.calls ≡ length c.calls → AreMadeWith payloads c → AreMadeWith payloads after
  payloads_same payloads c after facts on many own = record {
    count = own.count ∙ sym many;
    carried = λ n lt some.
        let less : n < length c.calls = omega (arith, lt, many) in
        payloads_stay answer c after n facts on less ∙ own.carried n less (λ none. some ((on.calls n less).request ∙ none));
  }

  no_payload : (c after : Calls) → CourseFacts answer c → Onward c after → length after.calls ≡ length c.calls → GainsPayloads c [] after
  no_payload c after facts on many payloads own = subst (λ (ps : List (List ℕ)). AreMadeWith ps after) (sym (append-nil payloads)) (payloads_same payloads c after facts on many own)

  one_payload : (c : Calls) (f : Flow) (payload : List ℕ) (facts : CourseFacts answer c) (flow : IsFlow f) (clear : first_refusal (call_refusals c f) ≡ None) → GainsPayloads c (payload ∷ []) (made answer c f payload facts flow clear)
  one_payload c f payload facts flow clear payloads own =
      let next = made answer c f payload facts flow clear in
      let on = make_onward answer c f payload facts flow clear in
      let many = length_push payloads payload in
      let few : length next.calls ≡ length c.calls + 1 = only_one answer c f payload facts flow clear in
      let same = own.count in
      record {
        count = omega (arith, many, few, same);
        carried = λ n lt some.
            elim (cases_lt n (length c.calls)) [
              | inl less ↦
                  payloads_stay answer c next n facts on less
                  ∙ own.carried n less (λ none. some ((on.calls n less).request ∙ none))
                  ∙ sym (get_or_append_left payloads (payload ∷ []) [] n (omega (arith, less, same)))
              | inr more ↦
                  (let last : length c.calls ≡ n = omega (arith, lt, more, few) in
                  let taken : (call_at next (length c.calls)).request ≢ Refused = λ none. some (ap (λ (m : ℕ). (call_at next m).request) (sym last) ∙ none) in
                  ap (λ (m : ℕ). payload_of next.world (call_at next m)) (sym last)
                  ∙ made_payload answer c f payload facts flow clear taken
                  ∙ sym (get_or_at payloads payload [] [] n (same ∙ last)))
            ];
      }

  -- what a step comes to, with the payloads of the calls that it made
  pub record ComesTo (c after : Calls) (more : List (List ℕ)) (lines : List CallEntry) : Type 0 where
    pub facts : CallFacts answer after
    pub told : AreTold answer after lines
    pub onward : Onward c after
    pub count : length after.calls ≤ length c.calls + 1
    pub payloads : GainsPayloads c more after

  -- DOUBTS
  verdicts_on : (d : Course) → IsOn answer d → IsOn answer (judge_all d) × Onward d.calls (judge_all d).calls × (length (judge_all d).calls.calls ≡ length d.calls.calls)
  verdicts_on d on =
      let after = (judge_all d).calls in
      let onward : Onward d.calls after = judge_onward answer d.calls on.facts in
      let many = length-map d.calls.calls (judged d.calls.world) in (
        record {
          facts = judge_course answer d.calls on.facts;
          few = subst (λ (k : ℕ). k ≤ 2 ^ 64) (sym many) on.few;
          told = All-append (λ (e : CallEntry). IsTold answer after e.told) d.told (verdicts_from d.calls.world 0 d.calls.calls) (all_told answer d.calls after d.told on.facts onward on.told) (verdicts_told answer after d.calls.world 0 d.calls.calls);
        },
        onward,
        many,
      )

  pub judged_on : (d : Course) → IsOn answer d → IsOn answer (judge_all d)
  judged_on d on = (verdicts_on d on).0

  -- ITS END: all sides are read, and calls that became unsure are reported
  finished : (c : Calls) (d : Course) (more : List (List ℕ)) → Onward c d.calls → length d.calls.calls ≤ length c.calls + 1 → GainsPayloads c more d.calls → IsOn answer d → ComesTo c (finish answer d).calls more (finish answer d).told
  finished c d more onward few gains on =
      let read = read_all answer d in
      let all : AllRead answer d read = all_read answer d on in
      let after = (finish answer d).calls in
      let rest : AllEntries (FlowRests read.calls) read.calls.flows = all_rest read.calls read.calls.flows all.servers all.clients in
      let verdicts = verdicts_on read all.leads.on in
      record {
        facts = record {
          course = verdicts.0.facts;
          rest = all_entries_on (FlowRests read.calls) (FlowRests after) read.calls.flows (λ k x h. record { client_rests = h.client_rests; server_rests = h.server_rests; all_read = h.all_read }) rest;
          sure = verdicts_sure answer read.calls all.leads.on.facts;
        };
        told = verdicts.0.told;
        onward = onward_then answer c read.calls after (onward_then answer c d.calls read.calls onward all.leads.onward) verdicts.1;
        count = let l = verdicts.2 in let same = all.leads.count in omega (arith, l, same, few);
        payloads = λ payloads own. payloads_same (payloads ++ more) d.calls after on.facts (onward_then answer d.calls read.calls after all.leads.onward verdicts.1) (verdicts.2 ∙ all.leads.count) (gains payloads own);
      }

  finish_onward : (d : Course) → IsOn answer d → Onward d.calls (finish answer d).calls
  finish_onward d on =
      let read = read_all answer d in
      let all : AllRead answer d read = all_read answer d on in
      onward_then answer d.calls read.calls (finish answer d).calls all.leads.onward (verdicts_on read all.leads.on).1

  -- A CALL IS MADE
  said : (c : Course) (t : CallTold) → IsTold answer c.calls t → IsOn answer c → IsOn answer (say t c)
  said c t h on = record { facts = on.facts; few = on.few; told = All-push (λ (e : CallEntry). IsTold answer c.calls e.told) c.told (record { moment = c.calls.world.now; told = t }) on.told h }

  said_posted : (p : Posted) (n : ℕ) (c : Course) → IsOn answer c → IsOn answer (say_posted p n c)
  said_posted (Taken place count) n c on = on
  said_posted Refused n c on = said c (told.Declined n) tt on

  posted_calls : (p : Posted) (n : ℕ) (c : Course) → (say_posted p n c).calls ≡ c.calls
  posted_calls (Taken place count) n c = refl
  posted_calls Refused n c = refl

  many_made : (c : Calls) (f : Flow) (payload : List ℕ) (facts : CourseFacts answer c) (flow : IsFlow f) (clear : first_refusal (call_refusals c f) ≡ None) → length (made answer c f payload facts flow clear).calls ≤ length c.calls + 1
  many_made c f payload facts flow clear = let many = length_push c.calls (new_call answer c f payload facts flow clear) in omega (arith, many)

  pub made_on : (c : Calls) (f : Flow) (payload : List ℕ) → CourseFacts answer c → length c.calls < 2 ^ 64 → IsFlow f → first_refusal (call_refusals c f) ≡ None → IsOn answer (make f payload c)
  made_on c f payload facts few flow clear =
      let n = length c.calls in
      let request = post f (message_of n payload) c.world in
      let next = made answer c f payload facts flow clear in
      let few_more = many_made c f payload facts flow clear in
      let start : Course = record { told = []; calls = next } in
      let on : IsOn answer start = record { facts = make_course answer c f payload facts flow clear; few = omega (arith, few, few_more); told = All-nil (λ (e : CallEntry). IsTold answer next e.told) } in
      said_posted request.0 n (say (told.Made n f (length payload)) start) (said start (told.Made n f (length payload)) tt on)

  made_comes : (c : Calls) (f : Flow) (payload : List ℕ) → CallFacts answer c → length c.calls < 2 ^ 64 → IsFlow f → first_refusal (call_refusals c f) ≡ None → let d = finish answer (make f payload c) in ComesTo c d.calls (payload ∷ []) d.told
  made_comes c f payload h few flow clear =
      let facts = h.course in
      let n = length c.calls in
      let next = made answer c f payload facts flow clear in
      let first : Course = say (told.Made n f (length payload)) (record { told = []; calls = next }) in
      let is : (make f payload c).calls ≡ next = posted_calls (post f (message_of n payload) c.world).0 n first in
      let few_more : length next.calls ≤ n + 1 = many_made c f payload facts flow clear in
      finished c (make f payload c) (payload ∷ []) (subst (λ (x : Calls). Onward c x) (sym is) (make_onward answer c f payload facts flow clear)) (subst (λ (x : Calls). length x.calls ≤ n + 1) (sym is) few_more)
      (subst (λ (x : Calls). GainsPayloads c (payload ∷ []) x) (sym is) (one_payload c f payload facts flow clear)) (made_on c f payload facts few flow clear)

  -- AN EVENT OF THE WORLD
  event_comes : (c : Calls) (e : WorldEvent) → CallFacts answer c → length c.calls < 2 ^ 64 → MayCome (Happens e) → first_refusal (refusals c.world e) ≡ None → let d = finish answer (record { told = []; calls = happened e c }) in ComesTo c d.calls [] d.told
  event_comes c e h few may clear =
      let onward = event_onward answer c e h.course may clear in
      finished c (record { told = []; calls = happened e c }) [] onward (omega arith) (no_payload c (happened e c) h.course onward refl)
      (record { facts = event_course answer c e h.course may clear; few = omega (arith, few); told = All-nil (λ (x : CallEntry). IsTold answer (happened e c) x.told) })

  -- THE STEP
  abbrev pub Comes : Calls → List (List ℕ) → Outcome → Type 0
  Comes c more (Faulty fault) = Unit {0}
  Comes c more (Stepped lines after) = ComesTo c after more lines

  make_comes : (c : Calls) (f : Flow) (payload : List ℕ) (o : Option StepFault) → first_refusal (call_refusals c f) ≡ o → CallFacts answer c → length c.calls < 2 ^ 64 → IsFlow f → Comes c (payload ∷ []) (make_unless answer o f payload c)
  make_comes c f payload None clear h few flow = made_comes c f payload h few flow clear
  make_comes c f payload (Some fault) clear h few flow = tt

  world_comes : (c : Calls) (e : WorldEvent) (o : Option StepFault) → first_refusal (refusals c.world e) ≡ o → CallFacts answer c → length c.calls < 2 ^ 64 → MayCome (Happens e) → Comes c [] (go_on answer e c (step_unless o (after_event c.world e)))
  world_comes c e None clear h few may = event_comes c e h few may clear
  world_comes c e (Some fault) clear h few may = tt

  pub step_comes : (c : Calls) (e : CallEvent) → CallFacts answer c → length c.calls < 2 ^ 64 → MayCome e → Comes c (payloads_in e) (call_step answer c e)
  step_comes c (Makes f payload) h few may = make_comes c f payload (first_refusal (call_refusals c f)) refl h few may
  step_comes c (Happens e) h few may = world_comes c e (first_refusal (refusals c.world e)) refl h few may

  pub step_facts : (c : Calls) (e : CallEvent) (lines : List CallEntry) (after : Calls) → CallFacts answer c → length c.calls < 2 ^ 64 → MayCome e → call_step answer c e ≡ Stepped lines after → CallFacts answer after
  step_facts c e lines after h few may is = (subst (Comes c (payloads_in e)) is (step_comes c e h few may)).facts

  pub step_made : (c : Calls) (e : CallEvent) (lines : List CallEntry) (after : Calls) → CallFacts answer c → length c.calls < 2 ^ 64 → MayCome e → call_step answer c e ≡ Stepped lines after → (payloads : List (List ℕ)) → AreMadeWith payloads c → AreMadeWith (payloads ++ payloads_in e) after
  step_made c e lines after h few may is = (subst (Comes c (payloads_in e)) is (step_comes c e h few may)).payloads

  pub step_answers : (c : Calls) (e : CallEvent) (lines : List CallEntry) (after : Calls) → CallFacts answer c → length c.calls < 2 ^ 64 → MayCome e → call_step answer c e ≡ Stepped lines after → (payloads : List (List ℕ)) → AreMadeWith payloads c → AreItsAnswers answer (payloads ++ payloads_in e) lines
  step_answers c e lines after h few may is payloads own =
      let comes = subst (Comes c (payloads_in e)) is (step_comes c e h few may) in
      all_answers answer (payloads ++ payloads_in e) after lines (comes.payloads payloads own) comes.told

  -- A RUN
  pub record HasRun (payloads : List (List ℕ)) (r : List CallEntry × Calls) : Type 0 where
    pub facts : CallFacts answer r.1
    pub told : AreTold answer r.1 r.0
    pub own : AreMadeWith payloads r.1

  -- a run goes on from another by so many calls at most
  record RunsTo (r after : List CallEntry × Calls) (payloads : List (List ℕ)) (most : ℕ) : Type 0 where
    pub run : HasRun payloads after
    pub onward : Onward r.1 after.1
    pub count : length after.1.calls ≤ length r.1.calls + most

  then_comes : (r : List CallEntry × Calls) (payloads : List (List ℕ)) (e : CallEvent) (o : Outcome) → HasRun payloads r → Comes r.1 (payloads_in e) o → RunsTo r (then_call r o) (payloads ++ payloads_by o e) 1
  then_comes r payloads e (Faulty fault) h k = record { run = subst (λ (ps : List (List ℕ)). HasRun ps r) (sym (append-nil payloads)) h; onward = onward_same answer r.1; count = omega arith }
  then_comes r payloads e (Stepped lines after) h k = record {
    run = record { own = k.payloads payloads h.own; facts = k.facts; told = All-append (λ (e : CallEntry). IsTold answer after e.told) r.0 lines (all_told answer r.1 after r.0 h.facts.course k.onward h.told) k.told };
    onward = k.onward;
    count = k.count;
  }

  run_comes : (es : List CallEvent) (r : List CallEntry × Calls) (payloads : List (List ℕ)) → HasRun payloads r → All MayCome es → length r.1.calls + length es ≤ 2 ^ 64 → RunsTo r (call_run_from answer es r) (payloads ++ payloads_run answer es r) (length es)
  run_comes [] r payloads h may few = record { run = subst (λ (ps : List (List ℕ)). HasRun ps r) (sym (append-nil payloads)) h; onward = onward_same answer r.1; count = omega arith }
  run_comes (e ∷ es) r payloads h may few =
      let o = call_step answer r.1 e in
      let next = then_call r o in
      let one = then_comes r payloads e o h (step_comes r.1 e h.facts (omega (arith, few)) (All-head MayCome e es may)) in
      let rest = run_comes es next (payloads ++ payloads_by o e) one.run (All-tail MayCome e es may) (let l = one.count in omega (arith, few, l)) in
      let all = append_assoc payloads (payloads_by o e) (payloads_run answer es next) in
      record { run = subst (λ (ps : List (List ℕ)). HasRun ps (call_run_from answer es next)) all rest.run; onward = onward_then answer r.1 next.1 (call_run_from answer es next).1 one.onward rest.onward; count = let l = one.count in let k = rest.count in omega (arith, l, k) }

  starts : (setup : Setup) → IsWithinLimits setup.params → HasRun [] ([], new_calls (new_world setup))
  starts setup limits = record { own = record { count = refl; carried = λ n lt some. absurd (omega (arith, lt)) }; facts = new_calls_facts answer setup limits; told = All-nil (λ (e : CallEntry). IsTold answer (new_calls (new_world setup)) e.told) }

  run_of_setup : (setup : Setup) (es : List CallEvent) → IsWithinLimits setup.params → All MayCome es → length es ≤ 2 ^ 64 → let c = new_calls (new_world setup) in RunsTo ([], c) (call_run answer es c) (payloads_run answer es ([], c)) (length es)
  run_of_setup setup es limits may few = run_comes es ([], new_calls (new_world setup)) [] (starts setup limits) may (omega (arith, few))

  joined_runs : (es more : List CallEvent) (r : List CallEntry × Calls) → call_run_from answer (es ++ more) r ≡ call_run_from answer more (call_run_from answer es r)
  joined_runs [] more r = refl
  joined_runs (e ∷ es) more r = joined_runs es more (then_call r (call_step answer r.1 e))

  -- THE PROMISE
  pub run_served_once : (setup : Setup) (es : List CallEvent) → IsWithinLimits setup.params → All MayCome es → length es ≤ 2 ^ 64 → AreServedOnce (call_run answer es (new_calls (new_world setup))).1
  run_served_once setup es limits may few = (run_of_setup setup es limits may few).run.facts.course.once

  pub run_answers : (setup : Setup) (es : List CallEvent) → IsWithinLimits setup.params → All MayCome es → length es ≤ 2 ^ 64 → let c = new_calls (new_world setup) in AreItsAnswers answer (payloads_run answer es ([], c)) (call_run answer es c).0
  run_answers setup es limits may few =
      let c = new_calls (new_world setup) in
      let r = call_run answer es c in
      let run = (run_of_setup setup es limits may few).run in
      all_answers answer (payloads_run answer es ([], c)) r.1 r.0 run.own run.told

  -- WHAT BECAME OF A CALL stays
  pub step_goes_on : (c : Calls) (e : CallEvent) (lines : List CallEntry) (after : Calls) → CallFacts answer c → length c.calls < 2 ^ 64 → MayCome e → call_step answer c e ≡ Stepped lines after → (n : ℕ) → n < length c.calls → CallGoesOn (call_at c n) (call_at after n)
  step_goes_on c e lines after h few may is n lt = (subst (Comes c (payloads_in e)) is (step_comes c e h few may)).onward.calls n lt

  pub run_goes_on : (setup : Setup) (es more : List CallEvent) → IsWithinLimits setup.params → All MayCome es → All MayCome more → length es + length more ≤ 2 ^ 64
      → let c = new_calls (new_world setup) in (n : ℕ) → n < length (call_run answer es c).1.calls → CallGoesOn (call_at (call_run answer es c).1 n) (call_at (call_run answer (es ++ more) c).1 n)
  run_goes_on setup es more limits may later few n lt =
      let c = new_calls (new_world setup) in
      let first = run_of_setup setup es limits may (omega (arith, few)) in
      let rest = run_comes more (call_run answer es c) (payloads_run answer es ([], c)) first.run later (let l = first.count in omega (arith, l, few)) in
      subst (λ (r : List CallEntry × Calls). CallGoesOn (call_at (call_run answer es c).1 n) (call_at r.1 n)) (sym (joined_runs es more ([], c))) (rest.onward.calls n lt)

  -- THE PAYLOAD of a call is what was handed in, and stays
  stepped_after : (lines more : List CallEntry) (c after : Calls) → Stepped lines c ≡ Stepped more after → c ≡ after
  stepped_after lines more c after e = cc

  payload_by : (c : Calls) (f : Flow) (payload : List ℕ) (lines : List CallEntry) (after : Calls) (o : Option StepFault) → first_refusal (call_refusals c f) ≡ o → CallFacts answer c → length c.calls < 2 ^ 64 → IsFlow f → make_unless answer o f payload c ≡ Stepped lines after
      → (call_at after (length c.calls)).request ≢ Refused → payload_of after.world (call_at after (length c.calls)) ≡ payload
  payload_by c f payload lines after None clear h few flow is some =
      let facts = h.course in
      let n = length c.calls in
      let d = make f payload c in
      let next = made answer c f payload facts flow clear in
      let same : d.calls ≡ next = posted_calls (post f (message_of n payload) c.world).0 n (say (told.Made n f (length payload)) (record { told = []; calls = next })) in
      let on = made_on c f payload facts few flow clear in
      let last : (finish answer d).calls ≡ after = stepped_after (finish answer d).told lines (finish answer d).calls after is in
      let onward : Onward next after = subst (λ (x : Calls). Onward next x) last (subst (λ (x : Calls). Onward x (finish answer d).calls) same (finish_onward d on)) in
      let lt : n < length next.calls = (let l = length_push c.calls (new_call answer c f payload facts flow clear) in omega (arith, l)) in
      payloads_stay answer next after n (make_course answer c f payload facts flow clear) onward lt ∙ made_payload answer c f payload facts flow clear (λ e. some ((onward.calls n lt).request ∙ e))
  payload_by c f payload lines after (Some fault) clear h few flow is some = absurd cc

  pub payload_made : (c : Calls) (f : Flow) (payload : List ℕ) (lines : List CallEntry) (after : Calls) → CallFacts answer c → length c.calls < 2 ^ 64 → IsFlow f → call_step answer c (Makes f payload) ≡ Stepped lines after
      → (call_at after (length c.calls)).request ≢ Refused → payload_of after.world (call_at after (length c.calls)) ≡ payload
  payload_made c f payload lines after h few flow is some = payload_by c f payload lines after (first_refusal (call_refusals c f)) refl h few flow is some

  pub payload_after : (c : Calls) (e : CallEvent) (lines : List CallEntry) (after : Calls) → CallFacts answer c → length c.calls < 2 ^ 64 → MayCome e → call_step answer c e ≡ Stepped lines after → (n : ℕ) → n < length c.calls → payload_of after.world (call_at after n) ≡ payload_of c.world (call_at c n)
  payload_after c e lines after h few may is n lt = payloads_stay answer c after n h.course (subst (Comes c (payloads_in e)) is (step_comes c e h few may)).onward lt
