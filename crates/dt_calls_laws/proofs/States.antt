-- States of calls change: a reply answers its call, and calls that became unsure are reported.
use Rattle.std.proofs.Common.{ℕ, zero, suc, ◌≡◌, Bool, true, false, if◌then◌else◌, List, [], ◌∷◌, ◌++◌, length, map, set, refl, ap, sym, ◌∙◌, arith, append-nil}
use Rattle.std.specs.Prelude.{nat_lt, ◌&&◌, ◌||◌}
use Rattle.std.specs.List.{All}
use Rattle.std.proofs.lemmas.Bool.{and_parts}
use Rattle.std.proofs.lemmas.List.Elements.{All-cons, All-map, All-nil, All-set, All-weaker}
use Rattle.dt_units.specs.declared.endpoints.Flow.{Flow}
use Rattle.dt_world_model.specs.Tables.{AllEntries, same_flow}
use Rattle.dt_world_model.specs.World.{World}
use Rattle.dt_calls_model.specs.declared.calls.Call.{Call}
use Rattle.dt_calls_model.specs.declared.calls.CallState.{CallState}
use Rattle.dt_calls_model.specs.declared.calls.CallState.TheVariants as state
use Rattle.dt_calls_model.specs.declared.calls.Posted.{Posted}
use Rattle.dt_calls_model.specs.CallFacts.{CallIsKept, CourseFacts, FlowIsKept, Span, requests_from, span_of}
use Rattle.dt_calls_model.specs.Calls.{Calls, call_at, call_in, is_call_in, no_call}
use Rattle.dt_calls_model.specs.CallStep.{becomes_unsure, judged, is_posted_in_vain, is_replied_in_vain, is_waiting}
use Rattle.dt_calls_model.specs.Messages.{reversed}
use Rattle.dt_calls_model.specs.Promises.{IsServedOnce}
use Rattle.dt_calls_laws.specs.Comes.{ReplyComes}
use Rattle.dt_calls_laws.specs.Onward.{CallGoesOn, Onward}
use Rattle.dt_calls_laws.proofs.Onward.{GoOn, call_kept, flow_calm}
use Rattle.dt_calls_laws.proofs.PieceRead.{kept_at}

-- ONLY THE STATE of a call changed
pub record OnlyState (call after : Call) : Type 0 where
  pub flow : after.flow ≡ call.flow
  pub request : after.request ≡ call.request
  pub reply : after.reply ≡ call.reply
  pub served : after.served ≡ call.served
  pub fate : is_waiting call.state ≡ false → after.state ≡ call.state

only_same : (call : Call) → OnlyState call call
only_same call = record { flow = refl; request = refl; reply = refl; served = refl; fate = λ h. refl }

abbrev pub OnlyStates : List Call → List Call → Type 0
OnlyStates [] [] = Unit {0}
OnlyStates [] (b ∷ bs) = ⊥
OnlyStates (a ∷ as') [] = ⊥
OnlyStates (a ∷ as') (b ∷ bs) = OnlyState a b × OnlyStates as' bs

states_same : (calls : List Call) → OnlyStates calls calls
states_same [] = tt
states_same (c ∷ calls) = (only_same c, states_same calls)

states_set : (calls : List Call) (n : ℕ) (call : Call) → OnlyState (call_in calls n) call → OnlyStates calls (set calls n call)
states_set [] n call h = tt
states_set (c ∷ calls) zero call h = (h, states_same calls)
states_set (c ∷ calls) (suc n) call h = (only_same c, states_set calls n call h)

states_map : (g : Call → Call) → ((call : Call) → OnlyState call (g call)) → (calls : List Call) → OnlyStates calls (map g calls)
states_map g h [] = tt
states_map g h (c ∷ calls) = (h c, states_map g h calls)

states_length : (xs ys : List Call) → OnlyStates xs ys → length ys ≡ length xs
states_length [] [] h = refl
states_length [] (y ∷ ys) h = absurd h
states_length (x ∷ xs) [] h = absurd h
states_length (x ∷ xs) (y ∷ ys) h = ap suc (states_length xs ys h.1)

state_at : (xs ys : List Call) (n : ℕ) → OnlyStates xs ys → OnlyState (call_in xs n) (call_in ys n)
state_at [] [] n h = only_same no_call
state_at [] (y ∷ ys) n h = absurd h
state_at (x ∷ xs) [] n h = absurd h
state_at (x ∷ xs) (y ∷ ys) zero h = h.0
state_at (x ∷ xs) (y ∷ ys) (suc n) h = state_at xs ys n h.1

states_requests : (f : Flow) (n : ℕ) (xs ys : List Call) → OnlyStates xs ys → requests_from f n ys ≡ requests_from f n xs
states_requests f n [] [] h = refl
states_requests f n [] (y ∷ ys) h = absurd h
states_requests f n (x ∷ xs) [] h = absurd h
states_requests f n (x ∷ xs) (y ∷ ys) h =
    ap (λ (g : Flow). (if same_flow g f then span_of n y.request else []) ++ requests_from f (suc n) ys) h.0.flow
    ∙ ap (λ (p : Posted). (if same_flow x.flow f then span_of n p else []) ++ requests_from f (suc n) ys) h.0.request
    ∙ ap (λ (ss : List Span). (if same_flow x.flow f then span_of n x.request else []) ++ ss) (states_requests f (suc n) xs ys h.1)

states_is_call : (xs ys : List Call) (f : Flow) (n : ℕ) → OnlyStates xs ys → is_call_in ys f n ≡ is_call_in xs f n
states_is_call xs ys f n h =
    ap (λ (l : ℕ). nat_lt n l && same_flow (call_in ys n).flow f) (states_length xs ys h)
    ∙ ap (λ (g : Flow). nat_lt n (length xs) && same_flow g f) (state_at xs ys n h).flow

pub all_entries_on : {A : Type 0} (P Q : Flow → A → Type 0) (es : List (Flow × A)) → ((k : Flow) (a : A) → P k a → Q k a) → AllEntries P es → AllEntries Q es
all_entries_on P Q [] on h = tt
all_entries_on P Q (e ∷ es) on h = (on e.0 e.1 h.0, all_entries_on P Q es on h.1)

abbrev pub with_calls : List Call → Calls → Calls
with_calls calls c = record c { calls = calls }

module _ (answer : List ℕ → List ℕ) (c : Calls) (calls : List Call) (same : OnlyStates c.calls calls) where
  states_go : (k : Flow) → GoOn c (with_calls calls c) k
  states_go k = record { calls = λ n h. states_is_call c.calls calls k n same ∙ h; requests = λ n h. (state_at c.calls calls n same).request }

  pub states_course : CourseFacts answer c → All (CallIsKept (with_calls calls c)) calls → All IsServedOnce calls → CourseFacts answer (with_calls calls c)
  states_course facts kept once = record {
    limits = facts.limits;
    world = facts.world;
    distinct = facts.distinct;
    flows = all_entries_on (FlowIsKept answer c) (FlowIsKept answer (with_calls calls c)) c.flows
        (λ k x h.
        flow_calm answer c (with_calls calls c) k x h (λ m key. key) h.one_way
        (record {
          go = states_go k;
          spans = states_requests k 0 c.calls calls same;
          replies = record {
            replies = λ n is. (state_at c.calls calls n same).reply;
            none_new = λ n place count is e. sym (states_is_call c.calls calls k n same) ∙ is;
          };
          items = refl;
          items_back = refl;
        })
        (record { gone = refl; life = refl }) (record { gone = refl; life = refl })) facts.flows;
    others = facts.others;
    calls = kept;
    once = once;
  }

  each_goes : (n : ℕ) → CallGoesOn (call_at c n) (call_in calls n)
  each_goes n = let h = state_at c.calls calls n same in record { flow = h.flow; request = h.request; fate = h.fate; served = let e = h.served in omega (arith, e) }

  pub states_onward : Onward c (with_calls calls c)
  states_onward = record { calls = λ n lt. each_goes n; items = λ k. ([], sym (append-nil _)); keys = λ k h. h; count = let l = states_length c.calls calls same in omega (arith, l) }

same_facts : (c : Calls) (calls : List Call) (call : Call) → CallIsKept c call → CallIsKept (with_calls calls c) call
same_facts c calls call h = call_kept c (with_calls calls c) call (λ key. key) (λ g place k. k) h

pub waits_not : (s : CallState) → is_waiting s ≡ true → s ≡ state.Declined → ⊥
waits_not state.Waiting w e = absurd cc
waits_not state.Answered w e = absurd cc
waits_not state.Unsure w e = absurd cc
waits_not state.Declined w e = absurd cc

-- A REPLY ANSWERS its call
module _ (answer : List ℕ → List ℕ) (c : Calls) (f : Flow) (facts : CourseFacts answer c) (message : List ℕ) (comes : ReplyComes answer c f message) (waits : is_waiting (call_at c comes.call).state ≡ true) where
  abbrev n : ℕ
  n = comes.call

  abbrev answered : Call
  answered = record (call_at c n) { state = state.Answered }

  abbrev pub answered_calls : List Call
  answered_calls = set c.calls n answered

  only : OnlyStates c.calls answered_calls
  only = states_set c.calls n answered (record { flow = refl; request = refl; reply = refl; served = refl; fate = λ known. (let no : true ≡ false = sym waits ∙ known in absurd cc) })

  pub answer_course : CourseFacts answer (with_calls answered_calls c)
  answer_course =
      let kept = kept_at answer c f n facts comes.is_call in
      let once = comes.served in
      let kept' : CallIsKept (with_calls answered_calls c) answered = record {
        flow = kept.flow;
        served_is_gone = kept.served_is_gone;
        replied = kept.replied;
        declined = λ e. absurd (waits_not (call_at c n).state waits (kept.declined e));
        declined_only = λ e. absurd cc;
      } in
      states_course answer c answered_calls only facts (All-set (CallIsKept (with_calls answered_calls c)) c.calls n answered kept' (All-weaker (CallIsKept c) (CallIsKept (with_calls answered_calls c)) (λ x h. same_facts c answered_calls x h) c.calls facts.calls))
      (All-set IsServedOnce c.calls n answered (record { at_most_once = omega (arith, once); answered_once = λ e. once; never_declined = λ e. absurd cc }) facts.once)

  pub answer_onward : Onward c (with_calls answered_calls c)
  answer_onward = states_onward answer c answered_calls only

-- DOUBTS
unsure_or : (w : World) (b : Bool) (call : Call) → becomes_unsure w call ≡ b → OnlyState call (if b then record call { state = state.Unsure } else call)
unsure_or w true call e =
    let waits = (and_parts (is_waiting call.state) (is_posted_in_vain w call.flow call.request || is_replied_in_vain w (reversed call.flow) call.reply) e).0 in
    record { flow = refl; request = refl; reply = refl; served = refl; fate = λ known. (let no : true ≡ false = sym waits ∙ known in absurd cc) }
unsure_or w false call e = only_same call

module _ (w : World) where
  only_judged : (call : Call) → OnlyState call (judged w call)
  only_judged call = unsure_or w (becomes_unsure w call) call refl

  judge_kept : (b : Bool) (c : Calls) (call : Call) → becomes_unsure w call ≡ b → CallIsKept c call → CallIsKept c (if b then record call { state = state.Unsure } else call)
  judge_kept true c call e h =
      let waits = (and_parts (is_waiting call.state) (is_posted_in_vain w call.flow call.request || is_replied_in_vain w (reversed call.flow) call.reply) e).0 in
      record { flow = h.flow; served_is_gone = h.served_is_gone; replied = h.replied; declined = λ r. absurd (waits_not call.state waits (h.declined r)); declined_only = λ e. absurd cc }
  judge_kept false c call e h = h

  judge_once : (b : Bool) (call : Call) → IsServedOnce call → IsServedOnce (if b then record call { state = state.Unsure } else call)
  judge_once true call h = record { at_most_once = h.at_most_once; answered_once = λ e. absurd cc; never_declined = λ e. absurd cc }
  judge_once false call h = h

  judge_sure : (b : Bool) (call : Call) → becomes_unsure w call ≡ b → becomes_unsure w (if b then record call { state = state.Unsure } else call) ≡ false
  judge_sure true call e = refl
  judge_sure false call e = e

module _ (answer : List ℕ → List ℕ) (c : Calls) (facts : CourseFacts answer c) where
  abbrev pub judged_calls : List Call
  judged_calls = map (judged c.world) c.calls

  only_verdicts : OnlyStates c.calls judged_calls
  only_verdicts = states_map (judged c.world) (only_judged c.world) c.calls

  pub judge_course : CourseFacts answer (with_calls judged_calls c)
  judge_course =
      states_course answer c judged_calls only_verdicts facts
      (All-map (CallIsKept (with_calls judged_calls c)) (judged c.world) c.calls (All-weaker (CallIsKept c) (λ call. CallIsKept (with_calls judged_calls c) (judged c.world call)) (λ call h. judge_kept c.world (becomes_unsure c.world call) (with_calls judged_calls c) call refl (same_facts c judged_calls call h)) c.calls facts.calls))
      (All-map IsServedOnce (judged c.world) c.calls (All-weaker IsServedOnce (λ call. IsServedOnce (judged c.world call)) (λ call h. judge_once c.world (becomes_unsure c.world call) call h) c.calls facts.once))

  pub judge_onward : Onward c (with_calls judged_calls c)
  judge_onward = states_onward answer c judged_calls only_verdicts

  all_sure : (calls : List Call) → All (λ call. becomes_unsure c.world (judged c.world call) ≡ false) calls
  all_sure [] = All-nil (λ call. becomes_unsure c.world (judged c.world call) ≡ false)
  all_sure (call ∷ calls) = All-cons (λ call. becomes_unsure c.world (judged c.world call) ≡ false) call calls (judge_sure c.world (becomes_unsure c.world call) call refl) (all_sure calls)

  pub verdicts_sure : All (λ call. becomes_unsure c.world call ≡ false) judged_calls
  verdicts_sure = All-map (λ call. becomes_unsure c.world call ≡ false) (judged c.world) c.calls (all_sure c.calls)
