-- While sides are read, the facts of calls and what was told stay right.
use Rattle.std.proofs.Common.{ℕ, ◌<◌, ◌≤◌, ◌≡◌, ◌^◌, Bool, true, false, if◌then◌else◌, List, [], ◌++◌, length, Option, Some, None, refl, ap, sym, subst, ◌∙◌, arith, append-nil, append_assoc}
use Rattle.std.specs.Prelude.{◌&&◌}
use Rattle.std.proofs.lemmas.List.{length-set}
use Rattle.std.proofs.lemmas.List.Elements.{All-push, All-weaker}
use Rattle.dt_items.specs.declared.item.Item.{Item}
use Rattle.dt_units.specs.declared.endpoints.Flow.{Flow}
use Rattle.dt_world_model.specs.Tables.{look, same_flow}
use Rattle.dt_world_model.proofs.Tables.{flow_self}
use Rattle.dt_calls_model.specs.declared.calls.CallState.{CallState}
use Rattle.dt_calls_model.specs.declared.calls.CallState.TheVariants as state
use Rattle.dt_calls_model.specs.CallFacts.{CourseFacts}
use Rattle.dt_calls_model.specs.Calls.{Begun, Calls, Client, Server, Side, call_at, is_call}
use Rattle.dt_calls_model.specs.CallStep.{is_waiting}
use Rattle.dt_calls_model.specs.CallTold as told
use Rattle.dt_calls_model.specs.CallTold.{CallEntry, CallTold}
use Rattle.dt_calls_model.specs.Messages.{carried_in, has_number, number_in}
use Rattle.dt_calls_model.specs.Promises.{payload_of}
use Rattle.dt_calls_model.specs.Reads.{Course, answered_if, serve_call, take_message, take_whole}
use Rattle.dt_calls_laws.specs.Comes.{MessageComes, ReplyComes, RequestComes}
use Rattle.dt_calls_laws.specs.Leads.{Leads, SameUnread}
use Rattle.dt_calls_laws.specs.Onward.{Onward}
use Rattle.dt_calls_laws.specs.Told.{AreTold, IsOn, IsTold}
use Rattle.dt_calls_laws.proofs.Onward.{call_less, calls_go, flow_found, payload_stays, request_within, same_call}
use Rattle.dt_calls_laws.proofs.PieceRead.{is_there, kept_at}
use Rattle.dt_calls_laws.proofs.Quiet.{quiet_same, quiet_then}
use Rattle.dt_calls_laws.proofs.Serving.{serve_course, serve_onward, serve_quiet}
use Rattle.dt_calls_laws.proofs.SideBySide.{number_back}
use Rattle.dt_calls_laws.proofs.Spans.{is_call_from}
use Rattle.dt_calls_laws.proofs.States.{answer_course, answer_onward, waits_not}

-- PAYLOADS STAY where calls go on
module _ (answer : List ℕ → List ℕ) where
  pub payloads_stay : (c after : Calls) (n : ℕ) → CourseFacts answer c → Onward c after → n < length c.calls → payload_of after.world (call_at after n) ≡ payload_of c.world (call_at c n)
  payloads_stay c after n facts on lt =
      let f = (call_at c n).flow in
      let is : is_call c f n ≡ true = is_call_from c.calls f n lt (flow_self f) in
      let there = is_there (look same_flow f c.flows) (kept_at answer c f n facts is).flow in
      let h = flow_found answer c f there.0 facts there.1 in
      let more = on.items f in
      payload_stays c after f more.0 n (calls_go c after f on) more.1 is (request_within answer c f there.0 n h is)

  told_stays : (c after : Calls) (t : CallTold) → CourseFacts answer c → Onward c after → IsTold answer c t → IsTold answer after t
  told_stays c after (told.Made call flow count) facts on h = tt
  told_stays c after (told.Declined call) facts on h = tt
  told_stays c after (told.Served call) facts on h = tt
  told_stays c after (told.Answered call octets) facts on h = (omega (arith, h.0, on.count), h.1 ∙ ap answer (sym (payloads_stay c after call facts on h.0)), λ none. h.2 (sym (on.calls call h.0).request ∙ none))
  told_stays c after (told.Unsure call) facts on h = tt

  pub all_told : (c after : Calls) (entries : List CallEntry) → CourseFacts answer c → Onward c after → AreTold answer c entries → AreTold answer after entries
  all_told c after entries facts on h = All-weaker (λ (e : CallEntry). IsTold answer c e.told) (λ (e : CallEntry). IsTold answer after e.told) (λ e k. told_stays c after e.told facts on k) entries h

  -- A PART OF A STEP
  pub onward_then : (c mid after : Calls) → Onward c mid → Onward mid after → Onward c after
  onward_then c mid after h k = record {
    calls = λ n lt.
        let one = h.calls n lt in
        let two = k.calls n (omega (arith, lt, h.count)) in
        record { flow = two.flow ∙ one.flow; request = two.request ∙ one.request; fate = λ known. two.fate (ap is_waiting (one.fate known) ∙ known) ∙ one.fate known; served = omega (arith, one.served, two.served) };
    items = λ f. let one = h.items f in let two = k.items f in (one.0 ++ two.0, two.1 ∙ ap (λ (is : List Item). is ++ two.0) one.1 ∙ append_assoc _ one.0 two.0);
    keys = λ f is. k.keys f (h.keys f is);
    count = omega (arith, h.count, k.count);
  }

  pub onward_same : (c : Calls) → Onward c c
  onward_same c = record { calls = λ n lt. same_call (call_at c n); items = λ f. ([], sym (append-nil _)); keys = λ f h. h; count = omega arith }

  pub leads_then : (c mid after : Course) → Leads answer c mid → Leads answer mid after → Leads answer c after
  leads_then c mid after h k = record {
    on = k.on;
    onward = onward_then c.calls mid.calls after.calls h.onward k.onward;
    quiet = quiet_then c.calls.world mid.calls.world after.calls.world h.quiet k.quiet;
    names = k.names ∙ h.names;
    count = k.count ∙ h.count;
  }

  pub leads_same : (c : Course) → IsOn answer c → Leads answer c c
  leads_same c on = record { on = on; onward = onward_same c.calls; quiet = quiet_same c.calls.world; names = refl; count = refl }

  -- A REQUEST IS SERVED
  module _ (c : Course) (on : IsOn answer c) (f : Flow) (b : Begun) (there : look same_flow f c.calls.flows ≡ Some b) (m : List ℕ) (comes : RequestComes c.calls f m) where
    number_of : number_in m ≡ comes.call
    number_of = let lt = call_less c.calls f comes.call comes.is_call in ap number_in comes.is ∙ number_back comes.call (payload_of c.calls.world (call_at c.calls comes.call)) (omega (arith, lt, on.few))

    abbrev served_course : Course
    served_course = serve_call answer f comes.call (payload_of c.calls.world (call_at c.calls comes.call)) c

    served_is : take_message answer Server f m c ≡ served_course
    served_is = ap (λ (n : ℕ). serve_call answer f n (carried_in m) c) number_of ∙ ap (λ (o : List ℕ). serve_call answer f comes.call o c) (ap carried_in comes.is)

    serve_on : IsOn answer served_course
    serve_on =
        let facts = serve_course answer c.calls f b on.facts there m comes in
        let onward = serve_onward answer c.calls f b on.facts there m comes in
        record {
          facts = facts;
          few = let l = length-set c.calls.calls comes.call _ in subst (λ (k : ℕ). k ≤ 2 ^ 64) (sym l) on.few;
          told = All-push (λ (e : CallEntry). IsTold answer served_course.calls e.told) c.told (record { moment = c.calls.world.now; told = told.Served comes.call }) (all_told c.calls served_course.calls c.told on.facts onward on.told) tt;
        }

    serve_leads : Leads answer c served_course
    serve_leads = let q = serve_quiet answer c.calls f b on.facts there m comes in record { on = serve_on; onward = serve_onward answer c.calls f b on.facts there m comes; quiet = q.0; names = refl; count = length-set c.calls.calls comes.call _ }

    pub server_leads : Leads answer c (take_message answer Server f m c) × SameUnread c.calls.world (take_message answer Server f m c).calls.world
    server_leads =
        let q = serve_quiet answer c.calls f b on.facts there m comes in
        subst (λ (d : Course). Leads answer c d × SameUnread c.calls.world d.calls.world) (sym served_is) (serve_leads, q.1)

  -- A REPLY COMES
  module _ (c : Course) (on : IsOn answer c) (f : Flow) (m : List ℕ) (comes : ReplyComes answer c.calls f m) where
    abbrev n : ℕ
    n = comes.call

    abbrev octets : List ℕ
    octets = answer (payload_of c.calls.world (call_at c.calls n))

    reply_number : number_in m ≡ n
    reply_number = let lt = call_less c.calls f n comes.is_call in ap number_in comes.is ∙ number_back n octets (omega (arith, lt, on.few))

    answered_is : take_message answer Client f m c ≡ answered_if (call_at c.calls n).state n octets c
    answered_is = ap (λ (k : ℕ). answered_if (call_at c.calls k).state k (carried_in m) c) reply_number ∙ ap (λ (o : List ℕ). answered_if (call_at c.calls n).state n o c) (ap carried_in comes.is)

    answer_on : is_waiting (call_at c.calls n).state ≡ true → IsOn answer (answered_if state.Waiting n octets c)
    answer_on waits =
        let facts = answer_course answer c.calls f on.facts m comes waits in
        let onward = answer_onward answer c.calls f on.facts m comes waits in
        let lt = call_less c.calls f n comes.is_call in
        let after = (answered_if state.Waiting n octets c).calls in
        record {
          facts = facts;
          few = let l = length-set c.calls.calls n _ in subst (λ (k : ℕ). k ≤ 2 ^ 64) (sym l) on.few;
          told = All-push (λ (e : CallEntry). IsTold answer after e.told) c.told (record { moment = c.calls.world.now; told = told.Answered n octets }) (all_told c.calls after c.told on.facts onward on.told)
              (omega (arith, lt, onward.count), ap answer (sym (payloads_stay c.calls after n on.facts onward lt)), λ none. waits_not (call_at c.calls n).state waits ((kept_at answer c.calls f n on.facts comes.is_call).declined (sym (onward.calls n lt).request ∙ none)));
        }

    answer_by : (s : CallState) → (call_at c.calls n).state ≡ s → Leads answer c (answered_if s n octets c) × SameUnread c.calls.world (answered_if s n octets c).calls.world
    answer_by state.Waiting e =
        let waits : is_waiting (call_at c.calls n).state ≡ true = ap is_waiting e in
        (record { on = answer_on waits; onward = answer_onward answer c.calls f on.facts m comes waits; quiet = quiet_same c.calls.world; names = refl; count = length-set c.calls.calls n _ }, λ g. refl)
    answer_by state.Answered e = (leads_same c on, λ g. refl)
    answer_by state.Unsure e = (leads_same c on, λ g. refl)
    answer_by state.Declined e = (leads_same c on, λ g. refl)

    pub client_leads : Leads answer c (take_message answer Client f m c) × SameUnread c.calls.world (take_message answer Client f m c).calls.world
    client_leads = subst (λ (d : Course). Leads answer c d × SameUnread c.calls.world d.calls.world) (sym answered_is) (answer_by (call_at c.calls n).state refl)

  -- A WHOLE MESSAGE
  message_leads : (side : Side) (c : Course) (f : Flow) (b : Begun) (m : List ℕ) → IsOn answer c → look same_flow f c.calls.flows ≡ Some b → MessageComes answer side c.calls f m → Leads answer c (take_message answer side f m c) × SameUnread c.calls.world (take_message answer side f m c).calls.world
  message_leads Server c f b m on there comes = server_leads c on f b there m comes
  message_leads Client c f b m on there comes = client_leads c on f m comes

  if_leads : (t : Bool) (c d : Course) → IsOn answer c → Leads answer c d × SameUnread c.calls.world d.calls.world → Leads answer c (if t then d else c) × SameUnread c.calls.world (if t then d else c).calls.world
  if_leads true c d on h = h
  if_leads false c d on h = (leads_same c on, λ g. refl)

  pub whole_leads : (side : Side) (c : Course) (f : Flow) (b : Begun) (o : Option (List ℕ)) → IsOn answer c → look same_flow f c.calls.flows ≡ Some b → ((m : List ℕ) → o ≡ Some m → MessageComes answer side c.calls f m)
      → Leads answer c (take_whole answer side f o c) × SameUnread c.calls.world (take_whole answer side f o c).calls.world
  whole_leads side c f b None on there comes = (leads_same c on, λ g. refl)
  whole_leads side c f b (Some m) on there comes =
      if_leads (has_number m && is_call c.calls f (number_in m)) c (take_message answer side f m c) on (message_leads side c f b m on there (comes m refl))
