-- What of the facts of calls stays where calls, worlds and flows go on.
use Rattle.std.proofs.Common.{ℕ, ◌+◌, ◌-◌, ◌<◌, ◌≤◌, ◌≡◌, ◌==◌, Bool, true, false, List, [], ◌∷◌, ◌++◌, length, map, take, drop, Option, Some, None, refl, ap, sym, subst, ◌∙◌, arith, append-nil}
use Rattle.std.specs.Prelude.{slice_index_or, nat_lt, ◌||◌}
use Rattle.std.specs.List.{All, Contains}
use Rattle.std.proofs.lemmas.Bool.{and_parts}
use Rattle.std.proofs.lemmas.List.{take-append-drop, take-take}
use Rattle.std.proofs.lemmas.List.Elements.{All-contains, All-weaker}
use Rattle.dt_items.specs.declared.item.Item.{Item}
use Rattle.dt_units.specs.declared.endpoints.Flow.{Flow}
use Rattle.dt_flow_model.specs.declared.rows.Given.{Given}
use Rattle.dt_flow_model.specs.declared.rows.Taken as rows
use Rattle.dt_flow_model.specs.Ledger.{given_at, is_given, item_of}
use Rattle.dt_world_model.specs.Tables.{has_key, look, same_flow}
use Rattle.dt_world_model.specs.World.{World, placed}
use Rattle.dt_world_model.proofs.Tables.{all_look, flow_is, flow_self}
use Rattle.dt_calls_model.specs.declared.calls.Call.{Call}
use Rattle.dt_calls_model.specs.declared.calls.Posted.{Posted}
use Rattle.dt_calls_model.specs.declared.calls.Posted.TheVariants.{Refused, Taken}
use Rattle.dt_calls_model.specs.CallFacts.{AreBegun, AreReplies, CallIsKept, CourseFacts, FlowIsKept, LieSideBySide, Span, requests_on, rows_gone, taken_rows}
use Rattle.dt_calls_model.specs.Calls.{Begun, Calls, call_at, is_call}
use Rattle.dt_calls_model.specs.Messages.{reversed}
use Rattle.dt_calls_model.specs.Promises.{payload_of}
use Rattle.dt_calls_laws.specs.Calm.{Steady, items_taken}
use Rattle.dt_calls_laws.specs.Onward.{CallGoesOn, Onward}
use Rattle.dt_calls_laws.proofs.Spans.{EndsWithin, IsRequest, Lie, PostedWithin, contains_request, from_lie, is_call_from, is_less, lie_as, lie_within, payload_in, payload_is, payload_more, requests_are, to_lie}

-- THE CALLS OF A FLOW go on: they are calls of it still, with the same requests
pub record GoOn (c after : Calls) (f : Flow) : Type 0 where
  pub calls : (n : ℕ) → is_call c f n ≡ true → is_call after f n ≡ true
  pub requests : (n : ℕ) → is_call c f n ≡ true → (call_at after n).request ≡ (call_at c n).request

-- and none gets another reply
pub record SameReplies (c after : Calls) (f : Flow) : Type 0 where
  pub replies : (n : ℕ) → is_call c f n ≡ true → (call_at after n).reply ≡ (call_at c n).reply
  pub none_new : (n place count : ℕ) → is_call after f n ≡ true → (call_at after n).reply ≡ Some (Taken place count) → is_call c f n ≡ true

pub flow_of_call : (c : Calls) (f : Flow) (n : ℕ) → is_call c f n ≡ true → (call_at c n).flow ≡ f
flow_of_call c f n h = flow_is (call_at c n).flow f (and_parts (nat_lt n (length c.calls)) (same_flow (call_at c n).flow f) h).1

pub call_less : (c : Calls) (f : Flow) (n : ℕ) → is_call c f n ≡ true → n < length c.calls
call_less c f n h = is_less n (length c.calls) (and_parts (nat_lt n (length c.calls)) (same_flow (call_at c n).flow f) h).0

-- where all calls go on, those of each flow do
pub calls_go : (c after : Calls) (f : Flow) → Onward c after → GoOn c after f
calls_go c after f on = record {
  calls = λ n is.
      let lt = call_less c f n is in
      is_call_from after.calls f n (omega (arith, lt, on.count)) (ap (λ (g : Flow). same_flow g f) ((on.calls n lt).flow ∙ flow_of_call c f n is) ∙ flow_self f);
  requests = λ n is. (on.calls n (call_less c f n is)).request;
}

pub same_call : (call : Call) → CallGoesOn call call
same_call call = record { flow = refl; request = refl; fate = λ h. refl; served = omega arith }

-- PAYLOADS STAY
pub payload_stays : (c after : Calls) (f : Flow) (more : List Item) (n : ℕ) → GoOn c after f → items_taken after.world f ≡ items_taken c.world f ++ more → is_call c f n ≡ true → PostedWithin (items_taken c.world f) (call_at c n).request
    → payload_of after.world (call_at after n) ≡ payload_of c.world (call_at c n)
payload_stays c after f more n go items is within =
    payload_is after.world (call_at after n)
    ∙ ap (λ (g : Flow). payload_in (items_taken after.world g) (call_at after n).request) (flow_of_call after f n (go.calls n is))
    ∙ ap (λ (r : Posted). payload_in (items_taken after.world f) r) (go.requests n is)
    ∙ ap (λ (is : List Item). payload_in is (call_at c n).request) items
    ∙ payload_more (items_taken c.world f) more (call_at c n).request within
    ∙ sym (ap (λ (g : Flow). payload_in (items_taken c.world g) (call_at c n).request) (flow_of_call c f n is))
    ∙ sym (payload_is c.world (call_at c n))

module _ (answer : List ℕ → List ℕ) where
  -- a request stands within what its flow took
  within_by : (c : Calls) (f : Flow) (b : Begun) (n : ℕ) → FlowIsKept answer c f b → is_call c f n ≡ true → (r : Posted) → (call_at c n).request ≡ r → PostedWithin (items_taken c.world f) r
  within_by c f b n h is (Taken place count) e =
      let lie = to_lie c.world f (λ s. payload_of c.world (call_at c s.call)) 0 (requests_on c f) h.requests in
      All-contains (EndsWithin (items_taken c.world f)) (requests_on c f) (record { call = n; place = place; count = count }) (lie_within (items_taken c.world f) (λ s. payload_of c.world (call_at c s.call)) 0 (requests_on c f) lie).1
      (contains_request c.calls f n place count is e)
  within_by c f b n h is Refused e = tt

  pub request_within : (c : Calls) (f : Flow) (b : Begun) (n : ℕ) → FlowIsKept answer c f b → is_call c f n ≡ true → PostedWithin (items_taken c.world f) (call_at c n).request
  request_within c f b n h is = within_by c f b n h is (call_at c n).request refl

  module _ (c after : Calls) (f : Flow) (b : Begun) (h : FlowIsKept answer c f b) (go : GoOn c after f) where
    abbrev carried : Span → List ℕ
    carried s = payload_of c.world (call_at c s.call)

    abbrev carried_after : Span → List ℕ
    carried_after s = payload_of after.world (call_at after s.call)

    module _ (more : List Item) (items : items_taken after.world f ≡ items_taken c.world f ++ more) where
      pub same_carried : All (λ s. carried_after s ≡ carried s) (requests_on c f)
      same_carried =
          All-weaker (IsRequest c.calls f) (λ s. carried_after s ≡ carried s) (λ s r. payload_stays c after f more s.call go items r.call (request_within c f b s.call h r.call)) (requests_on c f) (requests_are c.calls f)

      pub replies_carried : (spans : List Span) → All (λ s. (is_call c f s.call ≡ true) × ((call_at c s.call).reply ≡ Some (Taken s.place s.count))) spans → All (λ s. answer (carried_after s) ≡ answer (carried s)) spans
      replies_carried spans of =
          All-weaker (λ s. (is_call c f s.call ≡ true) × ((call_at c s.call).reply ≡ Some (Taken s.place s.count))) (λ s. answer (carried_after s) ≡ answer (carried s))
          (λ s r. ap answer (payload_stays c after f more s.call go items r.0 (request_within c f b s.call h r.0))) spans of

      -- the replies stay those that the flow has
      pub replies_stay : SameReplies c after f → items_taken after.world (reversed f) ≡ items_taken c.world (reversed f) → AreReplies answer after f h.replies
      replies_stay same back =
          let were = h.are_replies in
          let spans = h.replies in
          let lie = to_lie c.world (reversed f) (λ s. answer (carried s)) 0 spans were.lie in
          let lie' = lie_as (items_taken c.world (reversed f)) (λ s. answer (carried s)) (λ s. answer (carried_after s)) 0 spans (replies_carried spans were.of_calls) lie in
          record {
            lie = from_lie after.world (reversed f) (λ s. answer (carried_after s)) 0 spans (subst (λ (is : List Item). Lie is (λ s. answer (carried_after s)) 0 spans) (sym back) lie');
            of_calls = All-weaker (λ s. (is_call c f s.call ≡ true) × ((call_at c s.call).reply ≡ Some (Taken s.place s.count))) (λ s. (is_call after f s.call ≡ true) × ((call_at after s.call).reply ≡ Some (Taken s.place s.count)))
                (λ s r. (go.calls s.call r.0, same.replies s.call r.0 ∙ r.1)) spans were.of_calls;
            all = λ n place count is reply.
                let was = same.none_new n place count is reply in
                were.all n place count was (sym (same.replies n was) ∙ reply);
          }

    -- and so do the requests, where there is none more
    pub requests_stay : requests_on after f ≡ requests_on c f → items_taken after.world f ≡ items_taken c.world f → LieSideBySide after.world f carried_after 0 (requests_on after f)
    requests_stay spans items =
        let lie = to_lie c.world f carried 0 (requests_on c f) h.requests in
        let lie' = lie_as (items_taken c.world f) carried carried_after 0 (requests_on c f) (same_carried [] (items ∙ sym (append-nil (items_taken c.world f)))) lie in
        from_lie after.world f carried_after 0 (requests_on after f)
        (subst (λ (ss : List Span). Lie (items_taken after.world f) carried_after 0 ss) (sym spans) (subst (λ (is : List Item). Lie is carried_after 0 (requests_on c f)) (sym items) lie'))

-- WHAT IS BEGUN stays where the rows that are gone stay
record BegunIn (gone_rows : List Given) (life : ℕ) (spans : List Span) (octets : List ℕ) : Type 0 where
  pub span : Span
  pub there : Contains spans span
  pub some : 0 < length octets
  pub part : length octets < span.count
  pub gone : length octets ≤ length gone_rows
  pub rows : (k : ℕ) → k < length octets → let row = given_at gone_rows (length gone_rows - length octets + k) in (row.place ≡ span.place + k) × (row.life ≡ life) × (row.octet ≡ slice_index_or octets k row.octet)

pub begun_stays : (w after : World) (g : Flow) (spans spans' : List Span) (o : Option (List ℕ)) → Steady w after g → ((s : Span) → Contains spans s → Contains spans' s) → AreBegun w g spans o → AreBegun after g spans' o
begun_stays w after g spans spans' None steady on h = tt
begun_stays w after g spans spans' (Some octets) steady on h =
    let was : BegunIn (rows_gone w g) (placed w g.to.0).life spans' octets = record { span = h.span; there = on h.span h.there; some = h.some; part = h.part; gone = h.gone; rows = h.rows } in
    let is : BegunIn (rows_gone after g) (placed after g.to.0).life spans' octets = subst (λ (l : ℕ). BegunIn (rows_gone after g) l spans' octets) (sym steady.life) (subst (λ (gs : List Given). BegunIn gs (placed w g.to.0).life spans' octets) (sym steady.gone) was) in
    record { span = is.span; there = is.there; some = is.some; part = is.part; gone = is.gone; rows = is.rows }

-- A FLOW IS KEPT where nothing of it changed but what its sides have begun
pub record Still (c after : Calls) (f : Flow) : Type 0 where
  pub go : GoOn c after f
  pub spans : requests_on after f ≡ requests_on c f
  pub replies : SameReplies c after f
  pub items : items_taken after.world f ≡ items_taken c.world f
  pub items_back : items_taken after.world (reversed f) ≡ items_taken c.world (reversed f)

abbrev pub KeysStay : World → World → Type 0
KeysStay w after = (m : ℕ) → has_key ◌==◌ m w.stations ≡ true → has_key ◌==◌ m after.stations ≡ true

module _ (answer : List ℕ → List ℕ) where
  pub flow_still : (c after : Calls) (f : Flow) (b b' : Begun) (h : FlowIsKept answer c f b) → KeysStay c.world after.world → has_key same_flow (reversed f) after.flows ≡ false → Still c after f
      → AreBegun after.world f (requests_on after f) b'.request → AreBegun after.world (reversed f) h.replies b'.reply → FlowIsKept answer after f b'
  flow_still c after f b b' h keys one_way still requests replies =
      record {
        ranges = h.ranges;
        called = h.called;
        is_called = still.go.calls h.called h.is_called;
        from_there = keys f.from.0 h.from_there;
        to_there = keys f.to.0 h.to_there;
        two_ends = h.two_ends;
        one_way = one_way;
        requests = requests_stay answer c after f b h still.go still.spans still.items;
        replies = h.replies;
        are_replies = replies_stay answer c after f b h still.go [] (still.items ∙ sym (append-nil (items_taken c.world f))) still.replies still.items_back;
        requests_begun = requests;
        replies_begun = replies;
      }

  same_spans : (c after : Calls) (f : Flow) → requests_on after f ≡ requests_on c f → (s : Span) → Contains (requests_on c f) s → Contains (requests_on after f) s
  same_spans c after f e s h = subst (λ (ss : List Span). Contains ss s) (sym e) h

  -- with what they have begun
  pub flow_calm : (c after : Calls) (f : Flow) (b : Begun) → FlowIsKept answer c f b → KeysStay c.world after.world → has_key same_flow (reversed f) after.flows ≡ false → Still c after f
      → Steady c.world after.world f → Steady c.world after.world (reversed f) → FlowIsKept answer after f b
  flow_calm c after f b h keys one_way still there back =
      flow_still c after f b b h keys one_way still (begun_stays c.world after.world f (requests_on c f) (requests_on after f) b.request there (same_spans c after f still.spans) h.requests_begun)
      (begun_stays c.world after.world (reversed f) h.replies h.replies b.reply back (λ s k. k) h.replies_begun)

  pub flow_found : (c : Calls) (f : Flow) (b : Begun) → CourseFacts answer c → look same_flow f c.flows ≡ Some b → FlowIsKept answer c f b
  flow_found c f b facts there = all_look Flow Begun same_flow flow_self flow_is (FlowIsKept answer c) f b c.flows there facts.flows

-- WHAT IS GONE stays gone
abbrev pub GoneStays : World → World → Type 0
GoneStays w after = (g : Flow) (place : ℕ) → is_given (rows_gone w g) place ≡ true → is_given (rows_gone after g) place ≡ true

or_more : (a b c : Bool) → (b ≡ true → c ≡ true) → (a || b) ≡ true → (a || c) ≡ true
or_more true b c on h = refl
or_more false b c on h = on h

given_more : (xs ys : List Given) (place : ℕ) → is_given xs place ≡ true → is_given (xs ++ ys) place ≡ true
given_more [] ys place h = absurd cc
given_more (x ∷ xs) ys place h = or_more (x.place == place) (is_given xs place) (is_given (xs ++ ys) place) (given_more xs ys place) h

pub given_whole : (d : ℕ) (xs : List Given) (place : ℕ) → is_given (take d xs) place ≡ true → is_given xs place ≡ true
given_whole d xs place h = subst (λ (gs : List Given). is_given gs place ≡ true) (take-append-drop d xs) (given_more (take d xs) (drop d xs) place h)

pub given_later : (d n : ℕ) (xs : List Given) (place : ℕ) → is_given (take d xs) place ≡ true → is_given (take (d + n) xs) place ≡ true
given_later d n xs place h = given_whole d (take (d + n) xs) place (subst (λ (gs : List Given). is_given gs place ≡ true) (sym (take-take d (d + n) xs (omega arith))) h)

pub call_kept : (c after : Calls) (call : Call) → (has_key same_flow call.flow c.flows ≡ true → has_key same_flow call.flow after.flows ≡ true) → GoneStays c.world after.world → CallIsKept c call → CallIsKept after call
call_kept c after call keys gone h = record {
  flow = keys h.flow;
  served_is_gone = λ some. gone call.flow _ (h.served_is_gone some);
  replied = h.replied;
  declined = h.declined;
  declined_only = h.declined_only;
}

-- NOTHING was taken where no item was
no_rows : (taken : List rows.Taken) → map item_of taken ≡ [] → taken ≡ []
no_rows [] e = refl
no_rows (r ∷ rs) e = absurd cc

pub none_taken : (w after : World) (f : Flow) → items_taken after f ≡ items_taken w f → taken_rows w f ≡ [] → taken_rows after f ≡ []
none_taken w after f items none = no_rows (taken_rows after f) (items ∙ ap (map item_of) none)
