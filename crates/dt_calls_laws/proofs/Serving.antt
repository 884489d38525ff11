-- A request is served: its call is served once, and the flow has its reply.
use Rattle.std.proofs.Common.{ℕ, zero, suc, ◌+◌, ◌≡◌, ◌≢◌, ◌==◌, true, false, if◌then◌else◌, List, [], ◌∷◌, ◌++◌, length, set, Option, Some, None, refl, ap, sym, subst, ◌∙◌, inl, inr, ◌⊎◌, arith, append-nil}
use Rattle.std.specs.Prelude.{nat_lt, ◌&&◌}
use Rattle.std.specs.List.{All, Contains}
use Rattle.std.proofs.lemmas.Bool.{cases_Bool}
use Rattle.std.proofs.lemmas.List.{get_or-set_other, get_or-set_same, length-map, length-set}
use Rattle.std.proofs.lemmas.List.Elements.{All-push, All-set, All-weaker, Contains-append_left, Contains-push}
use Rattle.dt_items.specs.declared.item.Item.{Item}
use Rattle.dt_units.specs.declared.endpoints.Flow.{Flow}
use Rattle.dt_units.specs.Flows.{IsFlow}
use Rattle.dt_units.specs.Limits.{IsWithinLimits}
use Rattle.dt_flow_model.specs.Ledger.{is_given, item_of}
use Rattle.dt_world_model.specs.Tables.{has_key, look, same_flow}
use Rattle.dt_world_model.specs.World.{World, view}
use Rattle.dt_world_model.proofs.Tables.{all_found, flow_is, flow_self, nat_is, nat_self}
use Rattle.dt_calls_model.specs.declared.calls.Call.{Call}
use Rattle.dt_calls_model.specs.declared.calls.Posted.{Posted}
use Rattle.dt_calls_model.specs.declared.calls.Posted.TheVariants.{Refused, Taken}
use Rattle.dt_calls_model.specs.CallFacts.{AreReplies, CallIsKept, CourseFacts, FlowIsKept, Span, last_of, requests_from, requests_on, rows_gone, span_of, taken_rows}
use Rattle.dt_calls_model.specs.Calls.{Begun, Calls, Client, call_at, call_in, is_call, is_call_in}
use Rattle.dt_calls_model.specs.Messages.{message_of, reversed}
use Rattle.dt_calls_model.specs.Promises.{IsServedOnce, payload_of}
use Rattle.dt_calls_model.specs.Reads.{post}
use Rattle.dt_calls_laws.specs.Calm.{Steady, items_taken}
use Rattle.dt_calls_laws.specs.Comes.{RequestComes}
use Rattle.dt_calls_laws.specs.Onward.{CallGoesOn, Onward, StaysQuiet}
use Rattle.dt_calls_laws.proofs.Onward.{GoOn, begun_stays, call_kept, call_less, flow_calm, flow_found, flow_of_call, none_taken, payload_stays, replies_carried, request_within, requests_stay, same_call}
use Rattle.dt_calls_laws.proofs.PieceRead.{apart_from, kept_at, key_found, not_own_back}
use Rattle.dt_calls_laws.proofs.Posting.{PostsAs, post_goes, post_gone, post_keys, post_quiet, post_steady, posts_as}
use Rattle.dt_calls_laws.proofs.Spans.{Lie, from_lie, lie_as, lie_more, to_lie, whole}
use Rattle.dt_calls_laws.proofs.UnreadEnd.{some_is}

-- A CALL IS SET, with the same flow and the same request
pub requests_set : (f : Flow) (n : ℕ) (calls : List Call) (k : ℕ) (call : Call) → call.flow ≡ (call_in calls k).flow → call.request ≡ (call_in calls k).request → requests_from f n (set calls k call) ≡ requests_from f n calls
requests_set f n [] k call e r = refl
requests_set f n (c ∷ calls) zero call e r =
    ap (λ (g : Flow). (if same_flow g f then span_of n call.request else []) ++ requests_from f (suc n) calls) e
    ∙ ap (λ (p : Posted). (if same_flow c.flow f then span_of n p else []) ++ requests_from f (suc n) calls) r
requests_set f n (c ∷ calls) (suc k) call e r = ap (λ (ss : List Span). (if same_flow c.flow f then span_of n c.request else []) ++ ss) (requests_set f (suc n) calls k call e r)

pub flow_set : (calls : List Call) (k m : ℕ) (call : Call) → call.flow ≡ (call_in calls k).flow → (call_in (set calls k call) m).flow ≡ (call_in calls m).flow
flow_set [] k m call e = refl
flow_set (c ∷ calls) zero zero call e = e
flow_set (c ∷ calls) zero (suc m) call e = refl
flow_set (c ∷ calls) (suc k) zero call e = refl
flow_set (c ∷ calls) (suc k) (suc m) call e = flow_set calls k m call e

pub is_call_set : (calls : List Call) (f : Flow) (k m : ℕ) (call : Call) → call.flow ≡ (call_in calls k).flow → is_call_in (set calls k call) f m ≡ is_call_in calls f m
is_call_set calls f k m call e =
    ap (λ (l : ℕ). nat_lt m l && same_flow (call_in (set calls k call) m).flow f) (length-set calls k call)
    ∙ ap (λ (g : Flow). nat_lt m (length calls) && same_flow g f) (flow_set calls k m call e)

pub request_set : (calls : List Call) (k m : ℕ) (call : Call) → call.request ≡ (call_in calls k).request → (call_in (set calls k call) m).request ≡ (call_in calls m).request
request_set [] k m call e = refl
request_set (c ∷ calls) zero zero call e = e
request_set (c ∷ calls) zero (suc m) call e = refl
request_set (c ∷ calls) (suc k) zero call e = refl
request_set (c ∷ calls) (suc k) (suc m) call e = request_set calls k m call e

-- two numbers are the same, or they aren't
pub same_number : (m n : ℕ) → (m == n) ≡ false → m ≢ n
same_number m n h e = let yes : (m == n) ≡ true = subst (λ (k : ℕ). (m == k) ≡ true) e (nat_self m) in absurd cc

taken_place : (p q c d : ℕ) → Taken p c ≡ Taken q d → p ≡ q
taken_place p q c d e = cc

taken_count : (p q c d : ℕ) → Taken p c ≡ Taken q d → c ≡ d
taken_count p q c d e = cc

is_none : (o : Option Posted) → (o ≢ None → ⊥) → o ≡ None
is_none None h = refl
is_none (Some p) h = absurd (h (λ e. absurd cc))

module _ (answer : List ℕ → List ℕ) (c : Calls) (f : Flow) (b : Begun) (facts : CourseFacts answer c) (there : look same_flow f c.flows ≡ Some b) (message : List ℕ) (comes : RequestComes c f message) where
  abbrev n : ℕ
  n = comes.call

  abbrev call : Call
  call = call_at c n

  abbrev payload : List ℕ
  payload = payload_of c.world call

  abbrev octets : List ℕ
  octets = message_of n (answer payload)

  abbrev reply : Posted × World
  reply = post (reversed f) octets c.world

  abbrev served : Call
  served = record call { served = call.served + 1; reply = Some reply.0 }

  abbrev next : Calls
  next = record { world = reply.1; calls = set c.calls n served; flows = c.flows }

  here : FlowIsKept answer c f b
  here = flow_found answer c f b facts there

  flow_back : IsFlow (reversed f)
  flow_back = let h = here.ranges in record { from = h.to; from_port = h.to_port; to = h.from; to_port = h.from_port }

  back_ends : (reversed f).from.0 ≢ (reversed f).to.0
  back_ends e = here.two_ends (sym e)

  abbrev left : PostsAs c.world reply.1 (reversed f) octets reply.0
  left = posts_as c.world facts.limits facts.world (reversed f) flow_back back_ends here.to_there octets

  steady : (k : Flow) → Steady c.world reply.1 k
  steady k = post_steady c.world facts.limits facts.world (reversed f) flow_back back_ends here.to_there octets k

  kept : CallIsKept c call
  kept = kept_at answer c f n facts comes.is_call

  -- it had no reply
  no_reply : call.reply ≡ None
  no_reply = is_none call.reply (λ some. let once = kept.replied some in let un = comes.unserved in absurd (omega (arith, once, un)))

  call_next : call_at next n ≡ served
  call_next = get_or-set_same c.calls n served _ (call_less c f n comes.is_call)

  call_other : (m : ℕ) → m ≢ n → call_at next m ≡ call_at c m
  call_other m h = get_or-set_other c.calls n m served _ h

  is_next : (k : Flow) (m : ℕ) → is_call next k m ≡ is_call c k m
  is_next k m = is_call_set c.calls k n m served refl

  go : (k : Flow) → GoOn c next k
  go k = record { calls = λ m h. is_next k m ∙ h; requests = λ m h. request_set c.calls n m served refl }

  -- the items of flows
  not_taken : (p : Posted) (k : Flow) → PostsAs c.world reply.1 (reversed f) octets p → same_flow (reversed f) k ≡ false → items_taken reply.1 k ≡ items_taken c.world k
  not_taken Refused k h apart = h.items k
  not_taken (Taken place count) k h apart = h.2.others k apart

  items_other : (k : Flow) → same_flow (reversed f) k ≡ false → items_taken reply.1 k ≡ items_taken c.world k
  items_other k apart = not_taken reply.0 k left apart

  items_here : items_taken reply.1 f ≡ items_taken c.world f
  items_here = items_other f (not_own_back f here.two_ends)

  -- OTHER FLOWS
  other_flow : (k : Flow) (x : Begun) → look same_flow k c.flows ≡ Some x → same_flow f k ≡ false → FlowIsKept answer next k x
  other_flow k x found other =
      let h = flow_found answer c k x facts found in
      let apart = apart_from c.flows f k here.one_way (key_found (look same_flow k c.flows) x found) other Client in
      let not_n : (m : ℕ) → is_call c k m ≡ true → m ≢ n =
      (λ m is e.
      let same : f ≡ k = sym (flow_of_call c f n comes.is_call) ∙ ap (λ (i : ℕ). (call_at c i).flow) (sym e) ∙ flow_of_call c k m is in
      let yes : same_flow f k ≡ true = subst (λ (g : Flow). same_flow f g ≡ true) same (flow_self f) in
      absurd cc) in
      flow_calm answer c next k x h (post_keys c.world facts.limits facts.world (reversed f) flow_back back_ends here.to_there octets) h.one_way
      (record {
        go = go k;
        spans = requests_set k 0 c.calls n served refl refl;
        replies = record {
          replies = λ m is. ap (λ (x : Call). x.reply) (call_other m (not_n m is));
          none_new = λ m place count is e. sym (is_next k m) ∙ is;
        };
        items = items_other k apart.0;
        items_back = items_other (reversed k) apart.1;
      })
      (steady k) (steady (reversed k))

  -- THE REPLIES of the flow
  abbrev new_carried : Span → List ℕ
  new_carried s = answer (payload_of next.world (call_at next s.call))

  abbrev IsReply : Calls → Span → Type 0
  IsReply d s = (is_call d f s.call ≡ true) × ((call_at d s.call).reply ≡ Some (Taken s.place s.count))

  payload_same : payload_of next.world (call_at next n) ≡ payload
  payload_same = payload_stays c next f [] n (go f) (items_here ∙ sym (append-nil (items_taken c.world f))) comes.is_call (request_within answer c f b n here comes.is_call)

  same_answers : Lie (items_taken c.world (reversed f)) new_carried 0 here.replies
  same_answers =
      let were = here.are_replies in
      lie_as (items_taken c.world (reversed f)) (λ s. answer (payload_of c.world (call_at c s.call))) new_carried 0 here.replies
      (replies_carried answer c next f b here (go f) [] (items_here ∙ sym (append-nil (items_taken c.world f))) here.replies were.of_calls)
      (to_lie c.world (reversed f) (λ s. answer (payload_of c.world (call_at c s.call))) 0 here.replies were.lie)

  reply_other : (m : ℕ) (r : Posted) → (call_at c m).reply ≡ Some r → (call_at next m).reply ≡ Some r
  reply_other m r e =
      elim (cases_Bool (m == n)) [
        | inl y ↦ let none : (call_at c m).reply ≡ None = ap (λ (i : ℕ). (call_at c i).reply) (nat_is m n y) ∙ no_reply in absurd cc
        | inr o ↦ ap (λ (x : Call). x.reply) (call_other m (same_number m n o)) ∙ e
      ]

  old_replies : All (IsReply next) here.replies
  old_replies = All-weaker (IsReply c) (IsReply next) (λ s r. (is_next f s.call ∙ r.0, reply_other s.call (Taken s.place s.count) r.1)) here.replies here.are_replies.of_calls

  -- a call that has a reply now is the one that was served, or it had it
  reply_of : (m place count : ℕ) → is_call next f m ≡ true → (call_at next m).reply ≡ Some (Taken place count) → ((m ≡ n) × (reply.0 ≡ Taken place count)) ⊎ Contains here.replies (record { call = m; place = place; count = count })
  reply_of m place count is e =
      elim (cases_Bool (m == n)) [
        | inl y ↦
            let same = nat_is m n y in
            inl (same, some_is reply.0 (Taken place count) (sym (ap (λ (x : Call). x.reply) (ap (λ (i : ℕ). call_at next i) same ∙ call_next)) ∙ e))
        | inr o ↦ inr (here.are_replies.all m place count (sym (is_next f m) ∙ is) (sym (ap (λ (x : Call). x.reply) (call_other m (same_number m n o))) ∙ e))
      ]

  abbrev spans_with : Posted → List Span
  spans_with Refused = here.replies
  spans_with (Taken place count) = here.replies ++ (record { call = n; place = place; count = count }) ∷ []

  replies_with : (p : Posted) → reply.0 ≡ p → PostsAs c.world reply.1 (reversed f) octets p → AreReplies answer next f (spans_with p)
  replies_with Refused e h = record {
    lie = from_lie reply.1 (reversed f) new_carried 0 here.replies (subst (λ (is : List Item). Lie is new_carried 0 here.replies) (sym (h.items (reversed f))) same_answers);
    of_calls = old_replies;
    all = λ m place count is reply_is. elim (reply_of m place count is reply_is) [
      | inl it ↦ (let no : Refused ≡ Taken place count = sym e ∙ it.1 in absurd cc)
      | inr old ↦ old
    ];
  }
  replies_with (Taken place count) e h =
      let s : Span = record { call = n; place = place; count = count } in
      let same : new_carried s ≡ answer payload = ap answer payload_same in
      let at : place ≡ length (items_taken c.world (reversed f)) = h.0 ∙ sym (length-map (taken_rows c.world (reversed f)) item_of) in
      let many : length (message_of n (new_carried s)) ≡ count = ap (λ (o : List ℕ). length (message_of n o)) same ∙ sym h.1 in
      let items : items_taken reply.1 (reversed f) ≡ items_taken c.world (reversed f) ++ whole n (new_carried s) = h.2.here ∙ ap (λ (o : List ℕ). items_taken c.world (reversed f) ++ whole n o) (sym same) in
      record {
        lie = from_lie reply.1 (reversed f) new_carried 0 (here.replies ++ s ∷ []) (subst (λ (is : List Item). Lie is new_carried 0 (here.replies ++ s ∷ [])) (sym items) (lie_more (items_taken c.world (reversed f)) new_carried 0 here.replies s same_answers at many));
        of_calls = All-push (IsReply next) here.replies s old_replies (is_next f n ∙ comes.is_call, ap (λ (x : Call). x.reply) call_next ∙ ap (λ (p : Posted). Some p) e);
        all = λ m place' count' is reply_is. elim (reply_of m place' count' is reply_is) [
          | inl it ↦
              (let both : Taken place count ≡ Taken place' count' = sym e ∙ it.1 in
              let p = taken_place place place' count count' both in
              let q = taken_count place place' count count' both in
              subst (λ (i : ℕ). Contains (here.replies ++ s ∷ []) (record { call = i; place = place'; count = count' })) (sym it.0)
              (subst (λ (i : ℕ). Contains (here.replies ++ s ∷ []) (record { call = n; place = i; count = count' })) p
              (subst (λ (i : ℕ). Contains (here.replies ++ s ∷ []) (record { call = n; place = place; count = i })) q (Contains-push here.replies s))))
          | inr old ↦ Contains-append_left here.replies (s ∷ []) (record { call = m; place = place'; count = count' }) old
        ];
      }

  more_spans : (p : Posted) (s : Span) → Contains here.replies s → Contains (spans_with p) s
  more_spans Refused s h = h
  more_spans (Taken place count) s h = Contains-append_left here.replies ((record { call = n; place = place; count = count }) ∷ []) s h

  this_flow : FlowIsKept answer next f b
  this_flow =
      let keys = post_keys c.world facts.limits facts.world (reversed f) flow_back back_ends here.to_there octets in
      record {
        ranges = here.ranges;
        called = here.called;
        is_called = is_next f here.called ∙ here.is_called;
        from_there = keys f.from.0 here.from_there;
        to_there = keys f.to.0 here.to_there;
        two_ends = here.two_ends;
        one_way = here.one_way;
        requests = requests_stay answer c next f b here (go f) (requests_set f 0 c.calls n served refl refl) items_here;
        replies = spans_with reply.0;
        are_replies = replies_with reply.0 refl left;
        requests_begun = begun_stays c.world reply.1 f (requests_on c f) (requests_on next f) b.request (steady f) (λ s h. subst (λ (ss : List Span). Contains ss s) (sym (requests_set f 0 c.calls n served refl refl)) h) here.requests_begun;
        replies_begun = begun_stays c.world reply.1 (reversed f) here.replies (spans_with reply.0) b.reply (steady (reversed f)) (more_spans reply.0) here.replies_begun;
      }

  each : (k : Flow) (x : Begun) → look same_flow k c.flows ≡ Some x → FlowIsKept answer next k x
  each k x found =
      elim (cases_Bool (same_flow f k)) [
        | inl y ↦
            let same : f ≡ k = flow_is f k y in
            let is : Some b ≡ Some x = sym there ∙ subst (λ (i : Flow). look same_flow i c.flows ≡ Some x) (sym same) found in
            let value : b ≡ x = cc in
            subst (λ (i : Flow). FlowIsKept answer next i x) same (subst (λ (y : Begun). FlowIsKept answer next f y) value this_flow)
        | inr o ↦ other_flow k x found o
      ]

  gone_stays : (k : Flow) (place : ℕ) → is_given (rows_gone c.world k) place ≡ true → is_given (rows_gone reply.1 k) place ≡ true
  gone_stays = post_gone c.world facts.limits facts.world (reversed f) flow_back back_ends here.to_there octets

  served_kept : CallIsKept next served
  served_kept =
      let un = comes.unserved in
      let at : call.flow ≡ f = flow_of_call c f n comes.is_call in
      record {
        flow = kept.flow;
        served_is_gone = λ some. subst (λ (g : Flow). is_given (rows_gone reply.1 g) (last_of call.request) ≡ true) (sym at) (gone_stays f (last_of call.request) comes.gone);
        replied = λ some. omega (arith, un);
        declined = kept.declined;
        declined_only = kept.declined_only;
      }

  pub serve_course : CourseFacts answer next
  serve_course =
      let goes = post_goes c.world facts.limits facts.world (reversed f) flow_back back_ends here.to_there octets in
      let un = comes.unserved in
      record {
        limits = subst IsWithinLimits (sym goes.params) facts.limits;
        world = goes.facts;
        distinct = facts.distinct;
        flows = all_found Flow Begun same_flow flow_self flow_is (FlowIsKept answer next) c.flows facts.distinct each;
        others = λ k one two.
            let apart : same_flow (reversed f) k ≡ false = elim (cases_Bool (same_flow (reversed f) k)) [
              | inl y ↦
                  (let same : f ≡ reversed k = ap reversed (flow_is (reversed f) k y) in
                  let yes : has_key same_flow (reversed k) c.flows ≡ true = subst (λ (g : Flow). has_key same_flow g c.flows ≡ true) same (key_found (look same_flow f c.flows) b there) in
                  absurd cc)
              | inr o ↦ o
            ] in
            none_taken c.world reply.1 k (items_other k apart) (facts.others k one two);
        calls = All-set (CallIsKept next) c.calls n served served_kept (All-weaker (CallIsKept c) (CallIsKept next) (λ x h. call_kept c next x (λ key. key) gone_stays h) c.calls facts.calls);
        once = All-set IsServedOnce c.calls n served (record { at_most_once = omega (arith, un); answered_once = λ e. omega (arith, un); never_declined = λ e. absurd (comes.taken (kept.declined_only e)) }) facts.once;
      }

  items_more : (p : Posted) (k : Flow) → PostsAs c.world reply.1 (reversed f) octets p → (more : List Item) × (items_taken reply.1 k ≡ items_taken c.world k ++ more)
  items_more Refused k h = ([], h.items k ∙ sym (append-nil (items_taken c.world k)))
  items_more (Taken place count) k h =
      elim (cases_Bool (same_flow (reversed f) k)) [
        | inl y ↦
            let same : reversed f ≡ k = flow_is (reversed f) k y in
            (whole n (answer payload), subst (λ (g : Flow). items_taken reply.1 g ≡ items_taken c.world g ++ whole n (answer payload)) same h.2.here)
        | inr o ↦ ([], h.2.others k o ∙ sym (append-nil (items_taken c.world k)))
      ]

  each_call : (m : ℕ) → CallGoesOn (call_at c m) (call_at next m)
  each_call m =
      elim (cases_Bool (m == n)) [
        | inl y ↦ subst (λ (i : ℕ). CallGoesOn (call_at c i) (call_at next i)) (sym (nat_is m n y)) (subst (λ (x : Call). CallGoesOn call x) (sym call_next) (record { flow = refl; request = refl; fate = λ h. refl; served = omega arith }))
        | inr o ↦ subst (λ (x : Call). CallGoesOn (call_at c m) x) (sym (call_other m (same_number m n o))) (same_call (call_at c m))
      ]

  pub serve_onward : Onward c next
  serve_onward = record { calls = λ m lt. each_call m; items = λ k. items_more reply.0 k left; keys = λ k h. h; count = let l = length-set c.calls n served in omega (arith, l) }

  -- what rests rests on, and what is unread stays
  pub serve_quiet : StaysQuiet c.world reply.1 × ((g : Flow) → (view reply.1 g).unread ≡ (view c.world g).unread)
  serve_quiet = post_quiet c.world facts.limits facts.world (reversed f) flow_back back_ends here.to_there octets
