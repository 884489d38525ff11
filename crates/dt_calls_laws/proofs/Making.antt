-- A call is made: its request stands after all that its flow took, or was refused.
use Rattle.std.proofs.Common.{ℕ, zero, suc, ◌+◌, ◌<◌, ◌≡◌, ◌≢◌, ◌==◌, Bool, true, false, if◌then◌else◌, List, [], ◌∷◌, ◌++◌, length, map, Option, Some, None, refl, ap, sym, subst, ◌∙◌, inl, inr, arith, append-nil}
use Rattle.std.specs.Prelude.{is_some, nat_lt, not}
use Rattle.std.specs.List.{All, Contains, list_any}
use Rattle.std.proofs.lemmas.Bool.{and_parts, cases_Bool}
use Rattle.std.proofs.lemmas.List.{get_or_at, get_or_append_left, length-map, length_push}
use Rattle.std.proofs.lemmas.List.Elements.{All-head, All-nil, All-push, All-weaker, Contains-append_left}
use Rattle.dt_items.specs.declared.item.Item.{Item}
use Rattle.dt_units.specs.declared.endpoints.Flow.{Flow}
use Rattle.dt_units.specs.Flows.{IsFlow}
use Rattle.dt_units.specs.Limits.{IsWithinLimits}
use Rattle.dt_flow_model.specs.Ledger.{item_of}
use Rattle.dt_world_model.specs.Tables.{AllEntries, Distinct, Lacks, has_key, look, same_flow}
use Rattle.dt_world_model.specs.World.{World}
use Rattle.dt_world_model.specs.WorldStep.{first_refusal, lacks_station}
use Rattle.dt_world_model.proofs.Tables.{all_found, flow_is, flow_self}
use Rattle.dt_calls_model.specs.declared.calls.Call.{Call}
use Rattle.dt_calls_model.specs.declared.calls.CallState.TheVariants as state
use Rattle.dt_calls_model.specs.declared.calls.Posted.{Posted}
use Rattle.dt_calls_model.specs.declared.calls.Posted.TheVariants.{Refused, Taken}
use Rattle.dt_calls_model.specs.CallFacts.{AreBegun, AreReplies, CallIsKept, CourseFacts, FlowIsKept, LieSideBySide, Span, requests_on, span_of, taken_rows}
use Rattle.dt_calls_model.specs.Calls.{Begun, Calls, Server, call_at, call_in, is_call, none_begun, with_flow}
use Rattle.dt_calls_model.specs.CallStep.{call_refusals, is_way_of_replies, state_of}
use Rattle.dt_calls_model.specs.Messages.{message_of, reversed}
use Rattle.dt_calls_model.specs.Promises.{IsServedOnce, payload_of}
use Rattle.dt_calls_model.specs.Reads.{post}
use Rattle.dt_calls_laws.specs.Calm.{Steady, items_taken}
use Rattle.dt_calls_laws.specs.Onward.{CallGoesOn, Onward}
use Rattle.dt_calls_laws.proofs.Onward.{GoOn, GoneStays, SameReplies, begun_stays, call_kept, call_less, flow_calm, flow_found, flow_of_call, none_taken, replies_stay, same_call, same_carried}
use Rattle.dt_calls_laws.proofs.PieceRead.{apart_from, kept_at, key_found, not_own}
use Rattle.dt_calls_laws.proofs.Posting.{PostsAs, post_goes, post_gone, post_keys, post_steady, posts_as}
use Rattle.dt_calls_laws.proofs.Serving.{same_number}
use Rattle.dt_calls_laws.proofs.Spans.{IsRequest, Lie, from_lie, is_call_from, is_less, lie_as, lie_more, payload_in, payload_is, payload_new, requests_are, requests_more, to_lie, whole}
use Rattle.dt_calls_laws.proofs.Joining.{or_true}

-- TESTS of which none refuses
pub passed : {F : Type 0} (b : Bool) (fault : F) (rest : List (Bool × F)) → first_refusal ((b, fault) ∷ rest) ≡ None → (b ≡ false) × (first_refusal rest ≡ None)
passed b fault rest e = elim (cases_Bool b) [ inl y ↦ let some : Some fault ≡ None = rw y at e in absurd cc | inr o ↦ (o, rw o at e) ]

pub not_false : (b : Bool) → not b ≡ false → b ≡ true
not_false true e = refl
not_false false e = absurd cc

-- AN ENTRY MORE
key_behind : (f k : Flow) (b : Begun) (flows : List (Flow × Begun)) → same_flow f k ≡ false → has_key same_flow k (flows ++ (f, b) ∷ []) ≡ has_key same_flow k flows
key_behind f k b [] e = rw e refl
key_behind f k b (x ∷ flows) e = elim (cases_Bool (same_flow x.0 k)) [ inl y ↦ rw y refl | inr o ↦ rw o (key_behind f k b flows e) ]

key_last : (f : Flow) (b : Begun) (flows : List (Flow × Begun)) → has_key same_flow f (flows ++ (f, b) ∷ []) ≡ true
key_last f b [] = rw (flow_self f) refl
key_last f b (x ∷ flows) = elim (cases_Bool (same_flow x.0 f)) [ inl y ↦ rw y refl | inr o ↦ rw o (key_last f b flows) ]

key_before : (f k : Flow) (b : Begun) (flows : List (Flow × Begun)) → has_key same_flow k flows ≡ true → has_key same_flow k (flows ++ (f, b) ∷ []) ≡ true
key_before f k b [] h = absurd cc
key_before f k b (x ∷ flows) h = elim (cases_Bool (same_flow x.0 k)) [ inl y ↦ rw y refl | inr o ↦ rw o (key_before f k b flows (rw o at h)) ]

apart_back : (f k : Flow) → same_flow f k ≡ false → same_flow k f ≡ false
apart_back f k h = elim (cases_Bool (same_flow k f)) [ inl y ↦ (let e : k ≡ f = flow_is k f y in let yes : same_flow f k ≡ true = subst (λ (g : Flow). same_flow f g ≡ true) (sym e) (flow_self f) in absurd cc) | inr o ↦ o ]

lacks_more : (f k : Flow) (b : Begun) (flows : List (Flow × Begun)) → same_flow f k ≡ false → Lacks same_flow k flows → Lacks same_flow k (flows ++ (f, b) ∷ [])
lacks_more f k b [] e h = (e, tt)
lacks_more f k b (x ∷ flows) e h = (h.0, lacks_more f k b flows e h.1)

distinct_more : (f : Flow) (b : Begun) (flows : List (Flow × Begun)) → has_key same_flow f flows ≡ false → Distinct same_flow flows → Distinct same_flow (flows ++ (f, b) ∷ [])
distinct_more f b [] none h = (tt, tt)
distinct_more f b (x ∷ flows) none h =
    elim (cases_Bool (same_flow x.0 f)) [
      | inl y ↦ (let no : true ≡ false = rw y at none in absurd cc)
      | inr o ↦ (lacks_more f x.0 b flows (apart_back x.0 f o) h.0, distinct_more f b flows (rw o at none) h.1)
    ]

entries_more : (P : Flow → Begun → Type 0) (f : Flow) (b : Begun) (flows : List (Flow × Begun)) → AllEntries P flows → P f b → AllEntries P (flows ++ (f, b) ∷ [])
entries_more P f b [] h p = (p, tt)
entries_more P f b (x ∷ flows) h p = (h.0, entries_more P f b flows h.1 p)

-- a flow with a call has some call
any_call : (calls : List Call) (f : Flow) (n : ℕ) → n < length calls → same_flow (call_in calls n).flow f ≡ true → list_any (λ (call : Call). same_flow call.flow f) calls ≡ true
any_call [] f n lt e = absurd (omega arith)
any_call (c ∷ calls) f zero lt e = rw e refl
any_call (c ∷ calls) f (suc n) lt e = or_true (same_flow c.flow f) _ (any_call calls f n (omega arith) e)

opposite : (a b : Bool) → a ≡ true → a ≡ false → ⊥
opposite a b e k = let no : true ≡ false = sym e ∙ k in absurd cc

module _ (answer : List ℕ → List ℕ) (c : Calls) (f : Flow) (payload : List ℕ) (facts : CourseFacts answer c) (flow : IsFlow f) (clear : first_refusal (call_refusals c f) ≡ None) where
  abbrev n : ℕ
  n = length c.calls

  abbrev octets : List ℕ
  octets = message_of n payload

  abbrev request : Posted × World
  request = post f octets c.world

  abbrev pub new_call : Call
  new_call = record { flow = f; state = state_of request.0; served = 0; request = request.0; reply = None }

  abbrev pub made : Calls
  made = record { world = request.1; calls = c.calls ++ new_call ∷ []; flows = with_flow f c.flows }

  -- WHAT THE TESTS SAY
  test_own : (f.from.0 == f.to.0) ≡ false
  test_own = (passed (f.from.0 == f.to.0) _ (is_way_of_replies c f ∷ lacks_station c.world f.from.0 ∷ lacks_station c.world f.to.0 ∷ []) clear).0

  rest_one : first_refusal (is_way_of_replies c f ∷ lacks_station c.world f.from.0 ∷ lacks_station c.world f.to.0 ∷ []) ≡ None
  rest_one = (passed (f.from.0 == f.to.0) _ (is_way_of_replies c f ∷ lacks_station c.world f.from.0 ∷ lacks_station c.world f.to.0 ∷ []) clear).1

  test_way : list_any (λ (call : Call). same_flow call.flow (reversed f)) c.calls ≡ false
  test_way = (passed _ _ (lacks_station c.world f.from.0 ∷ lacks_station c.world f.to.0 ∷ []) rest_one).0

  rest_two : first_refusal (lacks_station c.world f.from.0 ∷ lacks_station c.world f.to.0 ∷ []) ≡ None
  rest_two = (passed _ _ (lacks_station c.world f.from.0 ∷ lacks_station c.world f.to.0 ∷ []) rest_one).1

  from_there : has_key ◌==◌ f.from.0 c.world.stations ≡ true
  from_there = not_false _ (passed _ _ (lacks_station c.world f.to.0 ∷ []) rest_two).0

  to_there : has_key ◌==◌ f.to.0 c.world.stations ≡ true
  to_there = not_false _ (passed _ _ [] (passed _ _ (lacks_station c.world f.to.0 ∷ []) rest_two).1).0

  two_ends : f.from.0 ≢ f.to.0
  two_ends = same_number f.from.0 f.to.0 test_own

  no_way : has_key same_flow (reversed f) c.flows ≡ false
  no_way = by_look (look same_flow (reversed f) c.flows) refl
    where
      by_look : (o : Option Begun) → look same_flow (reversed f) c.flows ≡ o → is_some o ≡ false
      by_look None e = refl
      by_look (Some b) e =
          let h = flow_found answer c (reversed f) b facts e in
          let parts = and_parts (nat_lt h.called (length c.calls)) (same_flow (call_at c h.called).flow (reversed f)) h.is_called in
          let any = any_call c.calls (reversed f) h.called (is_less h.called (length c.calls) parts.0) parts.1 in
          absurd (opposite _ true any test_way)

  -- THE WORLD
  abbrev left : PostsAs c.world request.1 f octets request.0
  left = posts_as c.world facts.limits facts.world f flow two_ends from_there octets

  steady : (k : Flow) → Steady c.world request.1 k
  steady k = post_steady c.world facts.limits facts.world f flow two_ends from_there octets k

  others_by : (p : Posted) (k : Flow) → PostsAs c.world request.1 f octets p → same_flow f k ≡ false → items_taken request.1 k ≡ items_taken c.world k
  others_by Refused k h apart = h.items k
  others_by (Taken place count) k h apart = h.2.others k apart

  items_other : (k : Flow) → same_flow f k ≡ false → items_taken request.1 k ≡ items_taken c.world k
  items_other k apart = others_by request.0 k left apart

  more_by : (p : Posted) → PostsAs c.world request.1 f octets p → (more : List Item) × (items_taken request.1 f ≡ items_taken c.world f ++ more)
  more_by Refused h = ([], h.items f ∙ sym (append-nil (items_taken c.world f)))
  more_by (Taken place count) h = (whole n payload, h.2.here)

  -- THE CALLS
  call_old : (m : ℕ) → m < n → call_at made m ≡ call_at c m
  call_old m lt = get_or_append_left c.calls (new_call ∷ []) _ m lt

  call_new : call_at made n ≡ new_call
  call_new = get_or_at c.calls new_call [] _ n refl

  is_new : is_call made f n ≡ true
  is_new = is_call_from made.calls f n (let l = length_push c.calls new_call in omega (arith, l)) (ap (λ (x : Call). same_flow x.flow f) call_new ∙ flow_self f)

  is_old : (k : Flow) (m : ℕ) → is_call c k m ≡ true → is_call made k m ≡ true
  is_old k m h =
      let lt = call_less c k m h in
      let at : same_flow (call_at c m).flow k ≡ true = (and_parts (nat_lt m (length c.calls)) (same_flow (call_at c m).flow k) h).1 in
      is_call_from made.calls k m (let l = length_push c.calls new_call in omega (arith, l, lt)) (ap (λ (x : Call). same_flow x.flow k) (call_old m lt) ∙ at)

  was_call : (k : Flow) (m : ℕ) → is_call made k m ≡ true → m ≢ n → is_call c k m ≡ true
  was_call k m h other =
      let parts = and_parts (nat_lt m (length made.calls)) (same_flow (call_at made m).flow k) h in
      let less = is_less m (length made.calls) parts.0 in
      let l = length_push c.calls new_call in
      let lt : m < n = smaller m n (omega (arith, less, l)) other in
      is_call_from c.calls k m lt (ap (λ (x : Call). same_flow x.flow k) (sym (call_old m lt)) ∙ parts.1)
    where
      smaller : (a b : ℕ) → a < b + 1 → a ≢ b → a < b
      smaller zero zero h o = absurd (o refl)
      smaller zero (suc b) h o = omega arith
      smaller (suc a) zero h o = absurd (omega arith)
      smaller (suc a) (suc b) h o = let k = smaller a b (omega arith) (λ e. o (ap suc e)) in omega (arith, k)

  go : (k : Flow) → GoOn c made k
  go k = record { calls = is_old k; requests = λ m h. ap (λ (x : Call). x.request) (call_old m (call_less c k m h)) }

  same_replies : (k : Flow) → SameReplies c made k
  same_replies k = record {
    replies = λ m h. ap (λ (x : Call). x.reply) (call_old m (call_less c k m h));
    none_new = λ m place count is reply. was_call k m is (λ e. let none : (call_at made m).reply ≡ None = ap (λ (i : ℕ). (call_at made i).reply) e ∙ ap (λ (x : Call). x.reply) call_new in absurd cc);
  }

  spans_are : (k : Flow) → requests_on made k ≡ requests_on c k ++ (if same_flow f k then span_of n request.0 else [])
  spans_are k = requests_more k 0 c.calls new_call ∙ (let e : 0 + length c.calls ≡ n = omega arith in ap (λ (m : ℕ). requests_on c k ++ (if same_flow f k then span_of m request.0 else [])) e)

  spans_other : (k : Flow) → same_flow f k ≡ false → requests_on made k ≡ requests_on c k
  spans_other k e = spans_are k ∙ ap (λ (b : Bool). requests_on c k ++ (if b then span_of n request.0 else [])) e ∙ append-nil (requests_on c k)

  spans_here : requests_on made f ≡ requests_on c f ++ span_of n request.0
  spans_here = spans_are f ∙ ap (λ (b : Bool). requests_on c f ++ (if b then span_of n request.0 else [])) (flow_self f)

  -- THE ENTRIES
  key_more_by : (b : Bool) (k : Flow) → has_key same_flow f c.flows ≡ b → has_key same_flow k c.flows ≡ true → has_key same_flow k (if b then c.flows else c.flows ++ (f, none_begun) ∷ []) ≡ true
  key_more_by true k e h = h
  key_more_by false k e h = key_before f k none_begun c.flows h

  key_more : (k : Flow) → has_key same_flow k c.flows ≡ true → has_key same_flow k made.flows ≡ true
  key_more k h = key_more_by (has_key same_flow f c.flows) k refl h

  key_here_by : (b : Bool) → has_key same_flow f c.flows ≡ b → has_key same_flow f (if b then c.flows else c.flows ++ (f, none_begun) ∷ []) ≡ true
  key_here_by true e = e
  key_here_by false e = key_last f none_begun c.flows

  key_other_by : (b : Bool) (k : Flow) → same_flow f k ≡ false → has_key same_flow k (if b then c.flows else c.flows ++ (f, none_begun) ∷ []) ≡ has_key same_flow k c.flows
  key_other_by true k e = refl
  key_other_by false k e = key_behind f k none_begun c.flows e

  key_other : (k : Flow) → same_flow f k ≡ false → has_key same_flow k made.flows ≡ has_key same_flow k c.flows
  key_other k e = key_other_by (has_key same_flow f c.flows) k e

  -- OTHER FLOWS
  other_flow : (k : Flow) (x : Begun) → look same_flow k c.flows ≡ Some x → same_flow f k ≡ false → FlowIsKept answer made k x
  other_flow k x found other =
      let h = flow_found answer c k x facts found in
      let apart = apart_from c.flows f k no_way (key_found (look same_flow k c.flows) x found) other Server in
      flow_calm answer c made k x h (post_keys c.world facts.limits facts.world f flow two_ends from_there octets) (key_other (reversed k) apart.1 ∙ h.one_way)
      (record { go = go k; spans = spans_other k other; replies = same_replies k; items = items_other k apart.0; items_back = items_other (reversed k) apart.1 })
      (steady k) (steady (reversed k))

  -- THE REQUESTS of the flow
  abbrev new_carried : Span → List ℕ
  new_carried s = payload_of made.world (call_at made s.call)

  payload_here : (place count : ℕ) → place ≡ length (taken_rows c.world f) → count ≡ length octets → request.0 ≡ Taken place count → items_taken request.1 f ≡ items_taken c.world f ++ whole n payload → payload_of made.world (call_at made n) ≡ payload
  payload_here place count at many e items =
      payload_is made.world (call_at made n)
      ∙ ap (λ (x : Call). payload_in (items_taken request.1 x.flow) x.request) call_new
      ∙ ap (λ (p : Posted). payload_in (items_taken request.1 f) p) e
      ∙ ap (λ (i : ℕ). payload_in (items_taken request.1 f) (Taken i count)) (at ∙ sym (length-map (taken_rows c.world f) item_of))
      ∙ ap (λ (i : ℕ). payload_in (items_taken request.1 f) (Taken (length (items_taken c.world f)) i)) many
      ∙ ap (λ (is : List Item). payload_in is (Taken (length (items_taken c.world f)) (length octets))) items
      ∙ payload_new (items_taken c.world f) n payload

  requests_with : (p : Posted) → request.0 ≡ p → PostsAs c.world request.1 f octets p → Lie (items_taken c.world f) new_carried 0 (requests_on c f) → LieSideBySide request.1 f new_carried 0 (requests_on c f ++ span_of n p)
  requests_with Refused e h lie =
      subst (λ (ss : List Span). LieSideBySide request.1 f new_carried 0 ss) (sym (append-nil (requests_on c f)))
      (from_lie request.1 f new_carried 0 (requests_on c f) (subst (λ (is : List Item). Lie is new_carried 0 (requests_on c f)) (sym (h.items f)) lie))
  requests_with (Taken place count) e h lie =
      let s : Span = record { call = n; place = place; count = count } in
      let same : new_carried s ≡ payload = payload_here place count h.0 h.1 e h.2.here in
      let items : items_taken request.1 f ≡ items_taken c.world f ++ whole n (new_carried s) = h.2.here ∙ ap (λ (o : List ℕ). items_taken c.world f ++ whole n o) (sym same) in
      from_lie request.1 f new_carried 0 (requests_on c f ++ s ∷ [])
      (subst (λ (is : List Item). Lie is new_carried 0 (requests_on c f ++ s ∷ [])) (sym items)
      (lie_more (items_taken c.world f) new_carried 0 (requests_on c f) s lie (h.0 ∙ sym (length-map (taken_rows c.world f) item_of)) (ap (λ (o : List ℕ). length (message_of n o)) same ∙ sym h.1)))

  requests_made : Lie (items_taken c.world f) new_carried 0 (requests_on c f) → LieSideBySide request.1 f new_carried 0 (requests_on made f)
  requests_made lie = subst (λ (ss : List Span). LieSideBySide request.1 f new_carried 0 ss) (sym spans_here) (requests_with request.0 refl left lie)

  old_there : (s : Span) → Contains (requests_on c f) s → Contains (requests_on made f) s
  old_there s h = subst (λ (ss : List Span). Contains ss s) (sym spans_here) (Contains-append_left (requests_on c f) (span_of n request.0) s h)

  back_other : same_flow f (reversed f) ≡ false
  back_other = not_own f two_ends

  keys : (m : ℕ) → has_key ◌==◌ m c.world.stations ≡ true → has_key ◌==◌ m request.1.stations ≡ true
  keys = post_keys c.world facts.limits facts.world f flow two_ends from_there octets

  -- what is kept of the flow, by its spans
  flow_kept : (b : Begun) (replies : List Span) → Lie (items_taken c.world f) new_carried 0 (requests_on c f) → AreReplies answer made f replies → AreBegun made.world f (requests_on made f) b.request → AreBegun made.world (reversed f) replies b.reply → FlowIsKept answer made f b
  flow_kept b replies lie are requests_begun replies_begun = record {
    ranges = flow;
    called = n;
    is_called = is_new;
    from_there = keys f.from.0 from_there;
    to_there = keys f.to.0 to_there;
    two_ends = two_ends;
    one_way = key_other (reversed f) back_other ∙ no_way;
    requests = requests_made lie;
    replies = replies;
    are_replies = are;
    requests_begun = requests_begun;
    replies_begun = replies_begun;
  }

  -- THE FLOW, where it had calls
  this_flow : (b : Begun) → look same_flow f c.flows ≡ Some b → FlowIsKept answer made f b
  this_flow b found =
      let h = flow_found answer c f b facts found in
      let more = more_by request.0 left in
      let carried = λ (s : Span). payload_of c.world (call_at c s.call) in
      flow_kept b h.replies
      (lie_as (items_taken c.world f) carried new_carried 0 (requests_on c f) (same_carried answer c made f b h (go f) more.0 more.1) (to_lie c.world f carried 0 (requests_on c f) h.requests))
      (replies_stay answer c made f b h (go f) more.0 more.1 (same_replies f) (items_other (reversed f) back_other))
      (begun_stays c.world request.1 f (requests_on c f) (requests_on made f) b.request (steady f) old_there h.requests_begun)
      (begun_stays c.world request.1 (reversed f) h.replies h.replies b.reply (steady (reversed f)) (λ s k. k) h.replies_begun)

  -- and where this is its first
  no_call_by : has_key same_flow f c.flows ≡ false → (m : ℕ) → is_call c f m ≡ true → ⊥
  no_call_by none m is =
      let key = (kept_at answer c f m facts is).flow in
      let here : has_key same_flow f c.flows ≡ true = subst (λ (g : Flow). has_key same_flow g c.flows ≡ true) (flow_of_call c f m is) key in
      opposite _ true here none

  no_spans : (spans : List Span) → All (IsRequest c.calls f) spans → ((m : ℕ) → is_call c f m ≡ true → ⊥) → spans ≡ []
  no_spans [] h never = refl
  no_spans (s ∷ spans) h never = absurd (never s.call (All-head (IsRequest c.calls f) s spans h).call)

  first_flow : has_key same_flow f c.flows ≡ false → FlowIsKept answer made f none_begun
  first_flow none =
      let never = no_call_by none in
      let spans : requests_on c f ≡ [] = no_spans (requests_on c f) (requests_are c.calls f) never in
      let rows : taken_rows c.world f ≡ [] = facts.others f none no_way in
      let items : items_taken c.world f ≡ [] = ap (map item_of) rows in
      let back : taken_rows request.1 (reversed f) ≡ [] = none_taken c.world request.1 (reversed f) (items_other (reversed f) back_other) (facts.others (reversed f) no_way none) in
      let lie : Lie (items_taken c.world f) new_carried 0 (requests_on c f) = subst (λ (ss : List Span). Lie (items_taken c.world f) new_carried 0 ss) (sym spans) (ap (λ (is : List Item). length is) items) in
      flow_kept none_begun [] lie
      record {
        lie = ap (λ rs. length rs) back;
        of_calls = All-nil (λ s. (is_call made f s.call ≡ true) × ((call_at made s.call).reply ≡ Some (Taken s.place s.count)));
        all = λ m place count is reply. absurd (never m ((same_replies f).none_new m place count is reply));
      }
      tt tt

  -- ALL FLOWS
  each : (k : Flow) (x : Begun) → look same_flow k c.flows ≡ Some x → FlowIsKept answer made k x
  each k x found =
      elim (cases_Bool (same_flow f k)) [
        | inl y ↦
            let same : f ≡ k = flow_is f k y in
            subst (λ (i : Flow). FlowIsKept answer made i x) same (this_flow x (subst (λ (i : Flow). look same_flow i c.flows ≡ Some x) (sym same) found))
        | inr o ↦ other_flow k x found o
      ]

  all_old : AllEntries (FlowIsKept answer made) c.flows
  all_old = all_found Flow Begun same_flow flow_self flow_is (FlowIsKept answer made) c.flows facts.distinct each

  flows_by : (b : Bool) → has_key same_flow f c.flows ≡ b → let flows = if b then c.flows else c.flows ++ (f, none_begun) ∷ [] in AllEntries (FlowIsKept answer made) flows × Distinct same_flow flows
  flows_by true e = (all_old, facts.distinct)
  flows_by false e = (entries_more (FlowIsKept answer made) f none_begun c.flows all_old (first_flow e), distinct_more f none_begun c.flows e facts.distinct)

  -- THE CALL
  declined_by : (p : Posted) → p ≡ Refused → state_of p ≡ state.Declined
  declined_by Refused e = refl
  declined_by (Taken place count) e = absurd cc

  refused_by : (p : Posted) → state_of p ≡ state.Declined → p ≡ Refused
  refused_by Refused e = refl
  refused_by (Taken place count) e = absurd cc

  not_answered : (p : Posted) → state_of p ≡ state.Answered → ⊥
  not_answered Refused e = absurd cc
  not_answered (Taken place count) e = absurd cc

  gone_stays : GoneStays c.world request.1
  gone_stays = post_gone c.world facts.limits facts.world f flow two_ends from_there octets

  new_kept : CallIsKept made new_call
  new_kept = record {
    flow = key_here_by (has_key same_flow f c.flows) refl;
    served_is_gone = λ some. absurd (omega arith);
    replied = λ some. absurd (some refl);
    declined = declined_by request.0;
    declined_only = refused_by request.0;
  }

  pub make_course : CourseFacts answer made
  make_course =
      let goes = post_goes c.world facts.limits facts.world f flow two_ends from_there octets in
      let flows = flows_by (has_key same_flow f c.flows) refl in
      record {
        limits = subst IsWithinLimits (sym goes.params) facts.limits;
        world = goes.facts;
        distinct = flows.1;
        flows = flows.0;
        others = λ k one two.
            let apart : same_flow f k ≡ false = elim (cases_Bool (same_flow f k)) [
              | inl y ↦ (let yes : has_key same_flow k made.flows ≡ true = subst (λ (g : Flow). has_key same_flow g made.flows ≡ true) (flow_is f k y) (key_here_by (has_key same_flow f c.flows) refl) in absurd cc)
              | inr o ↦ o
            ] in
            let apart_reversed : same_flow f (reversed k) ≡ false = elim (cases_Bool (same_flow f (reversed k))) [
              | inl y ↦ (let yes : has_key same_flow (reversed k) made.flows ≡ true = subst (λ (g : Flow). has_key same_flow g made.flows ≡ true) (flow_is f (reversed k) y) (key_here_by (has_key same_flow f c.flows) refl) in absurd cc)
              | inr o ↦ o
            ] in
            none_taken c.world request.1 k (items_other k apart) (facts.others k (sym (key_other k apart) ∙ one) (sym (key_other (reversed k) apart_reversed) ∙ two));
        calls = All-push (CallIsKept made) c.calls new_call (All-weaker (CallIsKept c) (CallIsKept made) (λ x h. call_kept c made x (key_more x.flow) gone_stays h) c.calls facts.calls) new_kept;
        once = All-push IsServedOnce c.calls new_call facts.once (record { at_most_once = omega arith; answered_once = λ e. absurd (not_answered request.0 e); never_declined = λ e. refl });
      }

  items_more : (p : Posted) (k : Flow) → PostsAs c.world request.1 f octets p → (more : List Item) × (items_taken request.1 k ≡ items_taken c.world k ++ more)
  items_more Refused k h = ([], h.items k ∙ sym (append-nil (items_taken c.world k)))
  items_more (Taken place count) k h =
      elim (cases_Bool (same_flow f k)) [
        | inl y ↦ (whole n payload, subst (λ (g : Flow). items_taken request.1 g ≡ items_taken c.world g ++ whole n payload) (flow_is f k y) h.2.here)
        | inr o ↦ ([], h.2.others k o ∙ sym (append-nil (items_taken c.world k)))
      ]

  pub make_onward : Onward c made
  make_onward = record { calls = λ m lt. subst (λ (x : Call). CallGoesOn (call_at c m) x) (sym (call_old m lt)) (same_call (call_at c m)); items = λ k. items_more request.0 k left; keys = key_more; count = let l = length_push c.calls new_call in omega (arith, l) }

  pub only_one : length made.calls ≡ length c.calls + 1
  only_one = length_push c.calls new_call

  -- the payload of the call is what was handed in
  payload_by_posted : (p : Posted) → request.0 ≡ p → PostsAs c.world request.1 f octets p → p ≢ Refused → payload_of made.world (call_at made n) ≡ payload
  payload_by_posted Refused e h some = absurd (some refl)
  payload_by_posted (Taken place count) e h some = payload_here place count h.0 h.1 e h.2.here

  pub made_payload : (call_at made n).request ≢ Refused → payload_of made.world (call_at made n) ≡ payload
  made_payload some = payload_by_posted request.0 refl left (λ e. some (ap (λ (x : Call). x.request) call_new ∙ e))
