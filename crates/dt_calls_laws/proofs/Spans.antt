-- Messages side by side, as the items that a flow took; and the requests of calls among them.
use Rattle.std.proofs.Common.{ℕ, zero, suc, ◌+◌, ◌-◌, ◌<◌, ◌≤◌, ◌≡◌, Bool, true, false, if◌then◌else◌, List, [], ◌∷◌, ◌++◌, length, map, take, drop, get_or, refl, ap, sym, subst, ◌∙◌, inl, inr, arith, append_assoc, append-nil, length-append, length-drop}
use Rattle.std.specs.List.{All, Contains}
use Rattle.std.proofs.lemmas.Bool.{and_parts}
use Rattle.std.proofs.lemmas.Bool.Decides.{nat_tests}
use Rattle.std.proofs.lemmas.List.{drop-append-le, drop-map, drop_at, get_or-drop, get_or-take, length-map, take-append-le, take-map, take_all}
use Rattle.std.proofs.lemmas.List.Elements.{All-append, All-cons, All-head, All-nil, All-tail, All-weaker, Contains-append_left, Contains-append_right, Contains-push}
use Rattle.std.specs.Prelude.{nat_lt}
use Rattle.dt_items.specs.declared.item.Item.{Item}
use Rattle.dt_items.specs.Unread.{marked}
use Rattle.dt_units.specs.declared.endpoints.Flow.{Flow}
use Rattle.dt_flow_model.specs.declared.rows.Taken as rows
use Rattle.dt_flow_model.specs.Ledger.{item_of, no_item}
use Rattle.dt_world_model.specs.Tables.{same_flow}
use Rattle.dt_world_model.specs.World.{World}
use Rattle.dt_calls_model.specs.declared.calls.Call.{Call}
use Rattle.dt_calls_model.specs.declared.calls.Posted.{Posted}
use Rattle.dt_calls_model.specs.declared.calls.Posted.TheVariants.{Refused, Taken}
use Rattle.dt_calls_model.specs.CallFacts.{LieSideBySide, Span, requests_from, span_of, taken_rows}
use Rattle.dt_calls_model.specs.Calls.{call_in, is_call_in}
use Rattle.dt_calls_model.specs.Messages.{carried_in, message_of}
use Rattle.dt_calls_model.specs.Promises.{octets_posted, payload_of}
use Rattle.dt_calls_laws.specs.Calm.{items_taken}
use Rattle.dt_calls_laws.proofs.OneMessage.{length_marked, side}

-- THE ITEMS of a message
abbrev pub whole : ℕ → List ℕ → List Item
whole call carried = marked (message_of call carried) true true false

pub octet_at : (m : List ℕ) (begin end : Bool) (k : ℕ) → k < length m → (get_or (marked m begin end false) k no_item).octet ≡ get_or m k 0
octet_at [] begin end k lt = absurd (omega arith)
octet_at (x ∷ []) begin end zero lt = refl
octet_at (x ∷ []) begin end (suc k) lt = absurd (omega arith)
octet_at (x ∷ y ∷ m) begin end zero lt = refl
octet_at (x ∷ y ∷ m) begin end (suc k) lt = octet_at (y ∷ m) false end k (omega arith)

plain_begins : (m : List ℕ) (end : Bool) (k : ℕ) → k < length m → (get_or (marked m false end false) k no_item).begin ≡ false
plain_begins [] end k lt = absurd (omega arith)
plain_begins (x ∷ []) end zero lt = refl
plain_begins (x ∷ []) end (suc k) lt = absurd (omega arith)
plain_begins (x ∷ y ∷ m) end zero lt = refl
plain_begins (x ∷ y ∷ m) end (suc k) lt = plain_begins (y ∷ m) end k (omega arith)

begins_first : (m : List ℕ) (begin end : Bool) (k : ℕ) → suc k < length m → (get_or (marked m begin end false) (suc k) no_item).begin ≡ false
begins_first [] begin end k lt = absurd (omega arith)
begins_first (x ∷ []) begin end k lt = absurd (omega arith)
begins_first (x ∷ y ∷ m) begin end k lt = plain_begins (y ∷ m) end k (omega arith)

pub ends_before : (m : List ℕ) (begin end : Bool) (k : ℕ) → suc k < length m → (get_or (marked m begin end false) k no_item).end ≡ false
ends_before [] begin end k lt = absurd (omega arith)
ends_before (x ∷ []) begin end k lt = absurd (omega arith)
ends_before (x ∷ y ∷ m) begin end zero lt = refl
ends_before (x ∷ y ∷ m) begin end (suc k) lt = ends_before (y ∷ m) false end k (omega arith)

pub ends_last : (m : List ℕ) (begin end : Bool) (k : ℕ) → suc k ≡ length m → (get_or (marked m begin end false) k no_item).end ≡ end
ends_last [] begin end k e = absurd (omega arith)
ends_last (x ∷ []) begin end zero e = refl
ends_last (x ∷ []) begin end (suc k) e = absurd (omega arith)
ends_last (x ∷ y ∷ m) begin end zero e = absurd (omega arith)
ends_last (x ∷ y ∷ m) begin end (suc k) e = ends_last (y ∷ m) false end k (omega arith)

octets_marked : (m : List ℕ) (begin end : Bool) → map (λ (i : Item). i.octet) (marked m begin end false) ≡ m
octets_marked [] begin end = refl
octets_marked (x ∷ []) begin end = refl
octets_marked (x ∷ y ∷ m) begin end = ap (λ (l : List ℕ). x ∷ l) (octets_marked (y ∷ m) false end)

-- MESSAGES OF SPANS, on items
pub record IsIn (items : List Item) (carried : List ℕ) (s : Span) : Type 0 where
  pub count : length (message_of s.call carried) ≡ s.count
  pub octets : take s.count (drop s.place items) ≡ whole s.call carried

abbrev pub Lie : List Item → (Span → List ℕ) → ℕ → List Span → Type 0
Lie items carried place [] = length items ≡ place
Lie items carried place (s ∷ spans) = (s.place ≡ place) × IsIn items (carried s) s × Lie items carried (place + s.count) spans

cut_items : (w : World) (f : Flow) (count place : ℕ) → map item_of (take count (drop place (taken_rows w f))) ≡ take count (drop place (items_taken w f))
cut_items w f count place = sym (ap (take count) (drop-map item_of place (taken_rows w f)) ∙ take-map item_of count (drop place (taken_rows w f)))

pub to_lie : (w : World) (f : Flow) (carried : Span → List ℕ) (place : ℕ) (spans : List Span) → LieSideBySide w f carried place spans → Lie (items_taken w f) carried place spans
to_lie w f carried place [] h = length-map (taken_rows w f) item_of ∙ h
to_lie w f carried place (s ∷ spans) h = (h.0, record { count = h.1.count; octets = sym (cut_items w f s.count s.place) ∙ h.1.items }, to_lie w f carried (place + s.count) spans h.2)

pub from_lie : (w : World) (f : Flow) (carried : Span → List ℕ) (place : ℕ) (spans : List Span) → Lie (items_taken w f) carried place spans → LieSideBySide w f carried place spans
from_lie w f carried place [] h = sym (length-map (taken_rows w f) item_of) ∙ h
from_lie w f carried place (s ∷ spans) h = (h.0, record { count = h.1.count; items = cut_items w f s.count s.place ∙ h.1.octets }, from_lie w f carried (place + s.count) spans h.2)

-- they end within what was taken
abbrev pub EndsWithin : List Item → Span → Type 0
EndsWithin items s = s.place + s.count ≤ length items

pub lie_within : (items : List Item) (carried : Span → List ℕ) (place : ℕ) (spans : List Span) → Lie items carried place spans → (place ≤ length items) × All (EndsWithin items) spans
lie_within items carried place [] h = (omega (arith, h), All-nil (EndsWithin items))
lie_within items carried place (s ∷ spans) h =
    let rest = lie_within items carried (place + s.count) spans h.2 in
    (omega (arith, rest.0), All-cons (EndsWithin items) s spans (omega (arith, rest.0, h.0)) rest.1)

pub lie_as : (items : List Item) (carried carried' : Span → List ℕ) (place : ℕ) (spans : List Span) → All (λ s. carried' s ≡ carried s) spans → Lie items carried place spans → Lie items carried' place spans
lie_as items carried carried' place [] same h = h
lie_as items carried carried' place (s ∷ spans) same h =
    let P : Span → Type 0 = λ t. carried' t ≡ carried t in
    (h.0, subst (λ (o : List ℕ). IsIn items o s) (sym (All-head P s spans same)) h.1, lie_as items carried carried' (place + s.count) spans (All-tail P s spans same) h.2)

pub lie_at : (items : List Item) (carried : Span → List ℕ) (place : ℕ) (spans : List Span) → Lie items carried place spans → All (λ s. IsIn items (carried s) s) spans
lie_at items carried place [] h = All-nil (λ s. IsIn items (carried s) s)
lie_at items carried place (s ∷ spans) h = All-cons (λ t. IsIn items (carried t) t) s spans h.1 (lie_at items carried (place + s.count) spans h.2)

-- one message more
in_more : (items more : List Item) (carried : List ℕ) (s : Span) → s.place + s.count ≤ length items → IsIn items carried s → IsIn (items ++ more) carried s
in_more items more carried s fits h = record {
  count = h.count;
  octets =
      ap (take s.count) (drop-append-le s.place items more (omega (arith, fits)))
      ∙ take-append-le s.count (drop s.place items) more (omega (arith, fits, length-drop s.place items))
      ∙ h.octets;
}

pub lie_more : (items : List Item) (carried : Span → List ℕ) (place : ℕ) (spans : List Span) (s : Span) → Lie items carried place spans → s.place ≡ length items → length (message_of s.call (carried s)) ≡ s.count
    → Lie (items ++ whole s.call (carried s)) carried place (spans ++ s ∷ [])
lie_more items carried place [] s h at count =
    let more = whole s.call (carried s) in
    let len : length more ≡ s.count = length_marked (message_of s.call (carried s)) true true ∙ count in (
      at ∙ h,
      record { count = count; octets = ap (take s.count) (drop_at items more s.place (sym at)) ∙ take_all s.count more (omega (arith, len)) },
      omega (arith, length-append items more, len, h),
    )
lie_more items carried place (t ∷ spans) s h at count =
    let rest = lie_within items carried (place + t.count) spans h.2 in
    (h.0, in_more items (whole s.call (carried s)) (carried t) t (omega (arith, rest.0, h.0)) h.1, lie_more items carried (place + t.count) spans s h.2 at count)

-- AN ITEM of a message
pub item_in : (items : List Item) (carried : List ℕ) (s : Span) (k : ℕ) → IsIn items carried s → k < s.count → get_or items (s.place + k) no_item ≡ get_or (whole s.call carried) k no_item
item_in items carried s k h lt =
    sym (get_or-take s.count (drop s.place items) k no_item lt ∙ get_or-drop s.place items k no_item) ∙ ap (λ (is : List Item). get_or is k no_item) h.octets

head_there : (s : Span) (spans : List Span) → Contains (s ∷ spans) s
head_there s spans = Contains-append_left (s ∷ []) spans s (Contains-push [] s)

tail_there : (s t : Span) (spans : List Span) → Contains spans t → Contains (s ∷ spans) t
tail_there s t spans h = Contains-append_right (s ∷ []) spans t h

-- where a begin mark stands a message begins
abbrev pub StartsAt : List Span → ℕ → Type 0
StartsAt spans a = (s : Span) × Contains spans s × (s.place ≡ a)

first_is : (items : List Item) (carried : List ℕ) (s : Span) (q a : ℕ) → IsIn items carried s → s.place + q ≡ a → q < s.count → (get_or items a no_item).begin ≡ true → s.place ≡ a
first_is items carried s zero a h e lt begin = omega (arith, e)
first_is items carried s (suc q) a h e lt begin =
    let none : (get_or items a no_item).begin ≡ false =
    ap (λ (n : ℕ). (get_or items n no_item).begin) (sym e)
    ∙ ap (λ (i : Item). i.begin) (item_in items carried s (suc q) h lt)
    ∙ begins_first (message_of s.call carried) true true q (omega (arith, lt, h.count)) in
    absurd cc

pub lie_starts : (items : List Item) (carried : Span → List ℕ) (place : ℕ) (spans : List Span) (a : ℕ) → Lie items carried place spans → place ≤ a → a < length items → (get_or items a no_item).begin ≡ true → StartsAt spans a
lie_starts items carried place [] a h le lt begin = absurd (omega (arith, h))
lie_starts items carried place (s ∷ spans) a h le lt begin =
    elim (side a (place + s.count)) [
      | inl inside ↦ (s, head_there s spans, first_is items (carried s) s (a - place) a h.1 (omega (arith, h.0, le)) (omega (arith, le, inside)) begin)
      | inr past ↦ let r = lie_starts items carried (place + s.count) spans a h.2 past lt begin in (r.0, tail_there s r.0 spans r.1, r.2)
    ]

-- THE PAYLOAD of a request is what its octets carry
abbrev pub payload_in : List Item → Posted → List ℕ
payload_in items (Taken place count) = carried_in (map (λ (i : Item). i.octet) (take count (drop place items)))
payload_in items Refused = carried_in []

octets_of_rows : (taken : List rows.Taken) → map (λ (i : Item). i.octet) (map item_of taken) ≡ map (λ (r : rows.Taken). r.octet) taken
octets_of_rows [] = refl
octets_of_rows (r ∷ rs) = ap (λ (l : List ℕ). r.octet ∷ l) (octets_of_rows rs)

payload_by : (w : World) (call : Call) (posted : Posted) → carried_in (octets_posted w call posted) ≡ payload_in (items_taken w call.flow) posted
payload_by w call (Taken place count) = ap carried_in (sym (octets_of_rows (take count (drop place (taken_rows w call.flow)))) ∙ ap (map (λ (i : Item). i.octet)) (cut_items w call.flow count place))
payload_by w call Refused = refl

pub payload_is : (w : World) (call : Call) → payload_of w call ≡ payload_in (items_taken w call.flow) call.request
payload_is w call = payload_by w call call.request

abbrev pub PostedWithin : List Item → Posted → Type 0
PostedWithin items (Taken place count) = place + count ≤ length items
PostedWithin items Refused = Unit {0}

pub payload_more : (items more : List Item) (posted : Posted) → PostedWithin items posted → payload_in (items ++ more) posted ≡ payload_in items posted
payload_more items more (Taken place count) fits =
    ap (λ (is : List Item). carried_in (map (λ (i : Item). i.octet) is))
    (ap (take count) (drop-append-le place items more (omega (arith, fits))) ∙ take-append-le count (drop place items) more (omega (arith, fits, length-drop place items)))
payload_more items more Refused fits = refl

pub payload_new : (items : List Item) (call : ℕ) (carried : List ℕ) → payload_in (items ++ whole call carried) (Taken (length items) (length (message_of call carried))) ≡ carried
payload_new items call carried =
    let m = message_of call carried in
    let all : take (length m) (drop (length items) (items ++ whole call carried)) ≡ whole call carried =
    ap (take (length m)) (drop_at items (whole call carried) (length items) refl) ∙ take_all (length m) (whole call carried) (omega (arith, length_marked m true true)) in
    ap (λ (is : List Item). carried_in (map (λ (i : Item). i.octet) is)) all ∙ ap carried_in (octets_marked m true true)

-- THE REQUESTS of a flow are those of its calls
pub record IsRequestIn (f : Flow) (n : ℕ) (calls : List Call) (s : Span) : Type 0 where
  pub k : ℕ
  pub call : s.call ≡ n + k
  pub there : k < length calls
  pub flow : same_flow (call_in calls k).flow f ≡ true
  pub request : (call_in calls k).request ≡ Taken s.place s.count

request_here : (f : Flow) (n : ℕ) (call : Call) (calls : List Call) (posted : Posted) → call.request ≡ posted → same_flow call.flow f ≡ true → All (IsRequestIn f n (call ∷ calls)) (span_of n posted)
request_here f n call calls (Taken place count) e flow =
    All-cons (IsRequestIn f n (call ∷ calls)) (record { call = n; place = place; count = count }) [] (record { k = 0; call = omega arith; there = omega arith; flow = flow; request = e }) (All-nil (IsRequestIn f n (call ∷ calls)))
request_here f n call calls Refused e flow = All-nil (IsRequestIn f n (call ∷ calls))

request_if : (b : Bool) (f : Flow) (n : ℕ) (call : Call) (calls : List Call) → same_flow call.flow f ≡ b → All (IsRequestIn f n (call ∷ calls)) (if b then span_of n call.request else [])
request_if true f n call calls e = request_here f n call calls call.request refl e
request_if false f n call calls e = All-nil (IsRequestIn f n (call ∷ calls))

requests_all : (f : Flow) (n : ℕ) (calls : List Call) → All (IsRequestIn f n calls) (requests_from f n calls)
requests_all f n [] = All-nil (IsRequestIn f n [])
requests_all f n (call ∷ calls) =
    All-append (IsRequestIn f n (call ∷ calls)) (if same_flow call.flow f then span_of n call.request else []) (requests_from f (suc n) calls) (request_if (same_flow call.flow f) f n call calls refl)
    (All-weaker (IsRequestIn f (suc n) calls) (IsRequestIn f n (call ∷ calls)) (λ s h. record { k = suc h.k; call = omega (arith, h.call); there = omega (arith, h.there); flow = h.flow; request = h.request }) (requests_from f (suc n) calls) (requests_all f (suc n) calls))

less_than : (a b : ℕ) → a < b → nat_lt a b ≡ true
less_than a b h = grind (arith, nat_tests)

pub is_less : (a b : ℕ) → nat_lt a b ≡ true → a < b
is_less a b h = grind (arith, nat_tests)

pub is_call_from : (calls : List Call) (f : Flow) (n : ℕ) → n < length calls → same_flow (call_in calls n).flow f ≡ true → is_call_in calls f n ≡ true
is_call_from calls f n lt flow = rw (less_than n (length calls) lt) flow

pub record IsRequest (calls : List Call) (f : Flow) (s : Span) : Type 0 where
  pub call : is_call_in calls f s.call ≡ true
  pub request : (call_in calls s.call).request ≡ Taken s.place s.count

at_itself : (calls : List Call) (f : Flow) (s : Span) (k : ℕ) → k ≡ s.call → is_call_in calls f k ≡ true → (call_in calls k).request ≡ Taken s.place s.count → IsRequest calls f s
at_itself calls f s k e call request = record {
  call = subst (λ (m : ℕ). is_call_in calls f m ≡ true) e call;
  request = subst (λ (m : ℕ). (call_in calls m).request ≡ Taken s.place s.count) e request;
}

pub requests_are : (calls : List Call) (f : Flow) → All (IsRequest calls f) (requests_from f 0 calls)
requests_are calls f =
    All-weaker (IsRequestIn f 0 calls) (IsRequest calls f) (λ s h. at_itself calls f s h.k (omega (arith, h.call)) (is_call_from calls f h.k h.there h.flow) h.request)
    (requests_from f 0 calls) (requests_all f 0 calls)

-- a call of the flow whose request was taken is among them
there_now : (b : Bool) (n place count : ℕ) (posted : Posted) (rest : List Span) → b ≡ true → posted ≡ Taken place count → Contains ((if b then span_of n posted else []) ++ rest) (record { call = n; place = place; count = count })
there_now b n place count posted rest e is =
    subst (λ (c : Bool). Contains ((if c then span_of n posted else []) ++ rest) (record { call = n; place = place; count = count })) (sym e)
    (subst (λ (p : Posted). Contains (span_of n p ++ rest) (record { call = n; place = place; count = count })) (sym is) (head_there (record { call = n; place = place; count = count }) rest))

request_there : (f : Flow) (n k place count : ℕ) (calls : List Call) → k < length calls → same_flow (call_in calls k).flow f ≡ true → (call_in calls k).request ≡ Taken place count → Contains (requests_from f n calls) (record { call = n + k; place = place; count = count })
request_there f n k place count [] lt flow is = absurd (omega arith)
request_there f n zero place count (call ∷ calls) lt flow is =
    let e : n ≡ n + 0 = omega arith in
    subst (λ (m : ℕ). Contains (requests_from f n (call ∷ calls)) (record { call = m; place = place; count = count })) e (there_now (same_flow call.flow f) n place count call.request (requests_from f (suc n) calls) flow is)
request_there f n (suc k) place count (call ∷ calls) lt flow is =
    let e : suc n + k ≡ n + suc k = omega arith in
    Contains-append_right (if same_flow call.flow f then span_of n call.request else []) (requests_from f (suc n) calls) (record { call = n + suc k; place = place; count = count })
    (subst (λ (m : ℕ). Contains (requests_from f (suc n) calls) (record { call = m; place = place; count = count })) e (request_there f (suc n) k place count calls (omega arith) flow is))

pub contains_request : (calls : List Call) (f : Flow) (n place count : ℕ) → is_call_in calls f n ≡ true → (call_in calls n).request ≡ Taken place count → Contains (requests_from f 0 calls) (record { call = n; place = place; count = count })
contains_request calls f n place count call is =
    let parts = and_parts (nat_lt n (length calls)) (same_flow (call_in calls n).flow f) call in
    let e : 0 + n ≡ n = omega arith in
    subst (λ (m : ℕ). Contains (requests_from f 0 calls) (record { call = m; place = place; count = count })) e (request_there f 0 n place count calls (is_less n (length calls) parts.0) parts.1 is)

-- a call more
pub requests_more : (f : Flow) (n : ℕ) (calls : List Call) (call : Call) → requests_from f n (calls ++ call ∷ []) ≡ requests_from f n calls ++ (if same_flow call.flow f then span_of (n + length calls) call.request else [])
requests_more f n [] call =
    let e : n ≡ n + 0 = omega arith in
    append-nil (if same_flow call.flow f then span_of n call.request else []) ∙ ap (λ (m : ℕ). if same_flow call.flow f then span_of m call.request else []) e
requests_more f n (c ∷ calls) call =
    let e : suc n + length calls ≡ n + suc (length calls) = omega arith in
    let first = if same_flow c.flow f then span_of n c.request else [] in
    ap (λ (ss : List Span). first ++ ss) (requests_more f (suc n) calls call ∙ ap (λ (m : ℕ). requests_from f (suc n) calls ++ (if same_flow call.flow f then span_of m call.request else [])) e)
    ∙ sym (append_assoc first (requests_from f (suc n) calls) (if same_flow call.flow f then span_of (n + suc (length calls)) call.request else []))
