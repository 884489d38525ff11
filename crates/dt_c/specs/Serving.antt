-- The calls of the library on a handle of a service. Each answers that the handle holds none and changes nothing, or is the call of its service.
use Rattle.std.specs.Prelude.{◌≡◌, ◌⊎◌, ◌<◌, ◌≤◌, ◌^◌, ℕ, nat_le, Bool, true, false, ◌&&◌, ◌==◌, List, if◌then◌else◌, is_some, length, map, MatchOption, Option, Some, None, IsNone, IsSome}
use Rattle.dt_units.specs.declared.parameters.Params.{Params}
use Rattle.dt_units.specs.Limits.{IsWithinLimits, first_out_of_range, value_of}
use Rattle.dt_endpoint.specs.declared.answers.Received.{Received}
use Rattle.dt_endpoint.specs.declared.answers.Routed.{Routed}
use Rattle.dt_endpoint.specs.declared.answers.Ticked.{Ticked}
use Rattle.dt_endpoint.specs.declared.guards.Admission.{Admission}
use Rattle.dt_endpoint.specs.declared.guards.Admission.TheVariants.{Admitted, ClosedPort, TooManyFlows}
use Rattle.dt_endpoint.specs.Calls.{AddsRoute}
use Rattle.dt_endpoint.specs.Endpoints.{opened}
use Rattle.dt_early.specs.Early.{EarlyShelf, ShelfServes}
use Rattle.dt_endpoint.specs.Guards.{admission, guard_after, open_guard}
use Rattle.dt_service_model.specs.declared.answers.Forgot.{Forgot}
use Rattle.dt_service_model.specs.declared.answers.Made.{Made}
use Rattle.dt_service_model.specs.declared.answers.Replied.{Replied}
use Rattle.dt_service_model.specs.declared.happenings.Happening.{Happening}
use Rattle.dt_service_model.specs.declared.ports.PortKind.{PortKind}
use Rattle.dt_service_model.specs.declared.names.CallNumber.{CallNumber}
use Rattle.dt_service_model.specs.Asked.{is_closed, is_life_in_use, next_number, raised, with_kind}
use Rattle.dt_service_model.specs.Ends.{close, next}
use Rattle.dt_service_model.specs.CallBook.{CallBook, kind_in, new_book}
use Rattle.dt_service_model.specs.Turns.{Node, wake, with_book}
use Rattle.dt_service.specs.Calls as service
use Rattle.dt_service_model.specs.Carrying.{carried_by}
use Rattle.dt_c.specs.declared.c_structs.ReceiveResult.{ReceiveResult}
use Rattle.dt_c.specs.declared.c_structs.NodeCounts.{NodeCounts}
use Rattle.dt_c.specs.declared.c_structs.NodeOptions.{NodeOptions}
use Rattle.dt_c.specs.declared.c_structs.CFlow.{CFlow}
use Rattle.dt_c.specs.declared.c_structs.BlockedCounts.{BlockedCounts}
use Rattle.dt_c.specs.declared.c_structs.Opened.{Opened}
use Rattle.dt_c.specs.declared.c_structs.Opened.TheVariants as opens
use Rattle.dt_c.specs.declared.c_structs.OpenResult.{OpenResult}
use Rattle.dt_c.specs.declared.c_structs.Datagram.{Datagram}
use Rattle.dt_c.specs.declared.c_structs.CParams.{CParams}
use Rattle.dt_c.specs.declared.c_structs.CRoute.{CRoute}
use Rattle.dt_c.specs.declared.service_structs.CCallCounts.{CCallCounts}
use Rattle.dt_c.specs.declared.service_structs.Event.{Event}
use Rattle.dt_c.specs.declared.service_structs.CallResult.{CallResult}
use Rattle.dt_c.specs.declared.service_structs.ReplyResult.{ReplyResult}
use Rattle.dt_c.specs.declared.service_structs.ServiceOptions.{ServiceOptions}
use Rattle.dt_c.specs.declared.service_structs.CToken.{CToken}
use Rattle.dt_c.specs.declared.service_slots.ServiceSlot.{ServiceSlot}
use Rattle.dt_c.specs.Calls.{Filling, IsSet, PartGoesOn, shelf_set, buf_after, chosen, datagram_after, frame_status, frames_after, over}
use Rattle.dt_c.specs.CStructs.{blocked, blocked_counts, buffer_too_small, datagram_size, exists, flow_of, in_link, invalid, is_fit, no_memory, node_counts, node_counts_size, none, not_open, ok, open_result, out_link, params_of, receive_result, received_as, route, routed_status, stopped, ticked_status, wake_time}
use Rattle.dt_c.specs.Users.{Ends, Keeps, Users, no_users, number_ended, number_kept, user_ended}
use Rattle.dt_c.specs.ServiceStructs.{call_counts, call_counts_size, call_result, called_as, event_in, event_size, event_without_room, forgot_status, kind_of, replied_as, reply_result, service_options_size, start_of, token_of}

abbrev pub empty_service : ServiceSlot
empty_service = record { service = None; guard = open_guard; shelf = None; users = no_users }

-- the service goes on, and its guard and what was given with its calls stay as they are
abbrev pub ServiceGoesOn : ServiceSlot → ServiceSlot → Type 0 → (Node → Node → Type 0) → Type 0
ServiceGoesOn s t without does = PartGoesOn s.service t.service without does × (t.guard ≡ s.guard) × (t.shelf ≡ s.shelf) × (t.users ≡ s.users)

-- AN OPENING
abbrev pub service_started : Params → NodeOptions → ServiceOptions → Node
service_started p o so =
    let start = start_of o so in
    record { endpoint = opened p start.me.0 start.again (map out_link o.links.now) (map in_link o.links.now) (map route o.routes.now); book = new_book start.most start.life }

-- the options of the service too have the size that is known here
abbrev pub is_service_fit : CParams → NodeOptions → ServiceOptions → Bool
is_service_fit p o so = is_fit p o && (so.size == service_options_size)

abbrev pub ServiceOpens : Opened → CParams → NodeOptions → ServiceOptions → ServiceSlot → ServiceSlot → Type 0
ServiceOpens opens.Done p o so s t = (is_service_fit p o so ≡ true) × IsNone s.service × IsWithinLimits (params_of p) × (t ≡ record s { service = Some (service_started (params_of p) o so); users = no_users })
ServiceOpens opens.NoMemory p o so s t = (is_service_fit p o so ≡ true) × IsNone s.service × IsWithinLimits (params_of p) × (t ≡ s)
ServiceOpens opens.Held p o so s t = (is_service_fit p o so ≡ true) × IsSome s.service × (t ≡ s)
ServiceOpens opens.Unfit p o so s t = (is_service_fit p o so ≡ false) × (t ≡ s)
ServiceOpens (opens.Refused fault) p o so s t = (is_service_fit p o so ≡ true) × IsNone s.service × (first_out_of_range (params_of p) ≡ Some fault.field) × (fault.value ≡ value_of (params_of p) fault.field) × (t ≡ s)

abbrev pub ServiceOpening : OpenResult → CParams → NodeOptions → ServiceOptions → ServiceSlot → ServiceSlot → Type 0
ServiceOpening row p o so s t = (answer : Opened) × (row ≡ open_result answer) × ServiceOpens answer p o so s t

-- A PORT GETS ITS KIND
abbrev pub GetsKind : (status port : ℕ) → Option PortKind → (n m : Node) → Type 0
GetsKind status port None n m = (status ≡ invalid) × (m ≡ n)
GetsKind status port (Some kind) n m = ((status ≡ (if is_some (kind_in port n.book.ports) then exists else ok)) × (m ≡ with_book (with_kind port kind) n)) ⊎ ((status ≡ no_memory) × (m ≡ n))

abbrev pub Porting : (status port kind : ℕ) → ServiceSlot → ServiceSlot → Type 0
Porting status port kind s t = ServiceGoesOn s t (status ≡ not_open) (GetsKind status port (kind_of kind))

-- CALLS AND REPLIES
-- A call that is made keeps what it is given, and so does one that may have been made before there was no memory
abbrev pub IsNext : Option CallNumber → CallBook → Type 0
IsNext next h = MatchOption next (2 ^ 32 ≤ h.count) (λ number. (h.count < 2 ^ 32) × (number ≡ next_number h))

abbrev pub KeepsUser : Made → (user : ℕ) → (us vs : Users) → CallBook → Type 0
KeepsUser answer user us vs h = (next : Option CallNumber) × IsNext next h × Keeps (number_kept answer next) user us vs

-- where there is no memory for what it is given nothing changes: a node that was closed says so, and another one goes on
abbrev pub CallsWith : CallResult → (now : ℕ) → CFlow → List ℕ → (patience user : ℕ) → (us vs : Users) → Node → Node → Type 0
CallsWith row now flow payload patience user us vs n m =
    ((row ≡ called_as (if is_closed n then stopped else no_memory)) × (m ≡ n) × (vs ≡ us))
    ⊎ ((answer : Made) × (row ≡ call_result answer) × service.Calls answer now (flow_of flow) payload patience n m × KeepsUser answer user us vs n.book)

abbrev pub Calling : CallResult → (now : ℕ) → CFlow → List ℕ → (patience user : ℕ) → ServiceSlot → ServiceSlot → Type 0
Calling row now flow payload patience user s t =
    PartGoesOn s.service t.service ((row ≡ called_as not_open) × (t.users ≡ s.users)) (CallsWith row now flow payload patience user s.users t.users) × (t.guard ≡ s.guard) × (t.shelf ≡ s.shelf)

abbrev pub Replying : ReplyResult → (now : ℕ) → CToken → List ℕ → ServiceSlot → ServiceSlot → Type 0
Replying row now token payload s t = ServiceGoesOn s t (row ≡ replied_as not_open) (λ n m. (answer : Replied) × (row ≡ reply_result answer) × service.Replies answer now (token_of token) payload n m)

abbrev pub Forgetting : (status now : ℕ) → CToken → ServiceSlot → ServiceSlot → Type 0
Forgetting status now token s t = ServiceGoesOn s t (status ≡ not_open) (λ n m. (answer : Forgot) × (status ≡ forgot_status answer) × service.Forgets answer now (token_of token) n m)

-- EVENTS
abbrev pub ServiceTicking : (status now : ℕ) → ServiceSlot → ServiceSlot → Type 0
ServiceTicking status now s t = ServiceGoesOn s t (status ≡ not_open) (λ n m. (answer : Ticked) × (status ≡ ticked_status answer) × service.Ticks answer now n m)

abbrev pub ServesBehind : Received → (now link : ℕ) → List ℕ → (waited : ℕ) → Option EarlyShelf → Node → Option EarlyShelf → Node → Type 0
ServesBehind answer now link octets waited None n None m = service.Arrives answer now link octets waited n m
ServesBehind answer now link octets waited (Some s) n (Some t) m = ShelfServes answer now link octets waited s n t m
ServesBehind answer now link octets waited None n (Some t) m = ⊥
ServesBehind answer now link octets waited (Some s) n None m = ⊥

abbrev pub ServiceArrivesAt : Admission → ReceiveResult → (now link : ℕ) → List ℕ → (waited : ℕ) → Option EarlyShelf → Node → Option EarlyShelf → Node → Type 0
ServiceArrivesAt Admitted row now link octets waited s n t m = (answer : Received) × (row ≡ receive_result answer) × ServesBehind answer now link octets waited s n t m
ServiceArrivesAt ClosedPort row now link octets waited s n t m = (row ≡ received_as blocked) × (t ≡ s) × (m ≡ n)
ServiceArrivesAt TooManyFlows row now link octets waited s n t m = (row ≡ received_as blocked) × (t ≡ s) × (m ≡ n)

abbrev pub ServiceArriving : ReceiveResult → (now link : ℕ) → List ℕ → (waited : ℕ) → ServiceSlot → ServiceSlot → Type 0
ServiceArriving row now link octets waited s t = PartGoesOn s.service t.service ((row ≡ received_as not_open) × (t.guard ≡ s.guard) × (t.shelf ≡ s.shelf)) (λ n m. let found = admission n.endpoint.state.host s.guard octets in
    ServiceArrivesAt found row now link octets waited s.shelf n t.shelf m × (t.guard ≡ guard_after found s.guard)) × (t.users ≡ s.users)

-- WHAT HAPPENED: the next of it, where the buffer has room for what it carries. Else it goes on waiting, and its size is told.
abbrev pub has_room : Happening → List ℕ → Bool
has_room happening buf = nat_le (length (carried_by happening)) (length buf)

abbrev pub event_status : Option Happening → List ℕ → ℕ
event_status None buf = none
event_status (Some happening) buf = if has_room happening buf then ok else buffer_too_small

abbrev pub event_after : Option Happening → List ℕ → (user : ℕ) → Event → Event
event_after None buf user out = out
event_after (Some happening) buf user out = if has_room happening buf then event_in happening user out else event_without_room (length (carried_by happening)) out

abbrev pub buffer_with : Option Happening → List ℕ → List ℕ
buffer_with None buf = buf
buffer_with (Some happening) buf = if has_room happening buf then over (carried_by happening) buf else buf

abbrev pub taken_from : Option Happening → List ℕ → Node → Node
taken_from None buf n = n
taken_from (Some happening) buf n = if has_room happening buf then record n { book = (next n.book).1 } else n

-- its user: what was given with the call that it ends, or 0 where it ends none. That is kept no more once it is taken
abbrev pub user_first : Option Happening → Users → ℕ
user_first None us = 0
user_first (Some happening) us = user_ended (number_ended happening) us

abbrev pub UsersAfter : Option Happening → List ℕ → (us vs : Users) → Type 0
UsersAfter None buf us vs = vs ≡ us
UsersAfter (Some happening) buf us vs = Ends (if has_room happening buf then number_ended happening else None) us vs

abbrev pub TakesEvent : (status : ℕ) → (before after : List ℕ) → (old new : Event) → (us vs : Users) → Node → Node → Type 0
TakesEvent status before after old new us vs n m = let first = (next n.book).0 in
    (status ≡ event_status first before) × (after ≡ buffer_with first before) × (new ≡ event_after first before (user_first first us) old) × (m ≡ taken_from first before n)
    × UsersAfter first before us vs

abbrev pub NextEvent : (status : ℕ) → (before after : List ℕ) → (old new : Event) → ServiceSlot → ServiceSlot → Type 0
NextEvent status before after old new s t = let unfilled = (after ≡ before) × (new ≡ old) in
    Filling event_size old.size status s t unfilled (PartGoesOn s.service t.service ((status ≡ not_open) × unfilled × (t.users ≡ s.users))
    (λ n m. TakesEvent status before after old new s.users t.users n m) × (t.guard ≡ s.guard) × (t.shelf ≡ s.shelf))

-- A LIFE IS RAISED
abbrev pub Raises : (status life : ℕ) → (n m : Node) → Type 0
Raises status life n m = (status ≡ (if is_life_in_use life n.book then exists else ok)) × (m ≡ with_book (raised life) n)

abbrev pub Raising : (status life : ℕ) → ServiceSlot → ServiceSlot → Type 0
Raising status life s t = ServiceGoesOn s t (status ≡ not_open) (Raises status life)

-- THE SERVICE STOPS
abbrev pub Stopping : (status : ℕ) → ServiceSlot → ServiceSlot → Type 0
Stopping status s t = ServiceGoesOn s t (status ≡ not_open) (λ n m. (status ≡ ok) × (m ≡ with_book close n))

-- FRAMES, ROUTES, THE GUARD AND COUNTS are the endpoint's
abbrev pub HandsFrame : (status : ℕ) → (before after : List ℕ) → (old new : Datagram) → Node → Node → Type 0
HandsFrame status before after old new n m =
    (status ≡ frame_status n.endpoint.frames before) × (after ≡ buf_after n.endpoint.frames before) × (new ≡ datagram_after n.endpoint.frames old)
    × (m ≡ record n { endpoint = record (n.endpoint) { frames = frames_after n.endpoint.frames before } })

abbrev pub ServiceNextFrame : (status : ℕ) → (before after : List ℕ) → (old new : Datagram) → ServiceSlot → ServiceSlot → Type 0
ServiceNextFrame status before after old new s t = let unfilled = (after ≡ before) × (new ≡ old) in
    Filling datagram_size old.size status s t unfilled (ServiceGoesOn s t ((status ≡ not_open) × unfilled) (λ n m. HandsFrame status before after old new n m))

abbrev pub service_wake : Option Node → Option ℕ
service_wake None = None
service_wake (Some n) = wake n

abbrev pub ServiceWaking : (time : ℕ) → ServiceSlot → ServiceSlot → Type 0
ServiceWaking time s t = (time ≡ wake_time (service_wake s.service)) × (t ≡ s)

abbrev pub ServiceAddingRoute : (status : ℕ) → CRoute → ServiceSlot → ServiceSlot → Type 0
ServiceAddingRoute status r s t = ServiceGoesOn s t (status ≡ not_open) (λ n m. ((answer : Routed) × (status ≡ routed_status answer) × AddsRoute answer (route r) n.endpoint m.endpoint) × (m.book ≡ n.book))

abbrev pub ServiceGuarding : (status : ℕ) → List ℕ → (all : Bool) → (most : ℕ) → ServiceSlot → ServiceSlot → Type 0
ServiceGuarding status ports all most s t = PartGoesOn s.service t.service ((status ≡ not_open) × (t.guard ≡ s.guard)) (λ n m. (m ≡ n) × IsSet status (chosen all ports) most s.guard t.guard) × (t.shelf ≡ s.shelf) × (t.users ≡ s.users)

abbrev pub ServiceShelving : (status : ℕ) → (most of_flow : ℕ) → ServiceSlot → ServiceSlot → Type 0
ServiceShelving status most of_flow s t = PartGoesOn s.service t.service ((status ≡ not_open) × (t.shelf ≡ s.shelf)) (λ n m. (m ≡ n) × (status ≡ ok) × (t.shelf ≡ Some (shelf_set most of_flow s.shelf))) × (t.guard ≡ s.guard) × (t.users ≡ s.users)

abbrev pub ServiceKeptOut : BlockedCounts → ServiceSlot → ServiceSlot → Type 0
ServiceKeptOut row s t = (row ≡ blocked_counts s.guard) × (t ≡ s)

abbrev pub ServiceCounts : (status : ℕ) → (old new : NodeCounts) → Option Node → Type 0
ServiceCounts status old new None = (status ≡ not_open) × (new ≡ old)
ServiceCounts status old new (Some n) = (status ≡ ok) × (new ≡ node_counts n.endpoint.counts.node old)

abbrev pub ServiceCounting : (status : ℕ) → (old new : NodeCounts) → ServiceSlot → ServiceSlot → Type 0
ServiceCounting status old new s t = Filling node_counts_size old.size status s t (new ≡ old) (ServiceCounts status old new s.service × (t ≡ s))

abbrev pub CallCounts : (status : ℕ) → (old new : CCallCounts) → Option Node → Type 0
CallCounts status old new None = (status ≡ not_open) × (new ≡ old)
CallCounts status old new (Some n) = (status ≡ ok) × (new ≡ call_counts n.book.counts old)

abbrev pub CallCounting : (status : ℕ) → (old new : CCallCounts) → ServiceSlot → ServiceSlot → Type 0
CallCounting status old new s t = Filling call_counts_size old.size status s t (new ≡ old) (CallCounts status old new s.service × (t ≡ s))
