-- The calls of the library. Each answers that the handle holds no node and changes nothing, or is the call of its endpoint.
use Rattle.std.specs.Prelude.{◌≡◌, ◌==◌, ◌⊎◌, ℕ, nat_le, Bool, true, false, List, [], ◌∷◌, ◌++◌, if◌then◌else◌, drop, length, Option, Some, None, IsNone, IsSome}
use Rattle.dt_units.specs.Limits.{IsWithinLimits, first_out_of_range, value_of}
use Rattle.dt_units.specs.declared.parameters.Params.{Params}
use Rattle.dt_units.specs.Times.{quiet_time}
use Rattle.dt_reports.specs.Told.{Told}
use Rattle.dt_endpoint.specs.declared.answers.Received.{Received}
use Rattle.dt_endpoint.specs.declared.answers.Delivered.{Delivered}
use Rattle.dt_endpoint.specs.declared.answers.Routed.{Routed}
use Rattle.dt_endpoint.specs.declared.answers.Sent.{Sent}
use Rattle.dt_endpoint.specs.declared.answers.Ticked.{Ticked}
use Rattle.dt_endpoint.specs.declared.counts.Octets.{Octets}
use Rattle.dt_endpoint.specs.Acts.{OutFrameValue}
use Rattle.dt_endpoint.specs.Calls.{AddsRoute, Arrives, Reads, Sends, Ticks}
use Rattle.dt_world_model.specs.Tables.{look, same_flow}
use Rattle.dt_endpoint.specs.Endpoints.{EndpointValue, endpoint_wake, with_followed}
use Rattle.dt_early.specs.Early.{EarlyShelf, ShelfArrives, empty_shelf}
use Rattle.dt_endpoint.specs.Guards.{GuardValue, admission, guard_after}
use Rattle.dt_endpoint.specs.declared.guards.Admission.{Admission}
use Rattle.dt_endpoint.specs.declared.guards.Admission.TheVariants.{Admitted, ClosedPort, TooManyFlows}
use Rattle.dt_fingerprint.specs.Fingerprints.{fingerprint_of}
use Rattle.dt_inbox.specs.FlowInboxes.{heard}
use Rattle.dt_inbox.specs.Mailboxes.{MailboxValue, TakesInto, new_mailbox}
use Rattle.dt_inbox.specs.declared.mailboxes.Handed.{Handed}
use Rattle.dt_c.specs.declared.c_structs.ReceiveResult.{ReceiveResult}
use Rattle.dt_c.specs.declared.c_structs.NodeCounts.{NodeCounts}
use Rattle.dt_c.specs.declared.c_structs.CFlow.{CFlow}
use Rattle.dt_c.specs.declared.c_structs.BlockedCounts.{BlockedCounts}
use Rattle.dt_c.specs.declared.c_structs.Message.{Message}
use Rattle.dt_c.specs.declared.c_structs.Opened.{Opened}
use Rattle.dt_c.specs.declared.c_structs.Opened.TheVariants as opens
use Rattle.dt_c.specs.declared.c_structs.OpenResult.{OpenResult}
use Rattle.dt_c.specs.declared.c_structs.Datagram.{Datagram}
use Rattle.dt_c.specs.declared.c_structs.CParams.{CParams}
use Rattle.dt_c.specs.declared.c_structs.ReadResult.{ReadResult}
use Rattle.dt_c.specs.declared.c_structs.CReport.{CReport}
use Rattle.dt_c.specs.declared.c_structs.CRoute.{CRoute}
use Rattle.dt_c.specs.declared.c_structs.SendResult.{SendResult}
use Rattle.dt_c.specs.declared.c_structs.FlowCounts.{FlowCounts}
use Rattle.dt_c.specs.declared.c_structs.NodeOptions.{NodeOptions}
use Rattle.dt_c.specs.declared.slots.Slot.{Slot}
use Rattle.dt_c.specs.CStructs.{again_of, blocked, blocked_counts, buffer_too_small, datagram, datagram_size, exists, flow_counts, flow_counts_size, flow_of, invalid, is_fit, message_in, message_size, message_status, never, no_memory, no_piece, node_counts, node_counts_size, none, not_open, ok, open_result, params_of, params_size, read_result, receive_result, received_as, report_in, report_size, route, routed_status, send_result, sent_as, started, ticked_status, wake_time}

-- Between two contents of a handle: where a part isn't there it stays so, and one that is there goes on.
abbrev pub PartGoesOn : {A : Type 0} → Option A → Option A → Type 0 → (A → A → Type 0) → Type 0
PartGoesOn None None without does = without
PartGoesOn (Some e) (Some f) without does = does e f
PartGoesOn None (Some f) without does = ⊥
PartGoesOn (Some e) None without does = ⊥

-- A STRUCT THAT THE CALLER LENDS to be filled says how many octets it has. If they are fewer than those of the struct that is
-- known here, the call is refused, and nothing changes.
abbrev pub WithRoom : Bool → Type 0 → Type 0 → Type 0
WithRoom true unfit does = does
WithRoom false unfit does = unfit

abbrev pub Filling : {S : Type 0} → (least size status : ℕ) → S → S → (unfilled does : Type 0) → Type 0
Filling least size status s t unfilled does = WithRoom (nat_le least size) ((status ≡ invalid) × unfilled × (t ≡ s)) does

-- the node goes on, and what is beside it stays as it is
abbrev pub GoesOn : Slot → Slot → Type 0 → (EndpointValue → EndpointValue → Type 0) → Type 0
GoesOn s t without does = PartGoesOn s.endpoint t.endpoint without does × (t.guard ≡ s.guard) × (t.shelf ≡ s.shelf) × (t.mailbox ≡ s.mailbox)

abbrev pub Ticking : (status now : ℕ) → Slot → Slot → Type 0
Ticking status now s t = GoesOn s t (status ≡ not_open) (λ e f. (answer : Ticked) × (status ≡ ticked_status answer) × Ticks answer now e f)

-- AN ENDPOINT BEHIND A SHELF, or behind none
abbrev pub ArrivesBehind : Received → (now link : ℕ) → List ℕ → (waited : ℕ) → Option EarlyShelf → EndpointValue → Option EarlyShelf → EndpointValue → Type 0
ArrivesBehind answer now link octets waited None e None f = Arrives answer now link octets waited e f
ArrivesBehind answer now link octets waited (Some s) e (Some t) f = ShelfArrives answer now link octets waited s e t f
ArrivesBehind answer now link octets waited None e (Some t) f = ⊥
ArrivesBehind answer now link octets waited (Some s) e None f = ⊥

-- A DATAGRAM that the guard admits is handed to the endpoint, by its shelf where it has one. One that it keeps out never came, and is counted
abbrev pub ArrivesAt : Admission → ReceiveResult → (now link : ℕ) → List ℕ → (waited : ℕ) → Option EarlyShelf → EndpointValue → Option EarlyShelf → EndpointValue → Type 0
ArrivesAt Admitted row now link octets waited s e t f = (answer : Received) × (row ≡ receive_result answer) × ArrivesBehind answer now link octets waited s e t f
ArrivesAt ClosedPort row now link octets waited s e t f = (row ≡ received_as blocked) × (t ≡ s) × (f ≡ e)
ArrivesAt TooManyFlows row now link octets waited s e t f = (row ≡ received_as blocked) × (t ≡ s) × (f ≡ e)

abbrev pub Arriving : ReceiveResult → (now link : ℕ) → List ℕ → (waited : ℕ) → Slot → Slot → Type 0
Arriving row now link octets waited s t = PartGoesOn s.endpoint t.endpoint ((row ≡ received_as not_open) × (t.guard ≡ s.guard) × (t.shelf ≡ s.shelf)) (λ e f. let found = admission e.state.host s.guard octets in
    ArrivesAt found row now link octets waited s.shelf e t.shelf f × (t.guard ≡ guard_after found s.guard)) × (t.mailbox ≡ s.mailbox)

abbrev pub Sending : SendResult → (now : ℕ) → CFlow → List ℕ → (begin end : Bool) → Slot → Slot → Type 0
Sending row now flow octets begin end s t = GoesOn s t (row ≡ sent_as not_open) (λ e f. (answer : Sent) × (row ≡ send_result answer) × Sends answer now (flow_of flow) octets begin end e f)

-- a buffer of so many octets, and what it has afterwards
abbrev pub Reading : ReadResult → (now : ℕ) → CFlow → (size : ℕ) → List ℕ → Slot → Slot → Type 0
Reading row now flow size buf s t = GoesOn s t (row ≡ no_piece not_open) (λ e f. (answer : Delivered) × (row ≡ read_result answer) × Reads answer now (flow_of flow) size buf e f)

-- THE NEXT FRAME: the first of those that wait, where the buffer has room for it. Else it goes on waiting, and its size is told.
abbrev pub fits : OutFrameValue → List ℕ → Bool
fits frame buf = nat_le (length frame.octets) (length buf)

-- the octets at the head of a buffer
abbrev pub over : List ℕ → List ℕ → List ℕ
over octets buf = octets ++ drop (length octets) buf

abbrev pub frame_status : List OutFrameValue → List ℕ → ℕ
frame_status [] buf = none
frame_status (frame ∷ frames) buf = if fits frame buf then ok else buffer_too_small

abbrev pub datagram_after : List OutFrameValue → Datagram → Datagram
datagram_after [] out = out
datagram_after (frame ∷ frames) out = datagram frame out

abbrev pub buf_after : List OutFrameValue → List ℕ → List ℕ
buf_after [] buf = buf
buf_after (frame ∷ frames) buf = if fits frame buf then over frame.octets buf else buf

abbrev pub frames_after : List OutFrameValue → List ℕ → List OutFrameValue
frames_after [] buf = []
frames_after (frame ∷ frames) buf = if fits frame buf then frames else frame ∷ frames

abbrev pub HandsOut : (status : ℕ) → (before after : List ℕ) → (old new : Datagram) → EndpointValue → EndpointValue → Type 0
HandsOut status before after old new e f = (status ≡ frame_status e.frames before) × (after ≡ buf_after e.frames before) × (new ≡ datagram_after e.frames old) × (f ≡ record e { frames = frames_after e.frames before })

abbrev pub NextFrame : (status : ℕ) → (before after : List ℕ) → (old new : Datagram) → Slot → Slot → Type 0
NextFrame status before after old new s t = let unfilled = (after ≡ before) × (new ≡ old) in
    Filling datagram_size old.size status s t unfilled (GoesOn s t ((status ≡ not_open) × unfilled) (λ e f. HandsOut status before after old new e f))

-- THE NEXT REPORT: the first of those that wait
abbrev pub report_status : List Told → ℕ
report_status [] = none
report_status (told ∷ more) = ok

abbrev pub report_after : List Told → CReport → CReport
report_after [] out = out
report_after (told ∷ more) out = report_in told out

abbrev pub TakesReport : (status : ℕ) → (old new : CReport) → EndpointValue → EndpointValue → Type 0
TakesReport status old new e f = (status ≡ report_status e.reports) × (new ≡ report_after e.reports old) × (f ≡ record e { reports = drop 1 e.reports })

abbrev pub NextReport : (status : ℕ) → (old new : CReport) → Slot → Slot → Type 0
NextReport status old new s t = Filling report_size old.size status s t (new ≡ old)
    (GoesOn s t ((status ≡ not_open) × (new ≡ old)) (λ e f. TakesReport status old new e f))

-- THE WAKE. A handle with no node has none.
abbrev pub slot_wake : Option EndpointValue → Option ℕ
slot_wake None = None
slot_wake (Some e) = endpoint_wake e

abbrev pub Waking : (time : ℕ) → Slot → Slot → Type 0
Waking time s t = (time ≡ wake_time (slot_wake s.endpoint)) × (t ≡ s)

-- AN OPENING
abbrev pub Opens : Opened → CParams → NodeOptions → Slot → Slot → Type 0
Opens opens.Done p o s t = (is_fit p o ≡ true) × IsNone s.endpoint × IsWithinLimits (params_of p) × (t ≡ record s { endpoint = Some (started (params_of p) o) })
Opens opens.NoMemory p o s t = (is_fit p o ≡ true) × IsNone s.endpoint × IsWithinLimits (params_of p) × (t ≡ s)
Opens opens.Held p o s t = (is_fit p o ≡ true) × IsSome s.endpoint × (t ≡ s)
Opens opens.Unfit p o s t = (is_fit p o ≡ false) × (t ≡ s)
Opens (opens.Refused fault) p o s t = (is_fit p o ≡ true) × IsNone s.endpoint × (first_out_of_range (params_of p) ≡ Some fault.field) × (fault.value ≡ value_of (params_of p) fault.field) × (t ≡ s)

-- what stands in the way of an opening: a node that is there already, or a parameter out of its range
abbrev pub StandsInTheWay : Opened → (is_held : Bool) → Params → Type 0
StandsInTheWay opens.Done is_held p = ⊥
StandsInTheWay opens.NoMemory is_held p = ⊥
StandsInTheWay opens.Held is_held p = is_held ≡ true
StandsInTheWay opens.Unfit is_held p = ⊥
StandsInTheWay (opens.Refused fault) is_held p = (is_held ≡ false) × (first_out_of_range p ≡ Some fault.field) × (fault.value ≡ value_of p fault.field)

abbrev pub Opening : OpenResult → CParams → NodeOptions → Slot → Slot → Type 0
Opening row p o s t = (answer : Opened) × (row ≡ open_result answer) × Opens answer p o s t

-- PARAMETERS ALONE: those within their limits, in a struct of the size that is known here
abbrev pub RulesOf : Option Params → CParams → Type 0
RulesOf (Some rules) p = (rules ≡ params_of p) × IsWithinLimits (params_of p) × ((p.size == params_size) ≡ true)
RulesOf None p = IsSome (first_out_of_range (params_of p)) ⊎ ((p.size == params_size) ≡ false)

-- THE QUIET TIME
abbrev pub QuietIs : ℕ → CParams → Type 0
QuietIs quiet p = ((quiet ≡ quiet_time (params_of p)) × RulesOf (Some (params_of p)) p) ⊎ ((quiet ≡ 0) × RulesOf None p)

-- THE GUARD IS SET: these ports are open, or all of them, and so many flows may have a receiver
abbrev pub chosen : Bool → List ℕ → Option (List ℕ)
chosen true ports = None
chosen false ports = Some ports

abbrev pub IsSet : (status : ℕ) → Option (List ℕ) → (most : ℕ) → GuardValue → GuardValue → Type 0
IsSet status ports most g h = ((status ≡ ok) × (h ≡ record g { ports = ports; most = most })) ⊎ ((status ≡ no_memory) × (h ≡ g))

abbrev pub Guarding : (status : ℕ) → List ℕ → (all : Bool) → (most : ℕ) → Slot → Slot → Type 0
Guarding status ports all most s t = PartGoesOn s.endpoint t.endpoint ((status ≡ not_open) × (t.guard ≡ s.guard)) (λ e f. (f ≡ e) × IsSet status (chosen all ports) most s.guard t.guard) × (t.shelf ≡ s.shelf) × (t.mailbox ≡ s.mailbox)

-- A SHELF IS SET: it holds so many at most from now on, and what it holds stays
abbrev pub shelf_of : Option EarlyShelf → EarlyShelf
shelf_of None = empty_shelf
shelf_of (Some s) = s

abbrev pub shelf_set : (most of_flow : ℕ) → Option EarlyShelf → EarlyShelf
shelf_set most of_flow s = record { most = most; of_flow = of_flow; held = (shelf_of s).held }

abbrev pub Shelving : (status : ℕ) → (most of_flow : ℕ) → Slot → Slot → Type 0
Shelving status most of_flow s t = PartGoesOn s.endpoint t.endpoint ((status ≡ not_open) × (t.shelf ≡ s.shelf)) (λ e f. (f ≡ e) × (status ≡ ok) × (t.shelf ≡ Some (shelf_set most of_flow s.shelf))) × (t.guard ≡ s.guard) × (t.mailbox ≡ s.mailbox)

-- WHAT IT KEPT OUT
abbrev pub KeptOut : BlockedCounts → Slot → Slot → Type 0
KeptOut row s t = (row ≡ blocked_counts s.guard) × (t ≡ s)

-- AN INBOX IS MADE beside the node, where there is none
abbrev pub inbox_status : Option EndpointValue → Option MailboxValue → ℕ
inbox_status None mailbox = not_open
inbox_status (Some e) (Some m) = exists
inbox_status (Some e) None = ok

abbrev pub inbox_after : Option EndpointValue → Option MailboxValue → (longest : ℕ) → Option MailboxValue
inbox_after None mailbox longest = mailbox
inbox_after (Some e) (Some m) longest = Some m
inbox_after (Some e) None longest = Some (new_mailbox (Some longest))

abbrev pub MakesInbox : (status longest : ℕ) → Slot → Slot → Type 0
MakesInbox status longest s t = (status ≡ inbox_status s.endpoint s.mailbox) × (t ≡ record s { mailbox = inbox_after s.endpoint s.mailbox longest })

-- A FLOW IS HEARD OF
abbrev pub HearsIn : (status : ℕ) → CFlow → (m n : MailboxValue) → Type 0
HearsIn status flow m n = ((status ≡ ok) × (n ≡ record m { inboxes = heard (flow_of flow) m.inboxes })) ⊎ ((status ≡ no_memory) × (n ≡ m))

abbrev pub Hearing : (status : ℕ) → CFlow → Slot → Slot → Type 0
Hearing status flow s t = PartGoesOn s.mailbox t.mailbox (status ≡ not_open) (HearsIn status flow) × (t.endpoint ≡ s.endpoint) × (t.guard ≡ s.guard) × (t.shelf ≡ s.shelf)

-- A MESSAGE IS TAKEN by the inbox out of the node
abbrev pub TakesFor : (status now : ℕ) → (before after : List ℕ) → (old new : Message) → (m n : MailboxValue) → (e f : EndpointValue) → Type 0
TakesFor status now before after old new m n e f = (answer : Handed) × (status ≡ message_status answer) × (new ≡ message_in answer n.inboxes.dropped old) × TakesInto m.waiting answer now before after m n e f

abbrev pub Taking : (status now : ℕ) → (before after : List ℕ) → (old new : Message) → Slot → Slot → Type 0
Taking status now before after old new s t = let unfilled = (after ≡ before) × (new ≡ old) in let untaken = (status ≡ not_open) × unfilled in
    Filling message_size old.size status s t unfilled
    (PartGoesOn s.endpoint t.endpoint (untaken × (t.mailbox ≡ s.mailbox)) (λ e f. PartGoesOn s.mailbox t.mailbox (untaken × (f ≡ e)) (λ m n. TakesFor status now before after old new m n e f)) × (t.guard ≡ s.guard) × (t.shelf ≡ s.shelf))

-- A ROUTE is added
abbrev pub AddingRoute : (status : ℕ) → CRoute → Slot → Slot → Type 0
AddingRoute status r s t = GoesOn s t (status ≡ not_open) (λ e f. (answer : Routed) × (status ≡ routed_status answer) × AddsRoute answer (route r) e f)

-- WHAT IT COUNTED
abbrev pub Counts : (status : ℕ) → (old new : NodeCounts) → Option EndpointValue → Type 0
Counts status old new None = (status ≡ not_open) × (new ≡ old)
Counts status old new (Some e) = (status ≡ ok) × (new ≡ node_counts e.counts.node old)

abbrev pub Counting : (status : ℕ) → (old new : NodeCounts) → Slot → Slot → Type 0
Counting status old new s t = Filling node_counts_size old.size status s t (new ≡ old) (Counts status old new s.endpoint × (t ≡ s))

-- A FLOW IS FOLLOWED from now on, and what was reported of it since
abbrev pub FollowsIn : (status : ℕ) → CFlow → (e f : EndpointValue) → Type 0
FollowsIn status flow e f = ((status ≡ ok) × (f ≡ with_followed (flow_of flow) e)) ⊎ ((status ≡ no_memory) × (f ≡ e))

abbrev pub Following : (status : ℕ) → CFlow → Slot → Slot → Type 0
Following status flow s t = GoesOn s t (status ≡ not_open) (FollowsIn status flow)

abbrev pub Totals : (status : ℕ) → (old new : FlowCounts) → Option Octets → Type 0
Totals status old new None = (status ≡ none) × (new ≡ old)
Totals status old new (Some octets) = (status ≡ ok) × (new ≡ flow_counts octets old)

abbrev pub SlotTotals : (status : ℕ) → CFlow → (old new : FlowCounts) → Option EndpointValue → Type 0
SlotTotals status flow old new None = (status ≡ not_open) × (new ≡ old)
SlotTotals status flow old new (Some e) = Totals status old new (look same_flow (flow_of flow) e.counts.flows)

abbrev pub Totalling : (status : ℕ) → CFlow → (old new : FlowCounts) → Slot → Slot → Type 0
Totalling status flow old new s t = Filling flow_counts_size old.size status s t (new ≡ old) (SlotTotals status flow old new s.endpoint × (t ≡ s))

-- THE FINGERPRINT
abbrev pub FingerprintIs : (status fingerprint : ℕ) → CParams → Type 0
FingerprintIs status fingerprint p = ((status ≡ ok) × (fingerprint ≡ fingerprint_of (params_of p)) × RulesOf (Some (params_of p)) p) ⊎ ((status ≡ invalid) × (fingerprint ≡ 0) × RulesOf None p)
