-- A shelf before an endpoint or a service: datagrams whose data came too early, each as it came, with its time until then and the moment at which it was put there.
use Rattle.std.specs.Prelude.{◌≡◌, ℕ, ◌+◌, ◌-◌, ◌==◌, ◌&&◌, min, nat_lt, not, Bool, true, false, List, [], ◌∷◌, ◌++◌, count_by, filter, length, Option, Some, None, Result, Ok, Err, if◌then◌else◌}
use Rattle.std.specs.List.{list_any}
use Rattle.dt_units.specs.declared.endpoints.Flow.{Flow}
use Rattle.dt_units.specs.declared.order.Relation.{Relation}
use Rattle.dt_units.specs.declared.order.Relation.TheVariants.{Below, Equal, Above}
use Rattle.dt_units.specs.Numbers.{relation_of}
use Rattle.dt_layout.specs.declared.faults.LayoutFault.{LayoutFault}
use Rattle.dt_layout.specs.Carried.{life_of}
use Rattle.dt_layout.specs.Reading.{gram_in, packet_read}
use Rattle.dt_layout.specs.Spelling.{Ack, Close, Data, DeltagramValue, Meet, PacketValue}
use Rattle.dt_flow_model.specs.Frames.{flow_of}
use Rattle.dt_flow_model.specs.ReceiveRecord.{expected_of}
use Rattle.dt_world_model.specs.Host.{Host, receiver_at}
use Rattle.dt_world_model.specs.Tables.{same_flow}
use Rattle.dt_endpoint.specs.declared.answers.Received.{Received}
use Rattle.dt_endpoint.specs.declared.answers.Received.TheVariants as arrived
use Rattle.dt_endpoint.specs.Calls.{arrive_refusal}
use Rattle.dt_endpoint.specs.Calls as endpoint_calls
use Rattle.dt_service_model.specs.Turns.{Node}
use Rattle.dt_service.specs.Calls as service_calls
use Rattle.dt_endpoint.specs.Endpoints.{EndpointValue}
use Rattle.dt_early.specs.declared.early_data.Data.{Data as DataValue}

pub record Early : Type 0 where
  pub link : ℕ
  pub flow : Flow
  pub number : ℕ
  pub octets : List ℕ
  -- its life as it came, and how long it had waited then
  pub life : ℕ
  pub waited : ℕ
  pub since : ℕ

pub record EarlyShelf : Type 0 where
  -- how many datagrams it holds at most, and of one flow
  pub most : ℕ
  pub of_flow : ℕ
  -- the one that was put there first stands in front
  pub held : List Early

abbrev pub empty_shelf : EarlyShelf
empty_shelf = record { most = 0; of_flow = 0; held = [] }

abbrev pub with_held : List Early → EarlyShelf → EarlyShelf
with_held held s = record { most = s.most; of_flow = s.of_flow; held = held }

-- ITS TIME ON THE SHELF, in which one millisecond more stands for the two readings of the clock, is added to what it had waited, up to 2^32 - 1: no life is longer. It is alive while it has more life than that
abbrev pub most_waited : ℕ
most_waited = 4294967295

abbrev pub waited_by : ℕ → Early → ℕ
waited_by now h = min (h.waited + (now - h.since) + 1) most_waited

abbrev pub is_alive : ℕ → Early → Bool
is_alive now h = nat_lt (now - h.since) (h.life - h.waited - 1)

-- what has no life left is gone
abbrev pub aged : ℕ → EarlyShelf → EarlyShelf
aged now s = with_held (filter (is_alive now) s.held) s

-- THE DATA IN A DATAGRAM that comes to a node and isn't refused
abbrev pub data_of : (from me : ℕ) → PacketValue → (life : ℕ) → Option DataValue
data_of from me (Data from_port to_port number drf begin end octets) life = Some (record { flow = flow_of from me (Data from_port to_port number drf begin end octets); number = number; begins = drf; life = life })
data_of from me (Ack from_port to_port number window) life = None
data_of from me (Meet from_port to_port number) life = None
data_of from me (Close from_port to_port number) life = None

abbrev pub data_read : (from me : ℕ) → Result PacketValue LayoutFault → (life : ℕ) → Option DataValue
data_read from me (Ok v) life = data_of from me v life
data_read from me (Err fault) life = None

abbrev pub data_in : (me : ℕ) → List ℕ → Option DataValue
data_in me octets = let d = gram_in octets in if d.to == me then data_read d.from me (packet_read d) (life_of octets) else None

abbrev pub data_unless : Option Received → (me : ℕ) → List ℕ → Option DataValue
data_unless (Some refusal) me octets = None
data_unless None me octets = data_in me octets

abbrev pub data_at : EndpointValue → (link : ℕ) → List ℕ → (waited : ℕ) → Option DataValue
data_at e link octets waited = data_unless (arrive_refusal link octets waited e) e.state.host.me octets

-- IT CAME TOO EARLY: a receive record stands that expects a number below it, and it begins no run
abbrev pub is_above : Relation → Bool
is_above Below = false
is_above Equal = false
is_above Above = true

abbrev pub is_ahead : (expected : Option ℕ) → (number : ℕ) → Bool
is_ahead None number = false
is_ahead (Some expected) number = is_above (relation_of number expected)

abbrev pub expected_at : Host → Flow → Option ℕ
expected_at host f = expected_of (receiver_at host f).standing

abbrev pub is_early : Host → DataValue → Bool
is_early host d = not d.begins && is_ahead (expected_at host d.flow) d.number

-- THERE IS ROOM: for one more of all, for one more of its flow, and none of its flow and number is there
abbrev pub is_of_flow : Flow → Early → Bool
is_of_flow f h = same_flow h.flow f

abbrev pub is_of : Flow → ℕ → Early → Bool
is_of f number h = same_flow h.flow f && (h.number == number)

abbrev pub has_room : Flow → ℕ → EarlyShelf → Bool
has_room f number s = nat_lt (length s.held) s.most && (nat_lt (count_by (is_of_flow f) s.held) s.of_flow && not (list_any (is_of f number) s.held))

abbrev pub may_be_held : Host → Option DataValue → EarlyShelf → Bool
may_be_held host None s = false
may_be_held host (Some d) s = is_early host d && has_room d.flow d.number s

-- IT IS PUT THERE, last
abbrev pub early_of : DataValue → (now link : ℕ) → List ℕ → (waited : ℕ) → Early
early_of d now link octets waited = record { link = link; flow = d.flow; number = d.number; octets = octets; life = d.life; waited = waited; since = now }

abbrev pub with_early : Early → EarlyShelf → EarlyShelf
with_early h s = with_held (s.held ++ h ∷ []) s

-- WHAT IS READY IS TAKEN: the first of a flow that is alive and isn't ahead of what is expected any more. The others stay, in their order
abbrev pub is_ready : (expected : Option ℕ) → (now : ℕ) → Flow → Early → Bool
is_ready expected now f h = same_flow h.flow f && (not (is_ahead expected h.number) && is_alive now h)

abbrev pub pick : (Early → Bool) → List Early → Option Early × List Early
pick test [] = (None, [])
pick test (h ∷ hs) = if test h then (Some h, hs) else ((pick test hs).0, h ∷ (pick test hs).1)

abbrev pub ready : Host → (now : ℕ) → Flow → EarlyShelf → Option Early × EarlyShelf
ready host now f s = let r = pick (is_ready (expected_at host f) now f) s.held in (r.0, with_held r.1 s)

-- THE CALLS THAT ARE MADE of what is behind the shelf, an endpoint or a service, whose host is this and which takes a datagram so
module _ {V : Type 0} (host : V → Host) (arrives : Received → (now link : ℕ) → List ℕ → (waited : ℕ) → V → V → Type 0) where
  -- each that is ready is handed in, once, with its time on the shelf, until none is. The answer is that of the datagram that came, or that a call found no memory, which is the last
  pub data Replays (now : ℕ) (flow : Flow) (first : Received) : Received → EarlyShelf → V → EarlyShelf → V → Type 0 where
    ends : {s : EarlyShelf} {v : V} → (ready (host v) now flow s).0 ≡ None → Replays now flow first first s v s v
    again : {last : Received} {s t : EarlyShelf} {v w : V} (h : Early) (got : Received) (mid : V) → (ready (host v) now flow s).0 ≡ Some h → arrives got now h.link h.octets (waited_by now h) v mid → Replays now flow first last (ready (host v) now flow s).1 mid t w → Replays now flow first last s v t w
    breaks : {s : EarlyShelf} {v w : V} (h : Early) → (ready (host v) now flow s).0 ≡ Some h → arrives arrived.NoMemory now h.link h.octets (waited_by now h) v w → Replays now flow first arrived.NoMemory s v (ready (host v) now flow s).1 w

  -- a datagram without data for this node makes none ready
  abbrev pub ReplaysFor : Option DataValue → (now : ℕ) → (first last : Received) → EarlyShelf → V → EarlyShelf → V → Type 0
  ReplaysFor None now first last s v t w = (last ≡ first) × (t ≡ s) × (w ≡ v)
  ReplaysFor (Some d) now first last s v t w = Replays now d.flow first last s v t w

  abbrev pub HandsIn : Option DataValue → Received → (now link : ℕ) → List ℕ → (waited : ℕ) → EarlyShelf → V → EarlyShelf → V → Type 0
  HandsIn brought answer now link octets waited s v t w = (first : Received) × (mid : V) × arrives first now link octets waited v mid × ReplaysFor brought now first answer s mid t w

  -- A DATAGRAM COMES. One that came too early is held where there is room, and nothing is called: it was answered for as if it had come. Where no memory was found for that, it is handed in as each other is
  abbrev pub ArrivesIf : (held : Bool) → Option DataValue → Received → (now link : ℕ) → List ℕ → (waited : ℕ) → EarlyShelf → V → EarlyShelf → V → Type 0
  ArrivesIf true (Some d) answer now link octets waited s v t w = (answer ≡ arrived.Done) × (t ≡ with_early (early_of d now link octets waited) s) × (w ≡ v)
  ArrivesIf held brought answer now link octets waited s v t w = HandsIn brought answer now link octets waited s v t w

  abbrev pub Arrives : Option DataValue → Received → (now link : ℕ) → List ℕ → (waited : ℕ) → EarlyShelf → V → EarlyShelf → V → Type 0
  Arrives brought answer now link octets waited s v t w = (found : Bool) × ArrivesIf (may_be_held (host v) brought s && found) brought answer now link octets waited s v t w

-- AN ENDPOINT, AND A SERVICE, behind a shelf that has let go what has no life left
abbrev pub host_of : EndpointValue → Host
host_of e = e.state.host

abbrev pub host_of_service : Node → Host
host_of_service n = n.endpoint.state.host

abbrev pub ShelfArrives : Received → (now link : ℕ) → List ℕ → (waited : ℕ) → EarlyShelf → EndpointValue → EarlyShelf → EndpointValue → Type 0
ShelfArrives answer now link octets waited s e t f = Arrives host_of endpoint_calls.Arrives (data_at e link octets waited) answer now link octets waited (aged now s) e t f

abbrev pub ShelfServes : Received → (now link : ℕ) → List ℕ → (waited : ℕ) → EarlyShelf → Node → EarlyShelf → Node → Type 0
ShelfServes answer now link octets waited s n t m = Arrives host_of_service service_calls.Arrives (data_at n.endpoint link octets waited) answer now link octets waited (aged now s) n t m

-- whether it was held, and the shelf then
abbrev pub Keeps : (held : Bool) → Option DataValue → Host → (now link : ℕ) → List ℕ → (waited : ℕ) → EarlyShelf → EarlyShelf → Type 0
Keeps true (Some d) host now link octets waited s t = (may_be_held host (Some d) s ≡ true) × (t ≡ with_early (early_of d now link octets waited) s)
Keeps true None host now link octets waited s t = ⊥
Keeps false brought host now link octets waited s t = t ≡ s
