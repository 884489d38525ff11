-- An event of the program, as a value without loans; when it may come.
use Rattle.std.specs.Prelude.{◌≡◌, ◌≢◌, ℕ, ◌+◌, ◌<◌, ◌≤◌, ◌++◌, List, drop, length}
use Rattle.dt_items.specs.Unread.{octets_of}
use Rattle.dt_reports.specs.Told.{Told}
use Rattle.dt_units.specs.declared.parameters.Params.{Params}
use Rattle.dt_units.specs.declared.endpoints.Flow.{Flow}
use Rattle.dt_layout.specs.Carried.{IsGram}
use Rattle.dt_flow_model.specs.Acting.{record_for}
use Rattle.dt_flow_model.specs.Keeping.{octets_below, taken_by}
use Rattle.dt_world_model.specs.Host.{Host, read_octets, sender_at}
use Rattle.dt_world_model.specs.Relay.{Parcel}
use Rattle.dt_world_model.specs.Script.{Answers, Plays}
use Rattle.dt_world_model.specs.Station.{Event, Send, Read, Tick, Arrive, Station, settle_station}
use Rattle.dt_station.specs.declared.events.LocalEvent.{LocalEvent}
use Rattle.dt_station.specs.declared.events.LocalEvent.TheVariants as local
use Rattle.dt_station.specs.declared.events.StationEvent.{StationEvent}
use Rattle.dt_station.specs.declared.events.StationEvent.TheVariants as given

-- a read is of at most so many octets
abbrev pub event_seen : {P T : Type 0} → (P → Parcel T) → ℕ → StationEvent P → Event T
event_seen parcel most (given.Send flow octets begin end) = Send flow octets.now begin end
event_seen parcel most (given.Read flow) = Read flow most
event_seen parcel most given.Tick = Tick
event_seen parcel most (given.Arrive link packet) = Arrive link (parcel packet)

-- the same of an event that brings no packet
abbrev pub local_seen : {T : Type 0} → ℕ → LocalEvent → Event T
local_seen most (local.Send flow sent) = Send flow sent.octets.now sent.begin sent.end
local_seen most (local.Read flow) = Read flow most
local_seen most local.Tick = Tick

-- OCTETS MAY BE SENT on a flow: it goes from this node to another, and those that its record has taken can be counted.
pub record MaySendNow (p : Params) (now : ℕ) (host : Host) (flow : Flow) (count : ℕ) : Type 0 where
  pub from : flow.from.0 ≡ host.me
  pub to : flow.to.0 ≢ host.me
  pub some : 1 ≤ count
  pub counted : taken_by (record_for p now (sender_at host flow)) + count < octets_below

-- the same before the station has settled: they can be counted once it has, whatever tags are answered
pub record MaySend {T : Type 0} (p : Params) (now : ℕ) (station : Station T) (flow : Flow) (count : ℕ) : Type 0 where
  pub from : flow.from.0 ≡ station.host.me
  pub to : flow.to.0 ≢ station.host.me
  pub some : 1 ≤ count
  pub counted : Answers (λ (settled : Station T). taken_by (record_for p now (sender_at settled.host flow)) + count < octets_below) (settle_station p now station)

-- AN EVENT MAY HAPPEN, with a buffer of such a length: to a station, and to the host of one that has settled.
abbrev pub MayHappen : {P T : Type 0} → (P → List ℕ) → Params → ℕ → Station T → ℕ → StationEvent P → Type 0
MayHappen octets p now station most (given.Send flow sent begin end) = MaySend p now station flow (length sent.now)
MayHappen octets p now station most (given.Read flow) = 0 < most
MayHappen octets p now station most given.Tick = Unit {0}
MayHappen octets p now station most (given.Arrive link packet) = IsGram (octets packet)

-- the same of an event that brings no packet
abbrev pub MayHappenHere : {T : Type 0} → Params → ℕ → Station T → ℕ → LocalEvent → Type 0
MayHappenHere p now station most (local.Send flow sent) = MaySend p now station flow (length sent.octets.now)
MayHappenHere p now station most (local.Read flow) = 0 < most
MayHappenHere p now station most local.Tick = Unit {0}

abbrev pub MayHappenHereNow : Params → ℕ → Host → ℕ → LocalEvent → Type 0
MayHappenHereNow p now host most (local.Send flow sent) = MaySendNow p now host flow (length sent.octets.now)
MayHappenHereNow p now host most (local.Read flow) = 0 < most
MayHappenHereNow p now host most local.Tick = Unit {0}

-- WHAT STANDS IN THE BUFFER after a read: the octets of the piece at its head, and after them what stood there.
abbrev pub read_into : Params → ℕ → Flow → List ℕ → Host → List ℕ
read_into p now flow old host = let taken = read_octets p now flow (length old) host in octets_of taken.0 ++ drop (length taken.0) old

-- any event but a read leaves the buffer as it was
abbrev pub LeavesBuffer : {P : Type 0} → StationEvent P → List ℕ → List ℕ → Type 0
LeavesBuffer (given.Send flow octets begin end) old new = new ≡ old
LeavesBuffer (given.Read flow) old new = Unit {0}
LeavesBuffer given.Tick old new = new ≡ old
LeavesBuffer (given.Arrive link packet) old new = new ≡ old

abbrev pub LeavesBufferHere : LocalEvent → List ℕ → List ℕ → Type 0
LeavesBufferHere (local.Send flow sent) old new = new ≡ old
LeavesBufferHere (local.Read flow) old new = Unit {0}
LeavesBufferHere local.Tick old new = new ≡ old

-- what an event of the host that has settled does to it
abbrev pub IsBufferNow : Params → ℕ → Host → LocalEvent → List ℕ → List ℕ → Type 0
IsBufferNow p now host (local.Send flow sent) old new = new ≡ old
IsBufferNow p now host (local.Read flow) old new = new ≡ read_into p now flow old host
IsBufferNow p now host local.Tick old new = new ≡ old

module _ {V T : Type 0} (tells : V → Told → V → Type 0) (tags : V → Host → List ℕ → T → V → Type 0) (hands : V → ℕ → Parcel T → V → Type 0) where
  -- A READ FILLED THE BUFFER: with what is read from the host of the station as it has settled before the visitor.
  pub record IsReadInto (p : Params) (now : ℕ) (flow : Flow) (station : Station T) (first : V) (old new : List ℕ) : Type 0 where
    pub settled : Station T
    pub seen : V
    pub settles : Plays tells tags hands (settle_station p now station) first seen settled
    pub filled : new ≡ read_into p now flow old settled.host

  abbrev pub ReadsInto : {P : Type 0} → Params → ℕ → StationEvent P → Station T → V → List ℕ → List ℕ → Type 0
  ReadsInto p now (given.Send flow octets begin end) station first old new = Unit {0}
  ReadsInto p now (given.Read flow) station first old new = IsReadInto p now flow station first old new
  ReadsInto p now given.Tick station first old new = Unit {0}
  ReadsInto p now (given.Arrive link packet) station first old new = Unit {0}

  abbrev pub ReadsIntoHere : Params → ℕ → LocalEvent → Station T → V → List ℕ → List ℕ → Type 0
  ReadsIntoHere p now (local.Send flow sent) station first old new = Unit {0}
  ReadsIntoHere p now (local.Read flow) station first old new = IsReadInto p now flow station first old new
  ReadsIntoHere p now local.Tick station first old new = Unit {0}
