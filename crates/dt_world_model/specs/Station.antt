-- What a station does in one event: it settles, does the event, and settles again.
use Rattle.std.specs.Prelude.{Bool, true, false, ◌==◌, ℕ, zero, suc, List, [], ◌∷◌, length, map, Option, Some, None, Result, Ok, Err, if◌then◌else◌}
use Rattle.dt_items.specs.declared.piece.Piece.{Piece}
use Rattle.dt_items.specs.Unread.{marked, octets_of, piece_told}
use Rattle.dt_units.specs.declared.parameters.Params.{Params}
use Rattle.dt_units.specs.declared.endpoints.Flow.{Flow}
use Rattle.dt_units.specs.Moments.{earlier}
use Rattle.dt_layout.specs.declared.faults.LayoutFault.{LayoutFault}
use Rattle.dt_layout.specs.Spelling.{PacketValue}
use Rattle.dt_layout.specs.Reading.{gram_in, packet_read}
use Rattle.dt_layout.specs.Carried.{life_of, to_of}
use Rattle.dt_reports.specs.declared.faults.Refusal.{Refusal}
use Rattle.dt_reports.specs.declared.reports.Report.TheVariants as report
use Rattle.dt_reports.specs.Told.{Told, read_told}
use Rattle.dt_flow_model.specs.Frames.{flow_of, reply_frame}
use Rattle.dt_world_model.specs.declared.links.Entered.{Entered}
use Rattle.dt_world_model.specs.declared.links.Entered.TheVariants.{Queued, NoRoute, Full}
use Rattle.dt_world_model.specs.Host.{Host, Turn, next_turn, work, send_octets, read_octets, arrive, told_arrival, host_wake}
use Rattle.dt_world_model.specs.Relay.{Parcel, Out, Relay, Left, Goes, Expired, leave, with_outs, enter, admit, relay_wake}
use Rattle.dt_world_model.specs.Script.{Script, Done, Tell, Ask, Hand, ◌>>=◌}

pub record Station (T : Type 0) : Type 0 where
  pub host : Host
  pub relay : Relay T

abbrev pub station_with : {T : Type 0} → Host → Relay T → Station T
station_with host relay = record { host = host; relay = relay }

-- A QUEUE IS FLUSHED: packets leave it until none does. Each is reported, and handed out after its line. One that waits is taken each time, so there are no more turns than packets that wait.
abbrev pub flush_on : {T : Type 0} → (Out T → Script T (Out T)) → Option (Left T) × Out T → Script T (Out T)
flush_on again (None, out) = Done out
flush_on again (Some Expired, out) = Tell (report.ExpiredOut out.link) (again out)
flush_on again (Some (Goes parcel), out) = Tell (report.Put out.link (life_of parcel.octets)) (Hand out.link parcel (again out))

abbrev pub flush_turns : {T : Type 0} → ℕ → ℕ → Out T → Script T (Out T)
flush_turns zero now out = Done out
flush_turns (suc most) now out = flush_on (flush_turns most now) (leave now out)

abbrev pub flush : {T : Type 0} → ℕ → Out T → Script T (Out T)
flush now out = flush_turns (length out.waits) now out

-- the queue of one link, and those of some links in order
abbrev pub flush_at : {T : Type 0} → ℕ → ℕ → List (Out T) → Script T (List (Out T))
flush_at link now [] = Done []
flush_at link now (out ∷ outs) =
    if out.link == link then (flush now out >>= λ after. Done (after ∷ outs))
    else (flush_at link now outs >>= λ rest. Done (out ∷ rest))

abbrev pub flush_links : {T : Type 0} → ℕ → List ℕ → List (Out T) → Script T (List (Out T))
flush_links now [] outs = Done outs
flush_links now (link ∷ links) outs = flush_at link now outs >>= λ rest. flush_links now links rest

-- A PACKET IS PASSED ON: it enters the relay, and its link is flushed. One that doesn't enter is reported.
abbrev pub flush_entered : {T : Type 0} → ℕ → Entered × Relay T → Script T (Relay T)
flush_entered now (Queued link, relay) = flush_at link now relay.outs >>= λ outs. Done (with_outs relay outs)
flush_entered now (NoRoute to, relay) = Tell (report.NoRoute to) (Done relay)
flush_entered now (Full link, relay) = Tell (report.Full link) (Done relay)

abbrev pub pass_on : {T : Type 0} → Parcel T → ℕ → Relay T → Script T (Relay T)
pass_on parcel now relay = flush_entered now (enter parcel now relay)

-- a frame that the host made, if it made one, is tagged and passed on
abbrev pub send_off : {T : Type 0} → ℕ → Host → Option (List ℕ) → Relay T → Script T (Station T)
send_off now host None relay = Done (station_with host relay)
send_off now host (Some octets) relay = Ask host octets (λ tag. pass_on (record { octets = octets; tag = tag }) now relay >>= λ after. Done (station_with host after))

-- THE HOST ACTS until no act is due. Each act is reported, and then its frame goes off. Each lowers the work that is left, so there are no more acts than that.
abbrev pub go_on : {T : Type 0} → (Station T → Script T (Station T)) → ℕ → Option Turn → Station T → Script T (Station T)
go_on again now None station = Done station
go_on again now (Some turn) station = Tell turn.told (send_off now turn.host turn.frame station.relay) >>= again

abbrev pub do_turns : {T : Type 0} → ℕ → Params → ℕ → Station T → Script T (Station T)
do_turns zero p now station = Done station
do_turns (suc most) p now station = go_on (do_turns most p now) now (next_turn p now station.host) station

-- TO SETTLE: each link is flushed, in the order of the links, and then the host acts.
abbrev pub settle_station : {T : Type 0} → Params → ℕ → Station T → Script T (Station T)
settle_station p now station =
    flush_links now (map (λ out. out.link) station.relay.outs) station.relay.outs >>= λ outs.
    do_turns (work p now station.host) p now (station_with station.host (with_outs station.relay outs))

-- WHAT HAPPENS to a station
pub data Event (T : Type 0) : Type 0 where
  Send : (flow : Flow) → (octets : List ℕ) → (begin end : Bool) → Event T
  -- a read of at most so many octets
  Read : (flow : Flow) → (most : ℕ) → Event T
  Tick : Event T
  -- a packet comes on a link
  Arrive : (link : ℕ) → (parcel : Parcel T) → Event T

abbrev pub told_sent : Flow → ℕ → Option Refusal → Told
told_sent f count None = report.Took f count
told_sent f count (Some fault) = report.Refused f fault

abbrev pub told_piece : Flow → List ℕ → Option Piece → Told
told_piece f octets None = report.Nothing f
told_piece f octets (Some piece) = read_told f piece.run piece.begin piece.end octets

-- a packet for the host's own node is read and given to the host. Octets that don't read are reported
abbrev pub deliver : {T : Type 0} → Params → ℕ → ℕ → Result PacketValue LayoutFault → Station T → Script T (Station T)
deliver p now from (Err fault) station = Tell (report.Bad fault) (Done station)
deliver p now from (Ok v) station =
    let f = flow_of from station.host.me v in
    let r = arrive p now from v station.host in
    Tell (told_arrival f v r.0) (send_off now r.1 (reply_frame p f r.0) station.relay)

-- a packet for another node is passed on
abbrev pub come : {T : Type 0} → Params → ℕ → Bool → Parcel T → Station T → Script T (Station T)
come p now true parcel station = let d = gram_in parcel.octets in deliver p now d.from (packet_read d) station
come p now false parcel station = pass_on parcel now station.relay >>= λ relay. Done (station_with station.host relay)

abbrev pub come_in : {T : Type 0} → Params → ℕ → ℕ → Option (Parcel T) → Station T → Script T (Station T)
come_in p now link None station = Tell (report.ExpiredIn link) (Done station)
come_in p now link (Some parcel) station = come p now (to_of parcel.octets == station.host.me) parcel station

-- the event itself. A packet that comes is admitted first
abbrev pub happen : {T : Type 0} → Params → ℕ → Event T → Station T → Script T (Station T)
happen p now (Send f octets begin end) station =
    let r = send_octets p now f (marked octets begin end false) station.host in
    Tell (told_sent f (length octets) r.0) (Done (station_with r.1 station.relay))
happen p now (Read f most) station =
    let r = read_octets p now f most station.host in
    Tell (told_piece f (octets_of r.0) (piece_told r.0)) (Done (station_with r.1 station.relay))
happen p now Tick station = Done station
happen p now (Arrive link parcel) station = come_in p now link (admit link parcel station.relay) station

abbrev pub station_event : {T : Type 0} → Params → ℕ → Event T → Station T → Script T (Station T)
station_event p now e station = settle_station p now station >>= λ before. happen p now e before >>= λ after. settle_station p now after

-- The wake: the least moment at which an act is due or a packet may leave.
abbrev pub station_wake : {T : Type 0} → Params → Station T → Option ℕ
station_wake p station = earlier (host_wake p station.host) (relay_wake station.relay.outs)
