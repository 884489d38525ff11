-- What holds of each report that a script tells: of scripts in a row, and of what relays report.
use Rattle.std.proofs.Common.{ℕ, zero, suc, ◌==◌, Bool, true, false, if◌then◌else◌, List, [], ◌∷◌, length, Option, Some, None, Result, Ok, Err}
use Rattle.dt_units.specs.declared.parameters.Params.{Params}
use Rattle.dt_units.specs.declared.endpoints.Flow.{Flow}
use Rattle.dt_layout.specs.declared.faults.LayoutFault.{LayoutFault}
use Rattle.dt_layout.specs.Carried.{to_of}
use Rattle.dt_layout.specs.Reading.{gram_in, packet_read}
use Rattle.dt_layout.specs.Spelling.{PacketValue, Data, Ack, Meet, Close}
use Rattle.dt_reports.specs.declared.reports.Report.TheVariants as report
use Rattle.dt_reports.specs.Told.{Told}
use Rattle.dt_flow_model.specs.declared.arrivals.Arrived.{Arrived}
use Rattle.dt_flow_model.specs.declared.arrivals.Arrived.TheVariants as arrived
use Rattle.dt_flow_model.specs.Frames.{flow_of, number_in, reply_frame}
use Rattle.dt_world_model.specs.declared.links.Entered.{Entered}
use Rattle.dt_world_model.specs.declared.links.Entered.TheVariants.{Queued, NoRoute, Full}
use Rattle.dt_world_model.specs.Host.{Host, arrive, told_arrival, told_dropped, window_in}
use Rattle.dt_world_model.specs.Relay.{Expired, Goes, Left, Out, Parcel, Relay, enter, leave, with_outs}
use Rattle.dt_world_model.specs.Script.{Script, Done, Tell, Ask, Hand, ◌>>=◌}
use Rattle.dt_world_model.specs.Station.{Event, Station, come, come_in, deliver, flush, flush_at, flush_entered, flush_links, flush_on, flush_turns, happen, pass_on, send_off, settle_station, station_event, station_with}
use Rattle.dt_world_laws.specs.Tellings.{AllTold}

pub told_then : {T A B : Type 0} (P : Told → Type 0) (s : Script T A) (k : A → Script T B) → AllTold P s → ((a : A) → AllTold P (k a)) → AllTold P (s >>= k)
told_then P (Done a) k h on = on a
told_then P (Tell r s) k h on = (h.0, told_then P s k h.1 on)
told_then P (Ask host octets s) k h on = λ t. told_then P (s t) k (h t) on
told_then P (Hand link parcel s) k h on = told_then P s k h on

pub told_weaker : {T A : Type 0} (P Q : Told → Type 0) (s : Script T A) → ((r : Told) → P r → Q r) → AllTold P s → AllTold Q s
told_weaker P Q (Done a) weaker h = tt
told_weaker P Q (Tell r s) weaker h = (weaker r h.0, told_weaker P Q s weaker h.1)
told_weaker P Q (Ask host octets s) weaker h = λ t. told_weaker P Q (s t) weaker (h t)
told_weaker P Q (Hand link parcel s) weaker h = told_weaker P Q s weaker h

-- it holds of all that a relay reports
pub record OfRelays (P : Told → Type 0) : Type 0 where
  pub put : (link life : ℕ) → P (report.Put link life)
  pub expired : (link : ℕ) → P (report.ExpiredOut link)
  pub no_route : (to : ℕ) → P (report.NoRoute to)
  pub full : (link : ℕ) → P (report.Full link)

module _ {T : Type 0} (P : Told → Type 0) (relays : OfRelays P) where
  left_told : (again : Out T → Script T (Out T)) (r : Option (Left T) × Out T) → ((out : Out T) → AllTold P (again out)) → AllTold P (flush_on again r)
  left_told again (None, out) on = tt
  left_told again (Some Expired, out) on = (relays.expired _, on out)
  left_told again (Some (Goes parcel), out) on = (relays.put _ _, on out)

  turns_told : (most now : ℕ) (out : Out T) → AllTold P (flush_turns most now out)
  turns_told zero now out = tt
  turns_told (suc most) now out = left_told (flush_turns most now) (leave now out) (turns_told most now)

  at_case : (here : Bool) (link now : ℕ) (out : Out T) (outs : List (Out T)) → AllTold P (flush_at link now outs) → AllTold P (if here then (flush now out >>= λ after. Done (after ∷ outs)) else (flush_at link now outs >>= λ rest. Done (out ∷ rest)))
  at_case true link now out outs h = told_then P (flush now out) (λ after. Done (after ∷ outs)) (turns_told (length out.waits) now out) (λ after. tt)
  at_case false link now out outs h = told_then P (flush_at link now outs) (λ rest. Done (out ∷ rest)) h (λ rest. tt)

  at_told : (link now : ℕ) (outs : List (Out T)) → AllTold P (flush_at link now outs)
  at_told link now [] = tt
  at_told link now (out ∷ outs) = at_case (out.link == link) link now out outs (at_told link now outs)

  pub links_told : (now : ℕ) (links : List ℕ) (outs : List (Out T)) → AllTold P (flush_links now links outs)
  links_told now [] outs = tt
  links_told now (link ∷ links) outs = told_then P (flush_at link now outs) (λ rest. flush_links now links rest) (at_told link now outs) (λ rest. links_told now links rest)

  entered_told : (now : ℕ) (entered : Entered) (relay : Relay T) → AllTold P (flush_entered now (entered, relay))
  entered_told now (Queued link) relay = told_then P (flush_at link now relay.outs) (λ outs. Done (with_outs relay outs)) (at_told link now relay.outs) (λ outs. tt)
  entered_told now (NoRoute to) relay = (relays.no_route to, tt)
  entered_told now (Full link) relay = (relays.full link, tt)

  pub passed_told : (now : ℕ) (parcel : Parcel T) (relay : Relay T) → AllTold P (pass_on parcel now relay)
  passed_told now parcel relay = let r = enter parcel now relay in entered_told now r.0 r.1

  -- and with the host that stays
  pub passed_with_told : (now : ℕ) (parcel : Parcel T) (host : Host) (relay : Relay T) → AllTold P (pass_on parcel now relay >>= λ after. Done (station_with host after))
  passed_with_told now parcel host relay = told_then P (pass_on parcel now relay) (λ after. Done (station_with host after)) (passed_told now parcel relay) (λ after. tt)

  pub off_told : (now : ℕ) (host : Host) (frame : Option (List ℕ)) (relay : Relay T) → AllTold P (send_off now host frame relay)
  off_told now host None relay = tt
  off_told now host (Some octets) relay = λ t. passed_with_told now (record { octets = octets; tag = t }) host relay

-- IT HOLDS OF ALL that a station reports of a packet that comes
pub record OfArrivals (P : Told → Type 0) : Type 0 where
  pub relays : OfRelays P
  pub expired : (link : ℕ) → P (report.ExpiredIn link)
  pub bad : (fault : LayoutFault) → P (report.Bad fault)
  pub quiet : (until : ℕ) → P (report.Quiet until)
  pub accepted : (f : Flow) (number count : ℕ) (run : Bool) → P (report.Accepted f number count run)
  pub replied : (f : Flow) (number window : ℕ) → P (report.Replied f number window)
  pub dropped : (f : Flow) (number : ℕ) → P (report.Dropped f number)
  pub ignored : (f : Flow) (number window : ℕ) → P (report.Ignored f number window)
  pub settled : (f : Flow) (count window : ℕ) → P (report.Settled f count window)
  pub closing : (f : Flow) (number : ℕ) → P (report.Closing f number)

module _ (P : Told → Type 0) (arrivals : OfArrivals P) where
  dropped_told : (f : Flow) (v : PacketValue) → P (told_dropped f v)
  dropped_told f (Data from_port to_port number drf begin end octets) = arrivals.dropped f number
  dropped_told f (Ack from_port to_port number window) = arrivals.ignored f number window
  dropped_told f (Meet from_port to_port number) = arrivals.dropped f number
  dropped_told f (Close from_port to_port number) = arrivals.dropped f number

  answer_told : (f : Flow) (v : PacketValue) (a : Arrived) → P (told_arrival f v a)
  answer_told f v (arrived.Quiet until) = arrivals.quiet until
  answer_told f v (arrived.Accepted run count) = arrivals.accepted f (number_in v) count run
  answer_told f v (arrived.Replied number window) = arrivals.replied f number window
  answer_told f v arrived.Dropped = dropped_told f v
  answer_told f v (arrived.Acked count) = arrivals.settled f count (window_in v)
  answer_told f v (arrived.Closing number) = arrivals.closing f number

  module _ {T : Type 0} (p : Params) (now : ℕ) where
    deliver_told : (from : ℕ) (r : Result PacketValue LayoutFault) (st : Station T) → AllTold P (deliver p now from r st)
    deliver_told from (Err fault) st = (arrivals.bad fault, tt)
    deliver_told from (Ok v) st =
        let f = flow_of from st.host.me v in
        let r = arrive p now from v st.host in
        (answer_told f v r.0, off_told P arrivals.relays now r.1 (reply_frame p f r.0) st.relay)

    come_told : (mine : Bool) (parcel : Parcel T) (st : Station T) → AllTold P (come p now mine parcel st)
    come_told true parcel st = deliver_told (gram_in parcel.octets).from (packet_read (gram_in parcel.octets)) st
    come_told false parcel st = passed_with_told P arrivals.relays now parcel st.host st.relay

    pub comes_in_told : (link : ℕ) (o : Option (Parcel T)) (st : Station T) → AllTold P (come_in p now link o st)
    comes_in_told link None st = (arrivals.expired link, tt)
    comes_in_told link (Some parcel) st = come_told (to_of parcel.octets == st.host.me) parcel st

-- AN EVENT, of which it holds before, in the midst and after
pub event_told : {T : Type 0} (P : Told → Type 0) (p : Params) (now : ℕ) (e : Event T) (st : Station T) → ((other : Station T) → AllTold P (settle_station p now other)) → ((before : Station T) → AllTold P (happen p now e before)) → AllTold P (station_event p now e st)
event_told P p now e st settles happens =
    told_then P (settle_station p now st) (λ before. happen p now e before >>= λ after. settle_station p now after) (settles st)
    (λ before. told_then P (happen p now e before) (λ after. settle_station p now after) (happens before) settles)
