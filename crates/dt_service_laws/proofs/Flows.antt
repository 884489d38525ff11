-- The flows at which a node notes something unread are flows: each came in a packet of the network.
use Rattle.std.proofs.Common.{ℕ, zero, suc, ◌<◌, ◌^◌, ◌≡◌, ◌==◌, Bool, true, false, List, [], ◌∷◌, ◌++◌, length, Option, Some, None, Result, Ok, refl, sym, subst, ◌∙◌, arith}
use Rattle.std.specs.Prelude.{All, cond, fold, is_some, nat_le, take}
use Rattle.std.specs.List.{list_any}
use Rattle.std.proofs.lemmas.Bool.Decides.{nat_tests}
use Rattle.std.proofs.lemmas.List.Elements.{All-append, All-cons, All-head, All-nil, All-tail}
use Rattle.dt_items.specs.declared.piece.Piece.{Piece as ItemPiece}
use Rattle.dt_items.specs.Unread.{marked, octets_of, piece_told}
use Rattle.dt_units.specs.declared.endpoints.Flow.{Flow}
use Rattle.dt_units.specs.declared.parameters.Params.{Params}
use Rattle.dt_units.specs.Flows.{IsFlow}
use Rattle.dt_layout.specs.declared.faults.LayoutFault.{LayoutFault}
use Rattle.dt_layout.specs.Spelling.{Ack, Carries, Close, Data, DeltagramValue, HasPorts, Meet, PacketValue}
use Rattle.dt_layout.specs.Reading.{gram_in, packet_in, packet_read}
use Rattle.dt_layout.specs.Carried.{IsGram, life_of, lowered, to_of, with_less_life}
use Rattle.dt_layout.proofs.CarriedLemmas.{gram_in_is, lowered_in, lowers, to_of-gram_in}
use Rattle.dt_layout.proofs.PackLemmas.{packet_is_read}
use Rattle.dt_reports.specs.declared.faults.Refusal.{Refusal}
use Rattle.dt_reports.specs.declared.reports.Report.TheVariants as report
use Rattle.dt_reports.specs.Told.{Told}
use Rattle.dt_flow_model.specs.declared.arrivals.Arrived.{Arrived}
use Rattle.dt_flow_model.specs.declared.arrivals.Arrived.TheVariants as arrived
use Rattle.dt_flow_model.specs.Frames.{flow_of, reply_frame, value_in}
use Rattle.dt_world_laws.specs.Tellings.{AllTold}
use Rattle.dt_world_laws.proofs.Tellings.{OfRelays, event_told, off_told, passed_with_told, told_weaker}
use Rattle.dt_world_model.proofs.Tables.{nat_is}
use Rattle.dt_world_model.specs.Host.{arrive, read_octets, send_octets, told_arrival, told_dropped}
use Rattle.dt_world_model.specs.Relay.{Parcel, charge_of, lower_parcel}
use Rattle.dt_world_model.specs.Script.{Ask, Done, Hand, Script, Tell}
use Rattle.dt_world_model.specs.Station.{Arrive, Event, Read, Send, Station, Tick, come, come_in, deliver, happen, settle_station, station_event, told_piece, told_sent}
use Rattle.dt_world_model.specs.Tables.{same_flow}
use Rattle.dt_calls_laws.proofs.Silence.{settle_silent}
use Rattle.dt_calls_laws.specs.Silence.{IsSilentTold}
use Rattle.dt_endpoint.specs.Acts.{acts_of, plain, reports_in}
use Rattle.dt_endpoint.specs.Endpoints.{after_event, script_of}
use Rattle.dt_endpoint.specs.Hearing.{kept}
use Rattle.dt_service_model.specs.CallBook.{CallBook, kind_in}
use Rattle.dt_service_model.specs.Hearing.{Accepts, GivesUp, Heard, NoMatter, Settles, hear, hear_as, heard, with_flow}
use Rattle.dt_service_model.specs.Turns.{Node, happens}

-- WHAT IS TOLD: octets are accepted on a flow
abbrev pub AcceptsFlow : Heard → Type 0
AcceptsFlow (Settles f count) = Unit {0}
AcceptsFlow (GivesUp f count) = Unit {0}
AcceptsFlow (Accepts f) = IsFlow f
AcceptsFlow NoMatter = Unit {0}

abbrev pub TellsFlow : Told → Type 0
TellsFlow r = AcceptsFlow (heard r)

kept_tells : (r : Told) → TellsFlow r → TellsFlow (kept r)
kept_tells (report.Read f run begin end octets) h = tt
kept_tells other h = h

-- A NODE is to read flows, and flows alone come with the reports that it hasn't heard
pub record IsReading (x : Node) : Type 0 where
  pub unread : All IsFlow x.book.unread
  pub waiting : All TellsFlow x.endpoint.reports

with_flow_flows : (b : Bool) (f : Flow) (flows : List Flow) → IsFlow f → All IsFlow flows → All IsFlow (cond b flows (flows ++ f ∷ []))
with_flow_flows true f flows flow all = all
with_flow_flows false f flows flow all = All-append IsFlow flows (f ∷ []) all (All-cons IsFlow f [] flow (All-nil IsFlow))

accepts_flows : (b : Bool) (f : Flow) (h : CallBook) → IsFlow f → All IsFlow h.unread → All IsFlow (cond b (record h { unread = with_flow f h.unread }) h).unread
accepts_flows true f h flow all = with_flow_flows (list_any (λ (g : Flow). same_flow g f) h.unread) f h.unread flow all
accepts_flows false f h flow all = all

heard_flows : (what : Heard) (h : CallBook) → AcceptsFlow what → All IsFlow h.unread → All IsFlow (hear_as what h).unread
heard_flows (Settles f count) h flow all = all
heard_flows (GivesUp f count) h flow all = all
heard_flows (Accepts f) h flow all = accepts_flows (is_some (kind_in f.to_port h.ports)) f h flow all
heard_flows NoMatter h flow all = all

pub all_heard_flows : (told : List Told) (h : CallBook) → All TellsFlow told → All IsFlow h.unread → All IsFlow (fold hear h told).unread
all_heard_flows [] h tells all = all
all_heard_flows (r ∷ told) h tells all = all_heard_flows told (hear h r) (All-tail TellsFlow r told tells) (heard_flows (heard r) h (All-head TellsFlow r told tells) all)

pub script_flows : {A : Type 0} (s : Script (Unit {0}) A) → AllTold TellsFlow s → All TellsFlow (reports_in (acts_of s))
script_flows (Done a) h = All-nil TellsFlow
script_flows (Tell r s) h = All-cons TellsFlow (kept r) (reports_in (acts_of s)) (kept_tells r h.0) (script_flows s h.1)
script_flows (Ask host octets s) h = script_flows (s tt) (h tt)
script_flows (Hand link parcel s) h = script_flows s h

-- the reports of a first part of it
pub some_flows : {A : Type 0} (count : ℕ) (s : Script (Unit {0}) A) → AllTold TellsFlow s → All TellsFlow (reports_in (take count (acts_of s)))
some_flows count (Ask host octets s) h = some_flows count (s tt) (h tt)
some_flows zero s h = All-nil TellsFlow
some_flows (suc count) (Done a) h = All-nil TellsFlow
some_flows (suc count) (Tell r s) h = All-cons TellsFlow (kept r) (reports_in (take count (acts_of s))) (kept_tells r h.0) (some_flows count s h.1)
some_flows (suc count) (Hand link parcel s) h = some_flows count s h

pub happens_flows : (now : ℕ) (event : Event (Unit {0})) (x : Node) → AllTold TellsFlow (script_of now event x.endpoint) → IsReading x → IsReading (happens now event x)
happens_flows now event x tells h = record {
  unread = all_heard_flows (after_event now event x.endpoint).reports x.book (All-append TellsFlow x.endpoint.reports (reports_in (acts_of (script_of now event x.endpoint))) h.waiting (script_flows (script_of now event x.endpoint) tells)) h.unread;
  waiting = All-nil TellsFlow;
}

-- EVENTS of which no packet is one accept nothing
silent_tells : (r : Told) → IsSilentTold r → TellsFlow r
silent_tells (report.Accepted f number count run) h = absurd h
silent_tells other h = tt

settle_tells : (p : Params) (now : ℕ) (st : Station (Unit {0})) → AllTold TellsFlow (settle_station p now st)
settle_tells p now st = told_weaker IsSilentTold TellsFlow (settle_station p now st) silent_tells (settle_silent p now st)

event_tells : (p : Params) (now : ℕ) (event : Event (Unit {0})) (st : Station (Unit {0})) → ((before : Station (Unit {0})) → AllTold TellsFlow (happen p now event before)) → AllTold TellsFlow (station_event p now event st)
event_tells p now event st happens = event_told TellsFlow p now event st (λ other. settle_tells p now other) happens

sent_tells : (f : Flow) (count : ℕ) (o : Option Refusal) → TellsFlow (told_sent f count o)
sent_tells f count None = tt
sent_tells f count (Some fault) = tt

piece_tells : (f : Flow) (octets : List ℕ) (o : Option ItemPiece) → TellsFlow (told_piece f octets o)
piece_tells f octets None = tt
piece_tells f octets (Some piece) = tt

pub send_tells : (p : Params) (now : ℕ) (f : Flow) (octets : List ℕ) (begin end : Bool) (st : Station (Unit {0})) → AllTold TellsFlow (station_event p now (Send f octets begin end) st)
send_tells p now f octets begin end st = event_tells p now (Send f octets begin end) st (λ before. (sent_tells f (length octets) (send_octets p now f (marked octets begin end false) before.host).0, tt))

pub read_tells : (p : Params) (now : ℕ) (f : Flow) (most : ℕ) (st : Station (Unit {0})) → AllTold TellsFlow (station_event p now (Read f most) st)
read_tells p now f most st = event_tells p now (Read f most) st (λ before. let r = read_octets p now f most before.host in (piece_tells f (octets_of r.0) (piece_told r.0), tt))

pub tick_tells : (p : Params) (now : ℕ) (st : Station (Unit {0})) → AllTold TellsFlow (station_event p now Tick st)
tick_tells p now st = event_tells p now Tick st (λ before. tt)

-- A PACKET of the network
pub record IsParcel (octets : List ℕ) : Type 0 where
  pub gram : IsGram octets
  pub carries : Carries (gram_in octets) (value_in octets)

lowered_parcel : (by : ℕ) (octets : List ℕ) → by < life_of octets → IsParcel octets → IsParcel (lowered by octets)
lowered_parcel by octets below h =
    let less : gram_in (lowered by octets) ≡ with_less_life by (gram_in octets) = gram_in_is _ _ (lowered_in by octets h.gram below) in
    record {
      gram = (lowers by octets h.gram below).reads;
      carries = subst (λ (d : DeltagramValue). Carries d (packet_in d.body)) (sym less) (record { protocol = h.carries.protocol; pack = h.carries.pack });
    }

ports_flow : (from me : ℕ) (v : PacketValue) → from < 2 ^ 32 → me < 2 ^ 32 → HasPorts v → IsFlow (flow_of from me v)
ports_flow from me (Data from_port to_port number drf begin end octets) a b ports = record { from = a; from_port = ports.0; to = b; to_port = ports.1 }
ports_flow from me (Ack from_port to_port number window) a b ports = record { from = b; from_port = ports.1; to = a; to_port = ports.0 }
ports_flow from me (Meet from_port to_port number) a b ports = record { from = a; from_port = ports.0; to = b; to_port = ports.1 }
ports_flow from me (Close from_port to_port number) a b ports = record { from = a; from_port = ports.0; to = b; to_port = ports.1 }

dropped_tells : (f : Flow) (v : PacketValue) → TellsFlow (told_dropped f v)
dropped_tells f (Data from_port to_port number drf begin end octets) = tt
dropped_tells f (Ack from_port to_port number window) = tt
dropped_tells f (Meet from_port to_port number) = tt
dropped_tells f (Close from_port to_port number) = tt

answer_tells : (f : Flow) (v : PacketValue) (a : Arrived) → IsFlow f → TellsFlow (told_arrival f v a)
answer_tells f v (arrived.Quiet until) flow = tt
answer_tells f v (arrived.Accepted run count) flow = flow
answer_tells f v (arrived.Replied number window) flow = tt
answer_tells f v arrived.Dropped flow = dropped_tells f v
answer_tells f v (arrived.Acked count) flow = tt
answer_tells f v (arrived.Closing number) flow = tt

relays_tell : OfRelays TellsFlow
relays_tell = record { put = λ link life. tt; expired = λ link. tt; no_route = λ to. tt; full = λ link. tt }

pub lt_by : (m n : ℕ) → nat_le m n ≡ false → n < m
lt_by m n h = grind (arith, nat_tests)

module _ (p : Params) (now : ℕ) where
  deliver_tells : (from : ℕ) (v : PacketValue) (r : Result PacketValue LayoutFault) (st : Station (Unit {0})) → r ≡ Ok v → IsFlow (flow_of from st.host.me v) → AllTold TellsFlow (deliver p now from r st)
  deliver_tells from v r st is flow =
      subst (λ (r : Result PacketValue LayoutFault). AllTold TellsFlow (deliver p now from r st)) (sym is)
      (let f = flow_of from st.host.me v in
      let r = arrive p now from v st.host in
      (answer_tells f v r.0 flow, off_told TellsFlow relays_tell now r.1 (reply_frame p f r.0) st.relay))

  come_tells : (mine : Bool) (parcel : Parcel (Unit {0})) (st : Station (Unit {0})) → (to_of parcel.octets == st.host.me) ≡ mine → IsParcel parcel.octets → AllTold TellsFlow (come p now mine parcel st)
  come_tells true parcel st is h =
      let d = gram_in parcel.octets in
      let to : d.to ≡ st.host.me = sym (to_of-gram_in parcel.octets) ∙ nat_is _ _ is in
      deliver_tells d.from (value_in parcel.octets) (packet_read d) st (packet_is_read d (value_in parcel.octets) h.carries)
      (ports_flow d.from st.host.me (value_in parcel.octets) h.gram.fits.from (subst (λ (m : ℕ). m < 2 ^ 32) to h.gram.fits.to) h.carries.pack.ports)
  come_tells false parcel st is h = passed_with_told TellsFlow relays_tell now parcel st.host st.relay

  admitted_tells : (link charge : ℕ) (parcel : Parcel (Unit {0})) (st : Station (Unit {0})) → IsParcel parcel.octets → (b : Bool) → nat_le (life_of parcel.octets) charge ≡ b → AllTold TellsFlow (come_in p now link (cond b None (Some (lower_parcel charge parcel))) st)
  admitted_tells link charge parcel st h true is = (tt, tt)
  admitted_tells link charge parcel st h false is = come_tells (to_of (lowered charge parcel.octets) == st.host.me) (lower_parcel charge parcel) st refl (lowered_parcel charge parcel.octets (lt_by _ _ is) h)

  pub arrive_tells : (link waited : ℕ) (octets : List ℕ) (st : Station (Unit {0})) → waited < life_of octets → IsParcel octets → AllTold TellsFlow (station_event p now (Arrive link (plain (lowered waited octets))) st)
  arrive_tells link waited octets st below h =
      let parcel = plain (lowered waited octets) in
      event_tells p now (Arrive link parcel) st
      (λ before. let charge = charge_of link before.relay.ins in admitted_tells link charge parcel before (lowered_parcel waited octets below h) (nat_le (life_of parcel.octets) charge) refl)
