-- A packet that came, and its reply; octets that were sent; a piece that was read.
use Rattle.std.proofs.Common.{◌≡◌, ℕ, ◌+◌, ◌≤◌, ◌++◌, ◌∙◌, Bool, true, false, cond, List, [], ◌∷◌, Option, Some, None, Result, Ok, IfSome, refl, sym, ap, subst, add-one, drop, length, take, unwrap_or, nat_lt, nat_le, arith}
use Rattle.std.specs.Option.{option_and_then}
use Rattle.std.proofs.lemmas.Bool.Decides.{nat_tests}
use Rattle.dt_items.specs.declared.item.Item.{Item}
use Rattle.dt_items.specs.declared.piece.Piece.{Piece}
use Rattle.dt_items.specs.Unread.{octets_of, piece_told}
use Rattle.dt_units.specs.declared.parameters.Params.{Params}
use Rattle.dt_units.specs.declared.endpoints.Flow.{Flow}
use Rattle.dt_layout.specs.Carried.{IsGram}
use Rattle.dt_layout.specs.Spelling.{PacketValue, Data, Ack, Meet, Close}
use Rattle.dt_reports.specs.Told.{Told, read_told}
use Rattle.dt_reports.specs.declared.reports.Report.TheVariants as report
use Rattle.dt_flow_model.specs.declared.arrivals.Arrived.{Arrived}
use Rattle.dt_flow_model.specs.declared.arrivals.Arrived.TheVariants as arrived
use Rattle.dt_flow_model.specs.declared.faults.PutFault.{PutFault}
use Rattle.dt_flow_model.specs.declared.faults.PutFault.TheVariants.{Full}
use Rattle.dt_flow_model.specs.Acting.{record_for}
use Rattle.dt_flow_model.specs.Frames.{flow_of, reply_frame}
use Rattle.dt_flow_model.specs.SendRecord.{SendRecord, fits, held_of, on_ack, put_fault, room_of}
use Rattle.dt_reports.specs.declared.faults.Refusal.{Refusal}
use Rattle.dt_reports.specs.declared.faults.Refusal.TheVariants as refusal
use Rattle.dt_host.specs.Hosts.{HostValue}
use Rattle.dt_world_model.specs.Host.{Host, IsCurrentHost, ack_answer, arrive, comes, send_into, send_octets, sender_at, told_arrival}
use Rattle.dt_world_model.specs.Relay.{Parcel, Relay, with_outs}
use Rattle.dt_world_model.specs.Script.{Concludes, Plays, Tell}
use Rattle.dt_world_model.specs.Station.{Station, come, deliver, pass_on, send_off, station_with, told_piece}
use Rattle.dt_station.specs.Stations.{StationValue, Stays}
use Rattle.dt_station.proofs.Flushes.{kept}
use Rattle.dt_station.proofs.Playing.{ends_tell, ends_with}

-- the host stays that of its node
acked_me : (f : Flow) (host : Host) (acked : Option (SendRecord × ℕ)) → (ack_answer host f acked).1.me ≡ host.me
acked_me f host None = refl
acked_me f host (Some (x, count)) = refl

comes_me : (p : Params) (now : ℕ) (f : Flow) (v : PacketValue) (host : Host) → (comes p now f v host).1.me ≡ host.me
comes_me p now f (Data from_port to_port number drf begin end octets) host = refl
comes_me p now f (Ack from_port to_port number window) host = acked_me f host (option_and_then (λ x. on_ack p x number window) (sender_at host f))
comes_me p now f (Meet from_port to_port number) host = refl
comes_me p now f (Close from_port to_port number) host = refl

quiet_me : (b : Bool) (quiet rest : Arrived × Host) (me : ℕ) → quiet.1.me ≡ me → rest.1.me ≡ me → (cond {A = Arrived × Host} b quiet rest).1.me ≡ me
quiet_me true quiet rest me h k = h
quiet_me false quiet rest me h k = k

arrive_me : (p : Params) (now from : ℕ) (v : PacketValue) (host : Host) → (arrive p now from v host).1.me ≡ host.me
arrive_me p now from v host = quiet_me (nat_lt now host.until) (arrived.Quiet host.until, host) (comes p now (flow_of from host.me v) v host) host.me refl (comes_me p now (flow_of from host.me v) v host)

no_reply : (p : Params) (f : Flow) (a : Arrived) → ((number window : ℕ) → a ≡ arrived.Replied number window → ⊥) → reply_frame p f a ≡ None
no_reply p f (arrived.Quiet until) h = refl
no_reply p f (arrived.Accepted run count) h = refl
no_reply p f (arrived.Replied number window) h = absurd (h number window refl)
no_reply p f arrived.Dropped h = refl
no_reply p f (arrived.Acked count) h = refl
no_reply p f (arrived.Closing number) h = refl

-- the frame that is there after a reply is that of the reply
pub reply_reads : (p : Params) (f : Flow) (a : Arrived) (number window : ℕ) (was left : List ℕ) → a ≡ arrived.Replied number window → left ≡ unwrap_or (reply_frame p f a) was → IfSome (reply_frame p f a) (λ octets. IsGram octets) → IsGram left
reply_reads p f a number window was left e h reads =
    let h : left ≡ unwrap_or (reply_frame p f (arrived.Replied number window)) was = subst (λ (b : Arrived). left ≡ unwrap_or (reply_frame p f b) was) e h in
    subst IsGram (sym h) (subst (λ (b : Arrived). IfSome (reply_frame p f b) (λ octets. IsGram octets)) e reads)

reply_made : (p : Params) (f : Flow) (a : Arrived) (number window : ℕ) (was left : List ℕ) → a ≡ arrived.Replied number window → left ≡ unwrap_or (reply_frame p f a) was → Some left ≡ reply_frame p f a
reply_made p f a number window was left e h =
    subst (λ (b : Arrived). Some left ≡ reply_frame p f b) (sym e) (ap Some (subst (λ (b : Arrived). left ≡ unwrap_or (reply_frame p f b) was) e h))

-- A PACKET THAT WAS GIVEN TO THE HOST of a station, which was lent as it stood there.
module _ {V T : Type 0} (tells : V → Told → V → Type 0) (tags : ℕ → V → Host → List ℕ → T → V → Type 0) (hands : V → ℕ → Parcel T → V → Type 0) (fails : V → V → Type 0)
    (first : StationValue T) (from : ℕ) (v : PacketValue) (host lent new : HostValue) (then : ℕ) (spent : Bool) (relay : Relay T)
    (seen : record { rules = host.rules; latest = then; spent = spent; state = station_with host.state relay } ≡ first) (lends : lent ≡ host) where
  abbrev with_host : HostValue → StationValue T
  with_host h = record { rules = h.rules; latest = then; spent = spent; state = station_with h.state relay }

  at_first : (fact : StationValue T → Type 0) → fact (with_host lent) → fact first
  at_first fact h = subst fact seen (subst (λ (x : HostValue). fact (with_host x)) lends h)

  pub given_current : IsCurrentHost first.rules first.latest first.state.host → IsCurrentHost lent.rules then lent.state
  given_current h =
      subst (λ (x : HostValue). IsCurrentHost x.rules then x.state) (sym lends)
      (subst (λ (s : StationValue T). IsCurrentHost s.rules s.latest s.state.host) (sym seen) h)

  pub given_past : host.latest ≤ then → lent.latest ≤ then
  given_past h = subst (λ (x : HostValue). x.latest ≤ then) (sym lends) h

  -- there was no memory for it
  pub failed_stays : new ≡ record { rules = lent.rules; latest = then; state = lent.state } → Stays first (record { rules = new.rules; latest = then; spent = spent; state = station_with new.state relay })
  failed_stays after =
      at_first (λ s. Stays s (with_host new))
      (subst (λ (h : HostValue). Stays (with_host lent) (with_host h)) (sym after) record { rules = refl; latest = refl; me = refl; links = refl })

  -- it was answered
  module _ (after : new ≡ record { rules = lent.rules; latest = then; state = (arrive lent.rules then from v lent.state).1 }) where
    pub given_stays : Stays first (with_host new)
    given_stays =
        at_first (λ s. Stays s (with_host new))
        (subst (λ (h : HostValue). Stays (with_host lent) (with_host h)) (sym after) record { rules = refl; latest = refl; me = arrive_me lent.rules then from v lent.state; links = refl })

    pub given_stays_then : (queues rest : Relay T) → queues ≡ relay → rest ≡ with_outs queues rest.outs → Stays first (record { rules = new.rules; latest = then; spent = spent; state = station_with new.state rest })
    given_stays_then queues rest on others =
        let stays = given_stays in
        record { rules = stays.rules; latest = stays.latest; me = stays.me; links = kept first.state.relay relay rest _ (subst (λ (q : Relay T). rest ≡ with_outs q rest.outs) on others) stays.links }

    -- and told
    module _ (flow : Flow) (answer : Arrived) (answered : answer ≡ (arrive lent.rules then from v lent.state).0) (flows : flow ≡ flow_of from host.state.me v)
        (here m : V) (report : Told) (is_told : report ≡ told_arrival flow v answer) (tell : tells here report m) where
      told : tells here (told_arrival flow v answer) m
      told = subst (λ (r : Told). tells here r m) is_told tell

      lent_flow : flow ≡ flow_of from lent.state.me v
      lent_flow = subst (λ (x : HostValue). flow ≡ flow_of from x.state.me v) (sym lends) flows

      delivers : {U E : Type 0} (result : Result U E) (w : V) (s : Station T) → Concludes tells (tags then) hands fails result (Tell (told_arrival flow v answer) (send_off then new.state (reply_frame lent.rules flow answer) relay)) here w s →
          Concludes tells (tags first.latest) hands fails result (deliver first.rules first.latest from (Ok v) first.state) here w s
      delivers result w s h =
          let r = arrive lent.rules then from v lent.state in
          at_first (λ f. Concludes tells (tags f.latest) hands fails result (deliver f.rules f.latest from (Ok v) f.state) here w s)
          (subst (λ (f : Flow). Concludes tells (tags then) hands fails result (Tell (told_arrival f v r.0) (send_off then r.1 (reply_frame lent.rules f r.0) relay)) here w s) lent_flow
          (subst (λ (a : Arrived). Concludes tells (tags then) hands fails result (Tell (told_arrival flow v a) (send_off then r.1 (reply_frame lent.rules flow a) relay)) here w s) answered
          (subst (λ (x : HostValue). Concludes tells (tags then) hands fails result (Tell (told_arrival flow v answer) (send_off then x.state (reply_frame lent.rules flow answer) relay)) here w s) after h)))

      -- an answer that is no reply is told, and that is all
      pub unreplied_ends : ((number window : ℕ) → answer ≡ arrived.Replied number window → ⊥) → Plays tells (tags first.latest) hands (deliver first.rules first.latest from (Ok v) first.state) here m (station_with new.state relay)
      unreplied_ends none =
          delivers {U = ℕ} {E = ℕ} (Ok 0) m (station_with new.state relay)
          (m, told, subst (λ (o : Option (List ℕ)). Plays tells (tags then) hands (send_off then new.state o relay) m m (station_with new.state relay)) (sym (no_reply lent.rules flow answer none)) (refl, refl))

      -- and a reply goes off: send_off was lent the same host, frame and relay
      pub replied_ends : {U E : Type 0} (result : Result U E) (number window : ℕ) (sender : HostValue) (was left sent : List ℕ) (queues rest : Relay T) (w : V) → answer ≡ arrived.Replied number window → left ≡ unwrap_or (reply_frame lent.rules (flow_of from lent.state.me v) answer) was →
          sender ≡ new → sent ≡ left → queues ≡ relay → Concludes tells (tags then) hands fails result (send_off then sender.state (Some sent) queues) m w (station_with sender.state rest) →
          Concludes tells (tags first.latest) hands fails result (deliver first.rules first.latest from (Ok v) first.state) here w (station_with new.state rest)
      replied_ends result number window sender was left sent queues rest w is_reply made by sends on ends =
          let made : left ≡ unwrap_or (reply_frame lent.rules flow answer) was = subst (λ (f : Flow). left ≡ unwrap_or (reply_frame lent.rules f answer) was) (sym lent_flow) made in
          let moved = subst (λ (x : HostValue). Concludes tells (tags then) hands fails result (send_off then x.state (Some left) relay) m w (station_with x.state rest)) by
          (subst (λ (f : List ℕ). Concludes tells (tags then) hands fails result (send_off then sender.state (Some f) relay) m w (station_with sender.state rest)) sends
          (subst (λ (q : Relay T). Concludes tells (tags then) hands fails result (send_off then sender.state (Some sent) q) m w (station_with sender.state rest)) on ends)) in
          delivers result w (station_with new.state rest)
          (ends_tell tells (tags then) hands fails (told_arrival flow v answer) (send_off then new.state (reply_frame lent.rules flow answer) relay) here m w (station_with new.state rest) result told
          (subst (λ (o : Option (List ℕ)). Concludes tells (tags then) hands fails result (send_off then new.state o relay) m w (station_with new.state rest)) (reply_made lent.rules flow answer number window was left is_reply made) moved))

pub latest_within : (new : HostValue) (then : ℕ) → new.latest ≡ then → new.latest ≤ then
latest_within new then e = omega arith

module _ {V T : Type 0} (tells : V → Told → V → Type 0) (tags : V → Host → List ℕ → T → V → Type 0) (hands : V → ℕ → Parcel T → V → Type 0) (fails : V → V → Type 0) where
  -- a packet for another node is passed on
  pub ends_come : {U E : Type 0} (p : Params) (now : ℕ) (mine : Bool) (parcel : Parcel T) (host : Host) (relay new : Relay T) (v w : V) (result : Result U E) → mine ≡ false →
      Concludes tells tags hands fails result (pass_on parcel now relay) v w new → Concludes tells tags hands fails result (come p now mine parcel (station_with host relay)) v w (station_with host new)
  ends_come p now true parcel host relay new v w result e h = absurd (cc)
  ends_come p now false parcel host relay new v w result e h = ends_with tells tags hands fails (pass_on parcel now relay) (station_with host) v w new (station_with host new) result h refl

-- what a sender took is within its capacity
within_put : (b : Bool) (p : Params) (x : SendRecord) (count : ℕ) → nat_le (held_of x + count) p.cap ≡ b → cond b None (Some (Full (room_of p x))) ≡ None → count ≤ p.cap
within_put true p x count e h = let k : held_of x + count ≤ p.cap = grind (arith, nat_tests) in omega arith
within_put false p x count e h = absurd (cc)

within_into : (fault : Option PutFault) (f : Flow) (items : List Item) (x : SendRecord) (host : Host) → (send_into f items x host fault).0 ≡ None → fault ≡ None
within_into None f items x host h = refl
within_into (Some (Full free)) f items x host h = absurd (cc)

within_send : (b : Bool) (p : Params) (f : Flow) (items : List Item) (x : SendRecord) (host : Host) (quiet : Option Refusal × Host) → (r : Refusal) → quiet.0 ≡ Some r →
    (cond b quiet (send_into f items x host (put_fault p x (length items)))).0 ≡ None → length items ≤ p.cap
within_send true p f items x host quiet r q h = absurd (cc)
within_send false p f items x host quiet r q h = within_put (fits p x (length items)) p x (length items) refl (within_into (put_fault p x (length items)) f items x host h)

pub taken_fits : (p : Params) (now : ℕ) (f : Flow) (items : List Item) (host : Host) → (send_octets p now f items host).0 ≡ None → length items ≤ p.cap
taken_fits p now f items host h =
    within_send (nat_lt now host.until) p f items (record_for p now (sender_at host f)) host (Some (refusal.Quiet host.until), host) (refusal.Quiet host.until) refl h

-- the octets of a piece stand first in the buffer
read_first : (items : List Item) (rest : List ℕ) → take (length items) (octets_of items ++ rest) ≡ octets_of items
read_first [] rest = refl
read_first (item ∷ items) rest = ap (λ (octets : List ℕ). item.octet ∷ octets) (read_first items rest)

abbrev len_of : Option Piece → ℕ
len_of None = 0
len_of (Some piece) = piece.len

piece_len : (items : List Item) (piece : Piece) → Some piece ≡ piece_told items → piece.len ≡ length items
piece_len [] piece h = absurd (cc)
piece_len (first ∷ rest) piece h = ap len_of h ∙ add-one (length rest)

-- what is told of a read is what it answered
module _ {V : Type 0} (tells : V → Told → V → Type 0) (f : Flow) (items : List Item) (v m w : V) (same : w ≡ m) where
  told_as : (o : Option Piece) → o ≡ piece_told items → tells v (told_piece f (octets_of items) o) m → tells v (told_piece f (octets_of items) (piece_told items)) w
  told_as o is told =
      subst (λ (u : V). tells v (told_piece f (octets_of items) (piece_told items)) u) (sym same) (subst (λ (p : Option Piece). tells v (told_piece f (octets_of items) p) m) is told)

  pub nothing_told : None ≡ piece_told items → tells v (report.Nothing f) m → tells v (told_piece f (octets_of items) (piece_told items)) w
  nothing_told none told = told_as None none told

  pub read_as_told : (piece : Piece) (old new : List ℕ) → Some piece ≡ piece_told items → new ≡ octets_of items ++ drop (length items) old →
      tells v (read_told f piece.run piece.begin piece.end (take piece.len new)) m → tells v (told_piece f (octets_of items) (piece_told items)) w
  read_as_told piece old new is filled told =
      let octets : take piece.len new ≡ octets_of items = rw (piece_len items piece is, filled) (read_first items (drop (length items) old)) in
      told_as (Some piece) is (subst (λ (os : List ℕ). tells v (read_told f piece.run piece.begin piece.end os) m) octets told)
