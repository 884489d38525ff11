-- After a station has settled no packet may leave any of its links, whatever it did.
use Rattle.std.proofs.Common.{ℕ, zero, suc, ◌≤◌, ◌≡◌, ◌==◌, ◌⊎◌, Bool, true, false, List, [], ◌∷◌, length, map, Option, Some, None, Result, Ok, Err, refl, sym, ap, subst, inl, inr, ◌∙◌, arith}
use Rattle.std.specs.Prelude.{nat_lt}
use Rattle.std.specs.List.{All}
use Rattle.std.proofs.lemmas.Bool.{cases_Bool, eqb-true, eqb-false}
use Rattle.std.proofs.lemmas.Bool.Decides.{nat_tests}
use Rattle.std.proofs.lemmas.List.Elements.{All-nil, All-cons, All-head, All-tail, All-weaker}
use Rattle.dt_units.specs.declared.parameters.Params.{Params}
use Rattle.dt_layout.specs.Spelling.{PacketValue}
use Rattle.dt_layout.specs.Carried.{to_of}
use Rattle.dt_layout.specs.Reading.{gram_in, packet_read}
use Rattle.dt_layout.specs.declared.faults.LayoutFault.{LayoutFault}
use Rattle.dt_flow_model.specs.Frames.{flow_of, reply_frame}
use Rattle.dt_flow_model.specs.SendActs.{IsBefore}
use Rattle.dt_world_model.specs.declared.links.Entered.{Entered}
use Rattle.dt_world_model.specs.declared.links.OutLink.{OutLink}
use Rattle.dt_world_model.specs.declared.links.Entered.TheVariants.{Queued, NoRoute, Full}
use Rattle.dt_world_model.specs.Host.{Host, Turn, arrive, next_turn, work}
use Rattle.dt_world_model.specs.Relay.{Expired, Goes, Left, Out, Parcel, Relay, Waiting, admit, empty_out, last_out, left_of, may_leave_from, most_on_link, on_link, out_wake, push, route_to, with_outs}
use Rattle.dt_world_model.specs.Script.{Answers, Ask, Done, Hand, Script, Tell, ◌>>=◌}
use Rattle.dt_world_model.specs.Station.{Arrive, Event, Read, Send, Station, Tick, come, come_in, deliver, do_turns, flush, flush_at, flush_entered, flush_links, flush_on, flush_turns, go_on, happen, pass_on, send_off, settle_station, station_event, station_with}
use Rattle.dt_world_laws.proofs.Plays.{do_turn, link_of}
use Rattle.dt_world_laws.proofs.Settles.{answers_then}
use Rattle.dt_endpoint.specs.Waking.{IsEmptyFor, WaitOnFirst}

abbrev pub O : Type 0
O = Out (Unit {0})

abbrev pub S : Type 0 → Type 0
S A = Script (Unit {0}) A

map_answers : {A : Type 0} (P Q : A → Type 0) (s : S A) → ((a : A) → P a → Q a) → Answers P s → Answers Q s
map_answers P Q (Done a) on h = on a h
map_answers P Q (Tell r s) on h = map_answers P Q s on h
map_answers P Q (Ask host octets s) on h = λ t. map_answers P Q (s t) on (h t)
map_answers P Q (Hand link parcel s) on h = map_answers P Q s on h

both_answers : {A : Type 0} (P Q : A → Type 0) (s : S A) → Answers P s → Answers Q s → Answers (λ a. P a × Q a) s
both_answers P Q (Done a) h k = (h, k)
both_answers P Q (Tell r s) h k = both_answers P Q s h k
both_answers P Q (Ask host octets s) h k = λ t. both_answers P Q (s t) (h t) (k t)
both_answers P Q (Hand link parcel s) h k = both_answers P Q s h k

-- NOTHING LEAVES a link at now
abbrev pub IsStill : ℕ → O → Type 0
IsStill now out = IsBefore now (out_wake out out.waits)

empty_still : (now : ℕ) (out : O) (ws : List (Waiting (Unit {0}))) → ws ≡ [] → IsBefore now (out_wake out ws)
empty_still now out [] e = tt
empty_still now out (w ∷ ws) e = absurd cc

abbrev Flushed : ℕ → ℕ → O → Type 0
Flushed now link out = IsStill now out × (out.link ≡ link)

on_left : (P : O → Type 0) (again : O → S O) (left : Left (Unit {0})) (out : O) → Answers P (again out) → Answers P (flush_on again (Some left, out))
on_left P again Expired out h = h
on_left P again (Goes parcel) out h = h

turns_flush : (now most link pace : ℕ) (ws : List (Waiting (Unit {0}))) (last : Option ℕ) → length ws ≤ most → Answers (Flushed now link) (flush_turns most now (record { link = link; pace = pace; waits = ws; last = last }))
turns_flush now zero link pace [] last le = (tt, refl)
turns_flush now zero link pace (w ∷ ws) last le = absurd (omega arith)
turns_flush now (suc most) link pace [] last le = (tt, refl)
turns_flush now (suc most) link pace (w ∷ ws) last le =
    elim (cases_Bool (nat_lt now (may_leave_from pace last))) [
      | inl y ↦ rw y (grind (arith, nat_tests), refl)
      | inr n ↦ rw n (on_left (Flushed now link) (flush_turns most now) (left_of now w) (record { link = link; pace = pace; waits = ws; last = last_out now last (left_of now w) }) (turns_flush now most link pace ws (last_out now last (left_of now w)) (omega arith)))
    ]

flushes : (now : ℕ) (out : O) → Answers (Flushed now out.link) (flush now out)
flushes now out = turns_flush now (length out.waits) out.link out.pace out.waits out.last (omega arith)

-- A LINK HAS ONE OF THESE NUMBERS
abbrev IsAmong : ℕ → List ℕ → Type 0
IsAmong link [] = ⊥
IsAmong link (l ∷ ls) = (link ≡ l) ⊎ IsAmong link ls

-- it is still, or has one of these numbers
abbrev IsStillOr : ℕ → List ℕ → O → Type 0
IsStillOr now links out = IsStill now out ⊎ IsAmong out.link links

abbrev pub AreStill : ℕ → List O → Type 0
AreStill now outs = All (IsStill now) outs × WaitOnFirst outs

abbrev AreStillOr : ℕ → List ℕ → List O → Type 0
AreStillOr now links outs = All (IsStillOr now links) outs × WaitOnFirst outs

-- A link with the number of an earlier one has nothing that waits, so it is still.
behind : (now link : ℕ) (links : List ℕ) (outs : List O) → All (IsStillOr now (link ∷ links)) outs → All (IsEmptyFor link) outs → All (IsStillOr now links) outs
behind now link links [] h e = All-nil (IsStillOr now links)
behind now link links (out ∷ outs) h e =
    All-cons (IsStillOr now links) out outs (one (All-head (IsStillOr now (link ∷ links)) out outs h) (All-head (IsEmptyFor link) out outs e))
    (behind now link links outs (All-tail (IsStillOr now (link ∷ links)) out outs h) (All-tail (IsEmptyFor link) out outs e))
  where
    one : IsStillOr now (link ∷ links) out → IsEmptyFor link out → IsStillOr now links out
    one (inl still) e = inl still
    one (inr (inl same)) e = inl (empty_still now out out.waits (e same))
    one (inr (inr more)) e = inr more

not_this : (now link : ℕ) (links : List ℕ) (out : O) → (out.link == link) ≡ false → IsStillOr now (link ∷ links) out → IsStillOr now links out
not_this now link links out n (inl still) = inl still
not_this now link links out n (inr (inl same)) = absurd (eqb-false out.link link n same)
not_this now link links out n (inr (inr more)) = inr more

-- flushing one link leaves those empty that are
at_empty : (now link other : ℕ) (outs : List O) → All (IsEmptyFor other) outs → Answers (λ (after : List O). All (IsEmptyFor other) after) (flush_at link now outs)
at_empty now link other [] h = h
at_empty now link other (out ∷ outs) h =
    let head = All-head (IsEmptyFor other) out outs h in
    let tail = All-tail (IsEmptyFor other) out outs h in
    elim (cases_Bool (out.link == link)) [
      | inl y ↦ rw y (answers_then (IsEmptyFor other) (λ (after : List O). All (IsEmptyFor other) after) (flush now out) (λ after. Done (after ∷ outs)) (emptied out head) (λ after e. All-cons (IsEmptyFor other) after outs e tail))
      | inr n ↦ rw n (answers_then (λ (after : List O). All (IsEmptyFor other) after) (λ (after : List O). All (IsEmptyFor other) after) (flush_at link now outs) (λ rest. Done (out ∷ rest)) (at_empty now link other outs tail) (λ rest e. All-cons (IsEmptyFor other) out rest head e))
    ]
  where
    nothing : (out : O) → out.waits ≡ [] → flush now out ≡ Done out
    nothing out e = ap (λ (ws : List (Waiting (Unit {0}))). flush_turns (length ws) now out) e

    emptied : (out : O) → IsEmptyFor other out → Answers (IsEmptyFor other) (flush now out)
    emptied out e =
        elim (cases_Bool (out.link == other)) [
          | inl y ↦ subst (λ (s : S O). Answers (IsEmptyFor other) s) (sym (nothing out (e (eqb-true out.link other y)))) e
          | inr n ↦ map_answers (Flushed now out.link) (IsEmptyFor other) (flush now out) (λ after f same. absurd (eqb-false out.link other n (sym f.1 ∙ same))) (flushes now out)
        ]

at_still : (now link : ℕ) (links : List ℕ) (outs : List O) → AreStillOr now (link ∷ links) outs → Answers (AreStillOr now links) (flush_at link now outs)
at_still now link links [] h = (All-nil (IsStillOr now links), tt)
at_still now link links (out ∷ outs) h =
    let head = All-head (IsStillOr now (link ∷ links)) out outs h.0 in
    let tail = All-tail (IsStillOr now (link ∷ links)) out outs h.0 in
    elim (cases_Bool (out.link == link)) [
      | inl y ↦ rw y (
          let is : out.link ≡ link = eqb-true out.link link y in
          let empty : All (IsEmptyFor link) outs = subst (λ (k : ℕ). All (IsEmptyFor k) outs) is h.1.0 in
          answers_then (Flushed now out.link) (AreStillOr now links) (flush now out) (λ after. Done (after ∷ outs)) (flushes now out)
          (λ after f. (All-cons (IsStillOr now links) after outs (inl f.0) (behind now link links outs tail empty), (subst (λ (k : ℕ). All (IsEmptyFor k) outs) (sym f.1) h.1.0, h.1.1))))
      | inr n ↦ rw n (
          answers_then (λ (after : List O). AreStillOr now links after × All (IsEmptyFor out.link) after) (AreStillOr now links) (flush_at link now outs) (λ rest. Done (out ∷ rest))
          (both_answers (AreStillOr now links) (λ (after : List O). All (IsEmptyFor out.link) after) (flush_at link now outs) (at_still now link links outs (tail, h.1.1)) (at_empty now link out.link outs h.1.0))
          (λ rest k. (All-cons (IsStillOr now links) out rest (not_this now link links out n head) k.0.0, (k.1, k.0.1))))
    ]

none_left : (now : ℕ) (out : O) → IsStillOr now [] out → IsStill now out
none_left now out (inl still) = still
none_left now out (inr more) = elim more [ ]

links_still : (now : ℕ) (links : List ℕ) (outs : List O) → AreStillOr now links outs → Answers (AreStill now) (flush_links now links outs)
links_still now [] outs h = (All-weaker (IsStillOr now []) (IsStill now) (none_left now) outs h.0, h.1)
links_still now (link ∷ links) outs h = answers_then (AreStillOr now links) (AreStill now) (flush_at link now outs) (λ rest. flush_links now links rest) (at_still now link links outs h) (λ rest k. links_still now links rest k)

all_named : (now : ℕ) (outs : List O) → All (IsStillOr now (map link_of outs)) outs
all_named now [] = All-nil (IsStillOr now [])
all_named now (out ∷ outs) =
    All-cons (IsStillOr now (map link_of (out ∷ outs))) out outs (inr (inl refl))
    (All-weaker (IsStillOr now (map link_of outs)) (IsStillOr now (map link_of (out ∷ outs))) (λ o h. more o h) outs (all_named now outs))
  where
    more : (o : O) → IsStillOr now (map link_of outs) o → IsStillOr now (map link_of (out ∷ outs)) o
    more o (inl still) = inl still
    more o (inr k) = inr (inr k)

-- A PACKET ENTERS: then its link alone may have something that leaves
abbrev Enters : ℕ → Entered → List O → Type 0
Enters now (Queued link) outs = AreStillOr now (link ∷ []) outs
Enters now (NoRoute to) outs = AreStill now outs
Enters now (Full link) outs = AreStill now outs

module _ (now : ℕ) (parcel : Parcel (Unit {0})) where
  push_empty : (link other : ℕ) (entered : Entered) (outs : List O) → (other == link) ≡ false → All (IsEmptyFor other) outs → All (IsEmptyFor other) (on_link link entered (push parcel now) outs).1
  push_empty link other entered [] n h = h
  push_empty link other entered (out ∷ outs) n h =
      let head = All-head (IsEmptyFor other) out outs h in
      let tail = All-tail (IsEmptyFor other) out outs h in
      elim (cases_Bool (out.link == link)) [
        | inl y ↦ rw y (All-cons (IsEmptyFor other) (push parcel now out).1 outs (elim (cases_Bool (nat_lt (length out.waits) most_on_link)) [
          | inl room ↦ rw room (λ same. absurd (eqb-false other link n (sym same ∙ eqb-true out.link link y)))
          | inr full ↦ rw full head
        ]) tail)
        | inr m ↦ rw m (All-cons (IsEmptyFor other) out (on_link link entered (push parcel now) outs).1 head (push_empty link other entered outs n tail))
      ]

  enters_behind : (entered : Entered) (out : O) (outs : List O) → IsStill now out → All (IsEmptyFor out.link) outs → Enters now entered outs → Enters now entered (out ∷ outs)
  enters_behind (Queued link) out outs still empty h = (All-cons (IsStillOr now (link ∷ [])) out outs (inl still) h.0, (empty, h.1))
  enters_behind (NoRoute to) out outs still empty h = (All-cons (IsStill now) out outs still h.0, (empty, h.1))
  enters_behind (Full link) out outs still empty h = (All-cons (IsStill now) out outs still h.0, (empty, h.1))

  pushed : (link to : ℕ) (outs : List O) → AreStill now outs → let r = on_link link (NoRoute to) (push parcel now) outs in Enters now r.0 r.1
  pushed link to [] h = h
  pushed link to (out ∷ outs) h =
      let head = All-head (IsStill now) out outs h.0 in
      let tail = All-tail (IsStill now) out outs h.0 in
      elim (cases_Bool (out.link == link)) [
        | inl y ↦ rw y (elim (cases_Bool (nat_lt (length out.waits) most_on_link)) [
          | inl room ↦ rw room (All-cons (IsStillOr now (out.link ∷ [])) _ outs (inr (inl refl)) (All-weaker (IsStill now) (IsStillOr now (out.link ∷ [])) (λ o s. inl s) outs tail), h.1)
          | inr full ↦ rw full h
        ])
        | inr n ↦ rw n (enters_behind (on_link link (NoRoute to) (push parcel now) outs).0 out (on_link link (NoRoute to) (push parcel now) outs).1 head (push_empty link out.link (NoRoute to) outs n h.1.0) (pushed link to outs (tail, h.1.1)))
      ]

abbrev pub RelayStill : ℕ → Relay (Unit {0}) → Type 0
RelayStill now relay = AreStill now relay.outs

entered_still : (now : ℕ) (entered : Entered) (relay : Relay (Unit {0})) → Enters now entered relay.outs → Answers (RelayStill now) (flush_entered now (entered, relay))
entered_still now (Queued link) relay h = answers_then (AreStillOr now []) (RelayStill now) (flush_at link now relay.outs) (λ outs. Done (with_outs relay outs)) (at_still now link [] relay.outs h) (λ outs k. (All-weaker (IsStillOr now []) (IsStill now) (none_left now) outs k.0, k.1))
entered_still now (NoRoute to) relay h = h
entered_still now (Full link) relay h = h

passed_still : (now : ℕ) (parcel : Parcel (Unit {0})) (relay : Relay (Unit {0})) → RelayStill now relay → Answers (RelayStill now) (pass_on parcel now relay)
passed_still now parcel relay h = by_route (route_to (to_of parcel.octets) relay.routes) refl
  where
    by_route : (o : Option ℕ) → route_to (to_of parcel.octets) relay.routes ≡ o → Answers (RelayStill now) (pass_on parcel now relay)
    by_route None e = rw e h
    by_route (Some link) e =
        let r = on_link link (NoRoute (to_of parcel.octets)) (push parcel now) relay.outs in
        rw e (entered_still now r.0 (with_outs relay r.1) (pushed now parcel link (to_of parcel.octets) relay.outs h))

-- THE STATION
abbrev pub StationStill : ℕ → Station (Unit {0}) → Type 0
StationStill now st = RelayStill now st.relay

module _ (now : ℕ) where
  off_still : (host : Host) (frame : Option (List ℕ)) (relay : Relay (Unit {0})) → RelayStill now relay → Answers (StationStill now) (send_off now host frame relay)
  off_still host None relay h = h
  off_still host (Some octets) relay h = λ t. answers_then (RelayStill now) (StationStill now) (pass_on (record { octets = octets; tag = t }) now relay) (λ after. Done (station_with host after)) (passed_still now (record { octets = octets; tag = t }) relay h) (λ after k. k)

  module _ (p : Params) where
    on_still : (most : ℕ) (turn : Option Turn) (st : Station (Unit {0})) → StationStill now st → ((after : Station (Unit {0})) → StationStill now after → Answers (StationStill now) (do_turns most p now after)) → Answers (StationStill now) (go_on (do_turns most p now) now turn st)
    on_still most None st h again = h
    on_still most (Some turn) st h again = answers_then (StationStill now) (StationStill now) (do_turn now turn st.relay) (do_turns most p now) (off_still turn.host turn.frame st.relay h) again

    turns_still : (most : ℕ) (st : Station (Unit {0})) → StationStill now st → Answers (StationStill now) (do_turns most p now st)
    turns_still zero st h = h
    turns_still (suc most) st h = on_still most (next_turn p now st.host) st h (turns_still most)

    settled_still : (st : Station (Unit {0})) → WaitOnFirst st.relay.outs → Answers (StationStill now) (settle_station p now st)
    settled_still st first =
        let links = map link_of st.relay.outs in
        answers_then (AreStill now) (StationStill now) (flush_links now links st.relay.outs) (λ outs. do_turns (work p now st.host) p now (station_with st.host (with_outs st.relay outs))) (links_still now links st.relay.outs (all_named now st.relay.outs, first))
        (λ outs k. turns_still (work p now st.host) (station_with st.host (with_outs st.relay outs)) k)

    -- WHAT HAPPENS
    delivered_still : (from : ℕ) (v : Result PacketValue LayoutFault) (st : Station (Unit {0})) → StationStill now st → Answers (StationStill now) (deliver p now from v st)
    delivered_still from (Err fault) st h = h
    delivered_still from (Ok v) st h = let r = arrive p now from v st.host in off_still r.1 (reply_frame p (flow_of from st.host.me v) r.0) st.relay h

    come_still : (own : Bool) (parcel : Parcel (Unit {0})) (st : Station (Unit {0})) → StationStill now st → Answers (StationStill now) (come p now own parcel st)
    come_still true parcel st h = delivered_still (gram_in parcel.octets).from (packet_read (gram_in parcel.octets)) st h
    come_still false parcel st h = answers_then (RelayStill now) (StationStill now) (pass_on parcel now st.relay) (λ relay. Done (station_with st.host relay)) (passed_still now parcel st.relay h) (λ relay k. k)

    come_in_still : (link : ℕ) (parcel : Option (Parcel (Unit {0}))) (st : Station (Unit {0})) → StationStill now st → Answers (StationStill now) (come_in p now link parcel st)
    come_in_still link None st h = h
    come_in_still link (Some parcel) st h = come_still (to_of parcel.octets == st.host.me) parcel st h

    happens_still : (e : Event (Unit {0})) (st : Station (Unit {0})) → StationStill now st → Answers (StationStill now) (happen p now e st)
    happens_still (Send f octets begin end) st h = h
    happens_still (Read f most) st h = h
    happens_still Tick st h = h
    happens_still (Arrive link parcel) st h = come_in_still link (admit link parcel st.relay) st h

    pub event_still : (e : Event (Unit {0})) (st : Station (Unit {0})) → WaitOnFirst st.relay.outs → Answers (StationStill now) (station_event p now e st)
    event_still e st first =
        answers_then (StationStill now) (StationStill now) (settle_station p now st) (λ before. happen p now e before >>= λ after. settle_station p now after) (settled_still st first)
        (λ before h. answers_then (StationStill now) (StationStill now) (happen p now e before) (λ after. settle_station p now after) (happens_still e before h) (λ after k. settled_still after k.1))

-- a relay that begins
pub fresh_still : (now : ℕ) (outs : List OutLink) → AreStill now (map (λ (o : OutLink). empty_out o.link o.pace) outs)
fresh_still now [] = (All-nil (IsStill now), tt)
fresh_still now (o ∷ outs) = let rest = fresh_still now outs in (All-cons (IsStill now) (empty_out o.link o.pace) _ tt rest.0, (empty_for o.link outs, rest.1))
  where
    empty_for : (link : ℕ) (outs : List OutLink) → All (IsEmptyFor link) (map (λ (o : OutLink). empty_out o.link o.pace) outs)
    empty_for link [] = All-nil (IsEmptyFor link)
    empty_for link (o ∷ outs) = All-cons (IsEmptyFor link) (empty_out o.link o.pace) _ (λ e. refl) (empty_for link outs)
