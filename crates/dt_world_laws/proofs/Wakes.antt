-- The wake is the first moment at which something is due: a station that ticks before it does nothing.
use Rattle.std.proofs.Common.{ℕ, zero, suc, ◌+◌, ◌<◌, ◌≤◌, ◌≡◌, ◌==◌, true, false, List, [], ◌∷◌, ◌++◌, length, map, Option, Some, None, refl, ap, inl, inr, ◌∙◌, ◌⊎◌, arith, length-append}
use Rattle.std.specs.Prelude.{min, nat_lt}
use Rattle.std.proofs.lemmas.Bool.{cases_Bool}
use Rattle.std.proofs.lemmas.Bool.Decides.{nat_tests}
use Rattle.dt_units.specs.declared.parameters.Params.{Params}
use Rattle.dt_units.specs.declared.endpoints.Flow.{Flow}
use Rattle.dt_units.specs.Moments.{earlier}
use Rattle.dt_flow_model.specs.declared.acts.RecvKind.{RecvKind}
use Rattle.dt_flow_model.specs.ReceiveRecord.{ReceiveRecord, Receiver, recv_due_of, recv_wake_of}
use Rattle.dt_flow_model.specs.SendActs.{IsBefore, IsFirst, act_of, wake_of}
use Rattle.dt_flow_model.specs.SendRecord.{SendRecord}
use Rattle.dt_flow_laws.proofs.Waking.{recv_wake_first, wake_first}
use Rattle.dt_world_model.specs.Tables.{earliest}
use Rattle.dt_world_model.specs.Host.{Host, Offer, Turn, host_wake, least, next_turn, offers, recv_offer, recv_offers, send_offer, send_offers, work}
use Rattle.dt_world_model.specs.Relay.{Left, Out, Waiting, leave, leave_first, left_of, may_leave_from, out_wake, relay_wake, with_outs}
use Rattle.dt_world_model.specs.Script.{Script, Done, ◌>>=◌}
use Rattle.dt_world_model.specs.Station.{Station, Tick, do_turns, flush_at, flush_links, flush_on, flush_turns, go_on, happen, settle_station, station_event, station_wake, station_with}
use Rattle.dt_world_model.proofs.Offers.{turn_if}
use Rattle.dt_world_laws.specs.Waking.{Acts, Due, Leaves, due_at, due_of, leaves_at, or_later}
use Rattle.dt_world_laws.proofs.Plays.{link_of}

-- MOMENTS
before_parts : (now : ℕ) (a b : Option ℕ) → IsBefore now (earlier a b) → IsBefore now a × IsBefore now b
before_parts now None b h = (tt, h)
before_parts now (Some m) None h = (h, tt)
before_parts now (Some m) (Some k) h = (omega arith, omega arith)

earlier_is : (a b : Option ℕ) (m : ℕ) → earlier a b ≡ Some m → (a ≡ Some m) ⊎ (b ≡ Some m)
earlier_is None b m e = inr e
earlier_is (Some k) None m e = inl e
earlier_is (Some k) (Some l) m e =
    let same : min k l ≡ m = cc in
    elim (cases_Bool (nat_lt k l)) [
      | inl y ↦ inl (ap (λ (n : ℕ). Some n) (let lt : k < l = grind (arith, nat_tests) in omega (arith, same, lt)))
      | inr o ↦ inr (ap (λ (n : ℕ). Some n) (let le : l ≤ k = grind (arith, nat_tests) in omega (arith, same, le)))
    ]

-- HOSTS: nothing is offered before the wake
senders_before : (p : Params) (now : ℕ) (es : List (Flow × SendRecord)) → IsBefore now (earliest (λ (e : Flow × SendRecord). wake_of p e.1) es) → send_offers p now es ≡ []
senders_before p now [] h = refl
senders_before p now (e ∷ es) h =
    let parts = before_parts now (wake_of p e.1) (earliest (λ (e : Flow × SendRecord). wake_of p e.1) es) h in
    let none : act_of p now e.1 ≡ None = (wake_first p e.1).nothing_before now parts.0 in
    rw none (senders_before p now es parts.1)

none_offered : (f : Flow) (standing : Option ReceiveRecord) (due : Option (RecvKind × ℕ)) → due ≡ None → recv_offer f standing due ≡ []
none_offered f None due e = refl
none_offered f (Some y) None e = refl
none_offered f (Some y) (Some a) e = absurd cc

receivers_before : (p : Params) (now : ℕ) (es : List (Flow × Receiver)) → IsBefore now (earliest (λ (e : Flow × Receiver). recv_wake_of p e.1.standing) es) → recv_offers p now es ≡ []
receivers_before p now [] h = refl
receivers_before p now (e ∷ es) h =
    let parts = before_parts now (recv_wake_of p e.1.standing) (earliest (λ (e : Flow × Receiver). recv_wake_of p e.1.standing) es) h in
    let none : recv_offer e.0 e.1.standing (recv_due_of p now e.1.standing) ≡ [] = none_offered e.0 e.1.standing (recv_due_of p now e.1.standing) ((recv_wake_first p e.1.standing).nothing_before now parts.0) in
    rw none (receivers_before p now es parts.1)

offers_before : (p : Params) (now : ℕ) (host : Host) → IsBefore now (host_wake p host) → offers p now host ≡ []
offers_before p now host h =
    let parts = before_parts now (earliest (λ (e : Flow × SendRecord). wake_of p e.1) host.senders) (earliest (λ (e : Flow × Receiver). recv_wake_of p e.1.standing) host.receivers) h in
    rw (senders_before p now host.senders parts.0) (receivers_before p now host.receivers parts.1)

-- and something is at it
some_right : (xs ys : List Offer) → 0 < length ys → 0 < length (xs ++ ys)
some_right xs ys h = let k : length (xs ++ ys) ≡ length xs + length ys = length-append xs ys in omega (arith, h, k)

some_left : (xs ys : List Offer) → 0 < length xs → 0 < length (xs ++ ys)
some_left xs ys h = let k : length (xs ++ ys) ≡ length xs + length ys = length-append xs ys in omega (arith, h, k)

senders_at : (p : Params) (m : ℕ) (es : List (Flow × SendRecord)) → earliest (λ (e : Flow × SendRecord). wake_of p e.1) es ≡ Some m → 0 < length (send_offers p m es)
senders_at p m [] e = absurd cc
senders_at p m (x ∷ es) e =
    elim (earlier_is (wake_of p x.1) (earliest (λ (e : Flow × SendRecord). wake_of p e.1) es) m e) [
      | inl here ↦
          let act = (wake_first p x.1).something_at m here in
          some_left (send_offer p x.0 x.1 (act_of p m x.1)) (send_offers p m es) (rw (act.1) (omega arith))
      | inr there ↦ some_right (send_offer p x.0 x.1 (act_of p m x.1)) (send_offers p m es) (senders_at p m es there)
    ]

one_offered : (p : Params) (m : ℕ) (f : Flow) (standing : Option ReceiveRecord) (a : RecvKind × ℕ) → recv_due_of p m standing ≡ Some a → 0 < length (recv_offer f standing (recv_due_of p m standing))
one_offered p m f None a e = absurd cc
one_offered p m f (Some y) (kind, moment) e = rw e (omega arith)

receivers_at : (p : Params) (m : ℕ) (es : List (Flow × Receiver)) → earliest (λ (e : Flow × Receiver). recv_wake_of p e.1.standing) es ≡ Some m → 0 < length (recv_offers p m es)
receivers_at p m [] e = absurd cc
receivers_at p m (x ∷ es) e =
    elim (earlier_is (recv_wake_of p x.1.standing) (earliest (λ (e : Flow × Receiver). recv_wake_of p e.1.standing) es) m e) [
      | inl here ↦
          let act = (recv_wake_first p x.1.standing).something_at m here in
          some_left (recv_offer x.0 x.1.standing (recv_due_of p m x.1.standing)) (recv_offers p m es) (one_offered p m x.0 x.1.standing act.0 act.1)
      | inr there ↦ some_right (recv_offer x.0 x.1.standing (recv_due_of p m x.1.standing)) (recv_offers p m es) (receivers_at p m es there)
    ]

turn_at : (p : Params) (m : ℕ) (host : Host) (os : List Offer) → 0 < length os → (turn : Turn) × (turn_if p m host (least os) ≡ Some turn)
turn_at p m host [] h = absurd (omega arith)
turn_at p m host (o ∷ os) h = (_, refl)

offers_at : (p : Params) (m : ℕ) (host : Host) → host_wake p host ≡ Some m → 0 < length (offers p m host)
offers_at p m host e =
    elim (earlier_is (earliest (λ (e : Flow × SendRecord). wake_of p e.1) host.senders) (earliest (λ (e : Flow × Receiver). recv_wake_of p e.1.standing) host.receivers) m e) [
      | inl here ↦ some_left (send_offers p m host.senders) (recv_offers p m host.receivers) (senders_at p m host.senders here)
      | inr there ↦ some_right (send_offers p m host.senders) (recv_offers p m host.receivers) (receivers_at p m host.receivers there)
    ]

idle_before : (p : Params) (now : ℕ) (host : Host) → IsBefore now (host_wake p host) → next_turn p now host ≡ None
idle_before p now host h = rw (offers_before p now host h) refl

pub host_wake_first : (p : Params) (host : Host) → IsFirst Turn (λ now. next_turn p now host) (host_wake p host)
host_wake_first p host = record {
  nothing_before = λ now h. idle_before p now host h;
  something_at = λ m e. turn_at p m host (offers p m host) (offers_at p m host e);
}

-- RELAYS
module _ {T : Type 0} where
  first_stays : (now : ℕ) (out : Out T) (ws : List (Waiting T)) → IsBefore now (out_wake out ws) → leave_first now out ws ≡ (None, out)
  first_stays now out [] h = refl
  first_stays now out (w ∷ ws) h = let early : nat_lt now (may_leave_from out.pace out.last) ≡ true = grind (arith, nat_tests) in rw early refl

  first_leaves : (out : Out T) (ws : List (Waiting T)) (m : ℕ) → out_wake out ws ≡ Some m → (left : Left T) × ((leave_first m out ws).0 ≡ Some left)
  first_leaves out [] m e = absurd cc
  first_leaves out (w ∷ ws) m e =
      let same : may_leave_from out.pace out.last ≡ m = cc in
      let due : nat_lt m (may_leave_from out.pace out.last) ≡ false = grind (arith, nat_tests) in
      (left_of m w, rw due refl)

  pub out_wake_first : (out : Out T) → IsFirst (Left T) (λ now. (leave now out).0) (out_wake out out.waits)
  out_wake_first out = record {
    nothing_before = λ now h. ap (λ (r : Option (Left T) × Out T). r.0) (first_stays now out out.waits h);
    something_at = λ m e. first_leaves out out.waits m e;
  }

  -- some link's first packet leaves at the wake
  pub relay_wake_at : (outs : List (Out T)) (m : ℕ) → relay_wake outs ≡ Some m → (before after : List (Out T)) × (out : Out T) × (left : Left T) × (outs ≡ before ++ out ∷ after) × ((leave m out).0 ≡ Some left)
  relay_wake_at [] m e = absurd cc
  relay_wake_at (out ∷ outs) m e =
      elim (earlier_is (out_wake out out.waits) (relay_wake outs) m e) [
        | inl here ↦ let k = first_leaves out out.waits m here in ([], outs, out, k.0, refl, k.1)
        | inr there ↦ let k = relay_wake_at outs m there in (out ∷ k.0, k.1, k.2, k.3, ap (λ (os : List (Out T)). out ∷ os) k.4, k.5)
      ]

  -- and nothing leaves any link before it
  pub relay_stays : (before after : List (Out T)) (out : Out T) (now : ℕ) → IsBefore now (relay_wake (before ++ out ∷ after)) → leave now out ≡ (None, out)
  relay_stays [] after out now h = first_stays now out out.waits (before_parts now (out_wake out out.waits) (relay_wake after) h).0
  relay_stays (x ∷ before) after out now h = relay_stays before after out now (before_parts now (out_wake x x.waits) (relay_wake (before ++ out ∷ after)) h).1

  none_leaves : (outs : List (Out T)) (now : ℕ) → IsBefore now (relay_wake outs) → leaves_at now outs ≡ None
  none_leaves [] now h = refl
  none_leaves (out ∷ outs) now h =
      let parts = before_parts now (out_wake out out.waits) (relay_wake outs) h in
      ap (λ (r : Option (Left T) × Out T). or_later r.0 (leaves_at now outs)) (first_stays now out out.waits parts.0) ∙ none_leaves outs now parts.1

  or_some : (a b : Option (Left T)) → (left : Left T) × (b ≡ Some left) → (left : Left T) × (or_later a b ≡ Some left)
  or_some None b h = h
  or_some (Some left) b h = (left, refl)

  one_leaves : (outs : List (Out T)) (m : ℕ) → relay_wake outs ≡ Some m → (left : Left T) × (leaves_at m outs ≡ Some left)
  one_leaves [] m e = absurd cc
  one_leaves (out ∷ outs) m e =
      elim (earlier_is (out_wake out out.waits) (relay_wake outs) m e) [
        | inl here ↦ let k = first_leaves out out.waits m here in (k.0, ap (λ (o : Option (Left T)). or_later o (leaves_at m outs)) k.1)
        | inr there ↦ or_some (leave m out).0 (leaves_at m outs) (one_leaves outs m there)
      ]

  pub relay_wake_first : (outs : List (Out T)) → IsFirst (Left T) (λ now. leaves_at now outs) (relay_wake outs)
  relay_wake_first outs = record { nothing_before = λ now h. none_leaves outs now h; something_at = λ m e. one_leaves outs m e }

  -- STATIONS: an act or a packet
  act_due : (turn : Option Turn) (left : Option (Left T)) → (t : Turn) × (turn ≡ Some t) → (due : Due T) × (due_of turn left ≡ Some due)
  act_due None left h = absurd (let e = h.1 in cc)
  act_due (Some t) left h = (Acts t, refl)

  packet_due : (turn : Option Turn) (left : Option (Left T)) → (l : Left T) × (left ≡ Some l) → (due : Due T) × (due_of turn left ≡ Some due)
  packet_due (Some t) left h = (Acts t, refl)
  packet_due None None h = absurd (let e = h.1 in cc)
  packet_due None (Some l) h = (Leaves l, refl)

  pub station_wake_first : (p : Params) (st : Station T) → IsFirst (Due T) (λ now. due_at p now st) (station_wake p st)
  station_wake_first p st =
      let host = host_wake_first p st.host in
      let relay = relay_wake_first st.relay.outs in
      record {
        nothing_before = λ now h.
            let parts = before_parts now (host_wake p st.host) (relay_wake st.relay.outs) h in
            ap (λ (turn : Option Turn). due_of turn (leaves_at now st.relay.outs)) (host.nothing_before now parts.0)
            ∙ ap (λ (left : Option (Left T)). due_of None left) (relay.nothing_before now parts.1);
        something_at = λ m e.
            elim (earlier_is (host_wake p st.host) (relay_wake st.relay.outs) m e) [
              | inl here ↦ act_due (next_turn p m st.host) (leaves_at m st.relay.outs) (host.something_at m here)
              | inr there ↦ packet_due (next_turn p m st.host) (leaves_at m st.relay.outs) (relay.something_at m there)
            ];
      }

  flush_stays : (most now : ℕ) (out : Out T) → IsBefore now (out_wake out out.waits) → flush_turns most now out ≡ Done out
  flush_stays zero now out h = refl
  flush_stays (suc most) now out h = ap (flush_on (flush_turns most now)) (first_stays now out out.waits h)

  at_stays : (link now : ℕ) (outs : List (Out T)) → IsBefore now (relay_wake outs) → flush_at link now outs ≡ Done outs
  at_stays link now [] h = refl
  at_stays link now (out ∷ outs) h =
      let parts = before_parts now (out_wake out out.waits) (relay_wake outs) h in
      elim (cases_Bool (out.link == link)) [
        | inl y ↦ rw y (ap (λ (s : Script T (Out T)). s >>= λ after. Done (after ∷ outs)) (flush_stays (length out.waits) now out parts.0))
        | inr n ↦ rw n (ap (λ (s : Script T (List (Out T))). s >>= λ rest. Done (out ∷ rest)) (at_stays link now outs parts.1))
      ]

  links_stay : (now : ℕ) (links : List ℕ) (outs : List (Out T)) → IsBefore now (relay_wake outs) → flush_links now links outs ≡ Done outs
  links_stay now [] outs h = refl
  links_stay now (link ∷ links) outs h = ap (λ (s : Script T (List (Out T))). s >>= λ rest. flush_links now links rest) (at_stays link now outs h) ∙ links_stay now links outs h

  turns_stay : (most : ℕ) (p : Params) (now : ℕ) (st : Station T) → next_turn p now st.host ≡ None → do_turns most p now st ≡ Done st
  turns_stay zero p now st e = refl
  turns_stay (suc most) p now st e = ap (λ (turn : Option Turn). go_on (do_turns most p now) now turn st) e

  settle_stays : (p : Params) (now : ℕ) (st : Station T) → IsBefore now (station_wake p st) → settle_station p now st ≡ Done st
  settle_stays p now st h =
      let parts = before_parts now (host_wake p st.host) (relay_wake st.relay.outs) h in
      ap (λ (s : Script T (List (Out T))). s >>= λ outs. do_turns (work p now st.host) p now (station_with st.host (with_outs st.relay outs))) (links_stay now (map link_of st.relay.outs) st.relay.outs parts.1)
      ∙ turns_stay (work p now st.host) p now st (idle_before p now st.host parts.0)

  -- A TICK BEFORE THE WAKE DOES NOTHING
  pub tick_before_wake : (p : Params) (now : ℕ) (st : Station T) → IsBefore now (station_wake p st) → station_event p now Tick st ≡ Done st
  tick_before_wake p now st h =
      ap (λ (s : Script T (Station T)). s >>= λ before. happen p now Tick before >>= λ after. settle_station p now after) (settle_stays p now st h) ∙ settle_stays p now st h
