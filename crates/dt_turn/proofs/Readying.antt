-- A node that is ready, from its start on.
use Rattle.std.proofs.Common.{◌≡◌, ◌==◌, ◌+◌, ◌*◌, ◌≤◌, ℕ, List, Bool, true, false, refl, arith, ap, subst, sym, inl, inr, ◌∙◌, vec_len, Option, Result, Ok, Err}
use Rattle.std.specs.Prelude.{OnOk, unwrap_or}
use Rattle.std.proofs.lemmas.Bool.{cases_Bool, eqb-true}
use Rattle.dt_units.specs.declared.parameters.Params.{Params}
use Rattle.dt_reports.specs.Told.{Told}
use Rattle.dt_world_model.specs.Host.{Host}
use Rattle.dt_world_model.specs.Relay.{Parcel, Relay, with_outs}
use Rattle.dt_world_model.specs.declared.links.InLink.{InLink}
use Rattle.dt_world_model.specs.declared.links.OutLink.{OutLink}
use Rattle.dt_world_model.specs.declared.links.Route.{Route}
use Rattle.dt_world_model.specs.Script.{Concludes}
use Rattle.dt_world_model.specs.Station.{Event, Station, station_event}
use Rattle.dt_station.specs.Stations.{StationValue, host_started, is_spent_by, station_started}
use Rattle.dt_station.proofs.Playing.{answers_hold}
use Rattle.dt_script.specs.declared.orders.Orders.{Orders}
use Rattle.dt_text.specs.Tasks.{most_octets}
use Rattle.dt_turn.specs.declared.nodes.Node.{Node}
use Rattle.dt_turn.specs.Codes.{GoesOn, IsReady, MayGo}
use Rattle.dt_world_laws.specs.Counting.{HasTakenAtMost, octets_sent}
use Rattle.dt_turn.specs.Nodes.{restart_of}
use Rattle.dt_world_laws.proofs.Counting.{event_few, taken_more}

pub ready_later : (o : Orders) (node : Node) (now after : ℕ) → now ≤ after → IsReady o now node → IsReady o after node
ready_later o node now after h k = record { rules = k.rules; unspent = k.unspent; me = k.me; ins = k.ins; past = omega (arith, k.past); taken = k.taken; buf = k.buf; next = k.next }

-- a node whose station went on, and which has done so many commands
pub ready_on : (o : Orders) (now octets : ℕ) (before after : Node) → IsReady o now before → GoesOn now octets before.io.station after.io.station → before.next * most_octets + octets ≤ after.next * most_octets → vec_len after.buf ≡ most_octets → after.next ≤ vec_len o.commands → IsReady o now after
ready_on o now octets before after h k more buf next = record {
  rules = k.rules ∙ h.rules;
  unspent = k.unspent;
  me = k.me ∙ h.me;
  ins = k.ins ∙ h.ins;
  past = k.past;
  taken = taken_more after.io.station.state.host (before.next * most_octets + octets) (after.next * most_octets) more (k.taken (before.next * most_octets) h.taken);
  buf = buf;
  next = next;
}

pub not_equal : (a b : ℕ) → (a ≡ b → ⊥) → (a == b) ≡ false
not_equal a b h = elim (cases_Bool (a == b)) [ inl y ↦ absurd (h (eqb-true a b y)) | inr n ↦ n ]

pub me_at : (p : Params) (me : ℕ) (again : Bool) → (host_started p me (restart_of again)).me ≡ me
me_at p me true = refl
me_at p me false = refl

-- it may have taken fewer octets
pub goes_more : (now octets more : ℕ) (before after : StationValue (Unit {0})) → octets ≤ more → GoesOn now octets before after → GoesOn now more before after
goes_more now octets more before after h k = record {
  rules = k.rules;
  unspent = k.unspent;
  me = k.me;
  ins = k.ins;
  past = k.past;
  taken = λ bound few. taken_more after.state.host (bound + octets) (bound + more) (omega (arith, h)) (k.taken bound few);
}

pub ok_more : {E : Type 0} (now octets more : ℕ) (before after : StationValue (Unit {0})) (r : Result (Unit {0}) E) → octets ≤ more → OnOk r (GoesOn now octets before after) → OnOk r (GoesOn now more before after)
ok_more now octets more before after (Ok done) h k = goes_more now octets more before after h k
ok_more now octets more before after (Err e) h k = k

-- a relay with other queues has the same links
pub same_ins : (old new : Relay (Unit {0})) → new ≡ with_outs old new.outs → new.ins ≡ old.ins
same_ins old new e = ap (λ (r : Relay (Unit {0})). r.ins) e

-- what a station keeps over an event
module _ {V : Type 0} (tells : V → Told → V → Type 0) (tags : V → Host → List ℕ → Unit {0} → V → Type 0) (hands : V → ℕ → Parcel (Unit {0}) → V → Type 0) (fails : V → V → Type 0) where
  pub event_goes : {E : Type 0} (result : Result (Unit {0}) E) (now : ℕ) (event : Event (Unit {0})) (old new : StationValue (Unit {0})) (v w : V) → Concludes tells tags hands fails result (station_event old.rules now event old.state) v w new.state →
      new.rules ≡ old.rules → new.spent ≡ is_spent_by result → new.state.host.me ≡ old.state.host.me → new.state.relay ≡ with_outs old.state.relay new.state.relay.outs → new.latest ≡ now → OnOk result (GoesOn now (octets_sent event) old new)
  event_goes (Ok done) now event old new v w h rules spent me links latest = record {
    rules = rules;
    unspent = spent;
    me = me;
    ins = same_ins old.state.relay new.state.relay links;
    past = omega (arith, latest);
    taken = λ bound few. answers_hold tells tags hands fails (λ (after : Station (Unit {0})). HasTakenAtMost (bound + octets_sent event) after.host) (station_event old.rules now event old.state) v w new.state (event_few old.rules now bound event old.state few) h;
  }
  event_goes (Err e) now event old new v w h rules spent me links latest = tt

-- and over two, in which it takes no octets to send
pub goes_then : (now : ℕ) (old mid new : StationValue (Unit {0})) → GoesOn now 0 old mid → GoesOn now 0 mid new → GoesOn now 0 old new
goes_then now old mid new h k = record {
  rules = k.rules ∙ h.rules;
  unspent = k.unspent;
  me = k.me ∙ h.me;
  ins = k.ins ∙ h.ins;
  past = k.past;
  taken = λ bound few. taken_more new.state.host (bound + 0 + 0) (bound + 0) (omega arith) (k.taken (bound + 0) (h.taken bound few));
}

pub goes_first : (now : ℕ) (st : StationValue (Unit {0})) → MayGo now st → GoesOn now 0 st st
goes_first now st h = record {
  rules = refl;
  unspent = h.unspent;
  me = refl;
  ins = refl;
  past = h.past;
  taken = λ bound few. taken_more st.state.host bound (bound + 0) (omega arith) few;
}

-- A NODE BEFORE ITS FIRST TURN
latest_at : (again : Bool) → unwrap_or (restart_of again) 0 ≤ 0
latest_at true = omega arith
latest_at false = omega arith

none_taken : (p : Params) (me bound : ℕ) (again : Bool) → HasTakenAtMost bound (host_started p me (restart_of again))
none_taken p me bound true = tt
none_taken p me bound false = tt

ready_started : (o : Orders) (node : Node) (outs : List OutLink) (ins : List InLink) (routes : List Route) → ins ≡ o.setup.ins.items → node.io.station ≡ station_started o.setup.rules o.setup.me.0 (restart_of o.setup.again) outs ins routes → node.next ≡ 0 → vec_len node.buf ≡ most_octets → IsReady o 0 node
ready_started o node outs ins routes links station next buf = record {
  rules = ap (λ (s : StationValue (Unit {0})). s.rules) station;
  unspent = ap (λ (s : StationValue (Unit {0})). s.spent) station;
  me = ap (λ (s : StationValue (Unit {0})). s.state.host.me) station ∙ me_at o.setup.rules o.setup.me.0 o.setup.again;
  ins = ap (λ (s : StationValue (Unit {0})). s.state.relay.ins) station ∙ links;
  past = subst (λ (s : StationValue (Unit {0})). s.latest ≤ 0) (sym station) (latest_at o.setup.again);
  taken = subst (λ (s : StationValue (Unit {0})). HasTakenAtMost (node.next * most_octets) s.state.host) (sym station) (none_taken o.setup.rules o.setup.me.0 (node.next * most_octets) o.setup.again);
  buf = buf;
  next = omega (arith, next);
}

pub ready_first : (o : Orders) (node : Node) (again : Option ℕ) (outs : List OutLink) (ins : List InLink) (routes : List Route) → again ≡ restart_of o.setup.again → ins ≡ o.setup.ins.items → node.io.station ≡ station_started o.setup.rules o.setup.me.0 again outs ins routes → node.next ≡ 0 → vec_len node.buf ≡ most_octets → IsReady o 0 node
ready_first o node again outs ins routes is links station next buf =
    ready_started o node outs ins routes links (subst (λ (a : Option ℕ). node.io.station ≡ station_started o.setup.rules o.setup.me.0 a outs ins routes) is station) next buf
