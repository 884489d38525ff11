-- What the code of an endpoint keeps, from its opening on.
use Rattle.std.proofs.Common.{◌≡◌, ◌∙◌, ℕ, ◌+◌, ◌<◌, ◌≤◌, Bool, false, List, Option, Some, None, Result, Ok, Err, arith, refl, sym, ap, subst}
use Rattle.std.specs.Prelude.{OnOk, is_err, option_map, unwrap_or}
use Rattle.std.proofs.lemmas.Bool.{false≢true}
use Rattle.dt_units.specs.declared.parameters.Params.{Params}
use Rattle.dt_flow_model.specs.Keeping.{most_moment, octets_below}
use Rattle.dt_world_model.specs.declared.links.InLink.{InLink}
use Rattle.dt_world_model.specs.declared.links.OutLink.{OutLink}
use Rattle.dt_world_model.specs.declared.links.Route.{Route}
use Rattle.dt_world_model.specs.Script.{Script}
use Rattle.dt_station.specs.Stations.{StationValue, station_started}
use Rattle.dt_endpoint.specs.Collecting.{CollectEnds, Collected, begun}
use Rattle.dt_endpoint.specs.Endpoints.{GoesOn, IsEndpoint, capped}
use Rattle.dt_endpoint.specs.Waking.{IsUpToDate, WaitOnFirst}
use Rattle.dt_endpoint.proofs.Flushed.{fresh_still}
use Rattle.dt_endpoint.proofs.UpToDate.{up_to_date}
use Rattle.dt_world_laws.specs.Counting.{HasTakenAtMost}

opened_up_to_date : (p : Params) (me : ℕ) (again : Option ℕ) (outs : List OutLink) (ins : List InLink) (routes : List Route) →
    let started = station_started p me (option_map capped again) outs ins routes in IsUpToDate p started.latest started.state
opened_up_to_date p me None outs ins routes = up_to_date p 0 _ refl (fresh_still 0 outs)
opened_up_to_date p me (Some now) outs ins routes = up_to_date p (capped now) _ refl (fresh_still (capped now) outs)

pub opened_keeps : (p : Params) (me : ℕ) (again : Option ℕ) (outs : List OutLink) (ins : List InLink) (routes : List Route) (latest : ℕ) (items : List InLink) (station : StationValue (Unit {0})) (collector : Collected) →
    station ≡ station_started p me (option_map capped again) outs ins routes → latest ≡ unwrap_or (option_map capped again) 0 → items ≡ ins → collector.failed ≡ false → IsEndpoint latest 0 false items station collector
opened_keeps p me None outs ins routes latest items station collector e l i f = record {
  past = l ∙ sym (ap (λ (s : StationValue (Unit {0})). s.latest) e);
  moment = omega (arith, l);
  links = i ∙ sym (ap (λ (s : StationValue (Unit {0})). s.state.relay.ins) e);
  fine = λ h. record { unspent = ap (λ (s : StationValue (Unit {0})). s.spent) e; fine = f; taken = subst (λ (s : StationValue (Unit {0})). HasTakenAtMost 0 s.state.host) (sym e) tt; few = omega arith; wait_on_first = subst (λ (s : StationValue (Unit {0})). WaitOnFirst s.state.relay.outs) (sym e) (fresh_still 0 outs).1; up_to_date = subst (λ (s : StationValue (Unit {0})). IsUpToDate s.rules s.latest s.state) (sym e) (opened_up_to_date p me None outs ins routes) };
}
opened_keeps p me (Some now) outs ins routes latest items station collector e l i f = record {
  past = l ∙ sym (ap (λ (s : StationValue (Unit {0})). s.latest) e);
  moment = omega (arith, l);
  links = i ∙ sym (ap (λ (s : StationValue (Unit {0})). s.state.relay.ins) e);
  fine = λ h. record { unspent = ap (λ (s : StationValue (Unit {0})). s.spent) e; fine = f; taken = subst (λ (s : StationValue (Unit {0})). HasTakenAtMost 0 s.state.host) (sym e) tt; few = omega arith; wait_on_first = subst (λ (s : StationValue (Unit {0})). WaitOnFirst s.state.relay.outs) (sym e) (fresh_still 0 outs).1; up_to_date = subst (λ (s : StationValue (Unit {0})). IsUpToDate s.rules s.latest s.state) (sym e) (opened_up_to_date p me (Some now) outs ins routes) };
}

-- a collector that only counted
pub counting_keeps : (latest asked : ℕ) (spent : Bool) (ins : List InLink) (station : StationValue (Unit {0})) (c d : Collected) → d.failed ≡ c.failed → IsEndpoint latest asked spent ins station c → IsEndpoint latest asked spent ins station d
counting_keeps latest asked spent ins station c d same inv = record {
  past = inv.past;
  moment = inv.moment;
  links = inv.links;
  fine = λ h. let f = inv.fine h in record { unspent = f.unspent; fine = same ∙ f.fine; taken = f.taken; few = f.few; wait_on_first = f.wait_on_first; up_to_date = f.up_to_date };
}

-- an event that didn't want memory leaves a fine endpoint
pub event_keeps : {A F : Type 0} (result : Result (Unit {0}) F) (script : Script (Unit {0}) A) (answer : A) (latest asked now count sent : ℕ) (spent : Bool) (ins : List InLink) (old new : StationValue (Unit {0})) (c d : Collected) →
    IsEndpoint latest asked spent ins old c → spent ≡ false → is_err result ≡ false → CollectEnds result script (begun c) d answer → OnOk result (GoesOn now sent old new) → new.latest ≡ now → new.state.relay.ins ≡ old.state.relay.ins → count ≡ sent → now ≤ most_moment → asked + count < octets_below → IsEndpoint now (asked + count) spent ins new d
event_keeps (Ok done) script answer latest asked now count sent spent ins old new c d inv unspent ok ends on late links same moment few = record {
  past = sym late;
  moment = moment;
  links = inv.links ∙ sym links;
  fine = λ h. record {
    unspent = on.unspent;
    fine = ap (λ (x : Collected). x.failed) ends.0 ∙ (inv.fine unspent).fine;
    taken = subst (λ (n : ℕ). HasTakenAtMost (asked + n) new.state.host) (sym same) (on.taken asked (inv.fine unspent).taken);
    few = few;
    wait_on_first = on.wait_on_first (inv.fine unspent).wait_on_first;
    up_to_date = subst (λ (t : ℕ). IsUpToDate new.rules t new.state) (sym late) (on.up_to_date (inv.fine unspent).wait_on_first);
  };
}
event_keeps (Err fault) script answer latest asked now count sent spent ins old new c d inv unspent ok ends on late links same moment few = absurd (false≢true (sym ok))

-- the same of one that sends nothing
pub arrival_keeps : {A F : Type 0} (result : Result (Unit {0}) F) (script : Script (Unit {0}) A) (answer : A) (latest asked now : ℕ) (spent : Bool) (ins : List InLink) (old new : StationValue (Unit {0})) (c d : Collected) →
    IsEndpoint latest asked spent ins old c → spent ≡ false → is_err result ≡ false → CollectEnds result script (begun c) d answer → OnOk result (GoesOn now 0 old new) → new.latest ≡ now → new.state.relay.ins ≡ old.state.relay.ins → now ≤ most_moment → IsEndpoint now asked spent ins new d
arrival_keeps result script answer latest asked now spent ins old new c d inv unspent ok ends on late links moment =
    subst (λ (n : ℕ). IsEndpoint now n spent ins new d) (omega arith) (event_keeps result script answer latest asked now 0 0 spent ins old new c d inv unspent ok ends on late links refl moment (omega (arith, (inv.fine unspent).few)))
