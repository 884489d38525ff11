-- A station that starts again, and time that passes, in the world's definitions.
use Rattle.std.proofs.Common.{ℕ, ◌+◌, ◌≤◌, ◌≡◌, ◌==◌, List, [], ◌∷◌, map, Some, None, OnErr, OnOk, Result, Ok, Err, refl, sym, ap, subst, ◌∙◌, arith}
use Rattle.dt_reports.specs.Entries.{Entry}
use Rattle.dt_reports.specs.declared.reports.Report.TheVariants as report
use Rattle.dt_units.specs.declared.parameters.Params.{Params}
use Rattle.dt_flow_model.specs.Frames.{Mark}
use Rattle.dt_world_model.specs.declared.links.InLink.{InLink}
use Rattle.dt_world_model.specs.declared.links.OutLink.{OutLink}
use Rattle.dt_world_model.specs.declared.links.Route.{Route}
use Rattle.dt_world_model.specs.Host.{restarted_host}
use Rattle.dt_world_model.specs.Relay.{Out, Relay, emptied, empty_out, new_relay}
use Rattle.dt_world_model.specs.Station.{Station, station_with}
use Rattle.dt_world_model.specs.Tables.{AllEntries, look, write}
use Rattle.dt_world_model.specs.World.{Placed, World}
use Rattle.dt_world_model.specs.WorldStep.{Restarts, after_event, noted_at, restart_at, restarted}
use Rattle.dt_world.specs.declared.placed_stations.PlacedStation.{PlacedStation}
use Rattle.dt_notes.specs.declared.events.Event.{Event}
use Rattle.dt_notes.specs.declared.events.Event.TheVariants as event
use Rattle.dt_world.specs.declared.world_parts.WorldParts.{WorldParts}
use Rattle.dt_world.specs.Outcomes.{Happens, HasHappened}
use Rattle.dt_world.specs.Stopping.{ComesTo}
use Rattle.dt_notes.specs.Events.{event_of}
use Rattle.dt_world.specs.Worlds.{IsStationOf, IsWhole, placed_seen, world_seen}
use Rattle.dt_world.proofs.Possible.{stopped_at_once}

-- the line of a restart
abbrev pub restart_line : World → ℕ → Placed → Entry
restart_line w n at = record { moment = w.now; node = Some n; told = report.Restarted (at.life + 1) }

pub restart_happened : {L : Type 0} (tells : L → Entry → L → Type 0) (w : World) (n : ℕ) (at : Placed) (before after : L) (world : World) → look ◌==◌ n w.stations ≡ Some at → tells before (restart_line w n at) after
    → world ≡ record { params = w.params; now = w.now; stations = write ◌==◌ n (restarted w.params w.now at) w.stations; links = w.links; copies = w.copies; ledgers = w.ledgers } → HasHappened tells (after_event w (Restarts n)) before after world
restart_happened tells w n at before after world there line is =
    subst (λ (r : List Entry × World). HasHappened tells r before after world) (sym (ap (restart_at w n) there)) (record { lines = (after, line, refl); world_is = is })

pub nobody_restarts : {L : Type 0} (tells : L → Entry → L → Type 0) (w : World) (n : ℕ) (v : L) (world : World) → look ◌==◌ n w.stations ≡ None → world ≡ w → HasHappened tells (after_event w (Restarts n)) v v world
nobody_restarts tells w n v world none is = subst (λ (r : List Entry × World). HasHappened tells r v v world) (sym (ap (restart_at w n) none)) (record { lines = refl; world_is = is })

-- what a station becomes that starts again
pub started_again : (p : Params) (now n : ℕ) (s after : PlacedStation) → s.station.state.host.me ≡ n → emptied s.station.state.relay ≡ new_relay s.plan.outs.items s.plan.ins.items s.plan.routes.items
    → after.zero ≡ s.zero → after.life ≡ s.life + 1 → after.station.state ≡ station_with (restarted_host p n (now + s.zero)) (new_relay s.plan.outs.items s.plan.ins.items s.plan.routes.items) → placed_seen after ≡ restarted p now (placed_seen s)
started_again p now n s after me relay zeros lives state =
    ap (λ (z : ℕ). let at : Placed = record { zero = z; life = after.life; station = after.station.state } in at) zeros
    ∙ ap (λ (l : ℕ). let at : Placed = record { zero = s.zero; life = l; station = after.station.state } in at) lives
    ∙ ap (λ (st : Station Mark). let at : Placed = record { zero = s.zero; life = s.life + 1; station = st } in at) state
    ∙ ap (λ (k : ℕ). let at : Placed = record { zero = s.zero; life = s.life + 1; station = station_with (restarted_host p k (now + s.zero)) (new_relay s.plan.outs.items s.plan.ins.items s.plan.routes.items) } in at) (sym me)
    ∙ ap (λ (r : Relay Mark). let at : Placed = record { zero = s.zero; life = s.life + 1; station = station_with (restarted_host p s.station.state.host.me (now + s.zero)) r } in at) (sym relay)

-- a new relay is emptied already
outs_again : (outs : List OutLink) → (let f : Out Mark → Out Mark = λ out. empty_out out.link out.pace in map f (map (λ (o : OutLink). empty_out o.link o.pace) outs)) ≡ map (λ (o : OutLink). empty_out o.link o.pace) outs
outs_again [] = refl
outs_again (o ∷ outs) = ap (λ (rest : List (Out Mark)). empty_out o.link o.pace ∷ rest) (outs_again outs)

pub emptied_new : (outs : List OutLink) (ins : List InLink) (routes : List Route) → emptied (let r : Relay Mark = new_relay outs ins routes in r) ≡ new_relay outs ins routes
emptied_new outs ins routes = ap (λ (os : List (Out Mark)). let r : Relay Mark = record { outs = os; ins = ins; routes = routes } in r) (outs_again outs)

-- as time passes, what was past is past
pub later_stations : (p : Params) (now later : ℕ) (es : List (ℕ × PlacedStation)) → now ≤ later → AllEntries (IsStationOf p now) es → AllEntries (IsStationOf p later) es
later_stations p now later [] le h = tt
later_stations p now later (e ∷ es) le h = (record { rules = h.0.rules; unspent = h.0.unspent; past = (let was = h.0.past in omega (arith, was, le)); relay = h.0.relay }, later_stations p now later es le h.1)

-- TIME PASSES, or its moment would pass its end
pub pass_happened : {L U E : Type 0} (tells : L → Entry → L → Type 0) (r : Result U E) (parts after : WorldParts) (whole : IsWhole parts) (by by' : ℕ) (e : Event) (v : L) → e ≡ event.Pass by' → by ≡ by' → OnOk r (after ≡ record parts { now = parts.now + by }) → OnErr r (after ≡ parts)
    → Happens tells r (world_seen parts) (ComesTo (world_seen parts) (event_of e)) (after_event (world_seen parts) (event_of e)) v v (world_seen after)
pass_happened tells (Ok done) parts after whole by by' e v is same ok err =
    subst (λ (x : Event). HasHappened tells (after_event (world_seen parts) (event_of x)) v v (world_seen after)) (sym (is ∙ ap event.Pass (sym same))) (record { lines = refl; world_is = ap world_seen ok })
pass_happened tells (Err fault) parts after whole by by' e v is same ok err =
    stopped_at_once parts whole tells (ComesTo (world_seen parts) (event_of e)) (after_event (world_seen parts) (event_of e)) v (world_seen after)
    (subst (λ (x : Event). ComesTo (world_seen parts) (event_of x) (noted_at (world_seen parts))) (sym is) refl) (ap world_seen err)

pub passed_stations : (parts after : WorldParts) (by : ℕ) → IsWhole parts → after ≡ record parts { now = parts.now + by } → AllEntries (IsStationOf after.rules after.now) after.stations.entries
passed_stations parts after by whole is =
    subst (λ (q : WorldParts). AllEntries (IsStationOf q.rules q.now) q.stations.entries) (sym is) (later_stations parts.rules parts.now (parts.now + by) parts.stations.entries (omega arith) whole.stations)
