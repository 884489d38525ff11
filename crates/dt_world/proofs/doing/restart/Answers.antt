use Rattle.std.proofs.Common.{ℕ, ◌+◌, ◌^◌, ◌≡◌, ◌==◌, List, Some, ap, nat_eq, refl, sym, subst, ◌∙◌, arith}
use Rattle.std.specs.Map.{set_value}
use Rattle.dt_reports.specs.declared.reports.Report.TheVariants as report
use Rattle.dt_flow_model.specs.Frames.{Mark}
use Rattle.dt_world_model.specs.Relay.{Relay, emptied, new_relay}
use Rattle.dt_world_model.specs.Station.{Station}
use Rattle.dt_world_model.specs.Tables.{AllEntries, write}
use Rattle.dt_world_model.specs.World.{Placed}
use Rattle.dt_world_model.specs.WorldStep.{Restarts, after_event}
use Rattle.dt_world.specs.declared.placed_stations.Plan.{Plan}
use Rattle.dt_world.specs.declared.placed_stations.PlacedStation.{PlacedStation}
use Rattle.dt_world.specs.Stopping.{ComesTo, IsLastLife}
use Rattle.dt_world.specs.Worlds.{IsStationOf, placed_seen, stations_seen, world_seen}
use Rattle.dt_world.proofs.Possible.{is_placed, stopped_at_once, there}
use Rattle.dt_world.proofs.Restarting.{emptied_new, nobody_restarts, restart_happened, started_again}
use Rattle.dt_notes.proofs.SetupTables.{look_keyed}
use Rattle.dt_world.proofs.StationTables.{all_at, all_written, not_there, station_same, station_written, with_stations}
use Rattle.dt_world.proofs.doing.restart.Goals as goal

pub returns-in-None-clause-happens : goal.returns-in-None-clause-happens
returns-in-None-clause-happens g c =
    let p = c.args.parts.now in
    nobody_restarts g.L.Lines.tells (world_seen p) c.args.node c.args.lines.now _ (not_there c.args.node p.stations.entries c.in-None.ensures.value) (ap (with_stations p) (ap (λ m. stations_seen m.entries) c.get_mut.follows.holds-at-none))

pub returns-in-Err-clause-happens : goal.returns-in-Err-clause-happens
returns-in-Err-clause-happens g c =
    let p = c.args.parts.now in
    let w = world_seen p in
    let n = c.args.node in
    let entries = (c.get_mut.follows.holds c.start_again.new.placed).0 in
    let stations = ap stations_seen entries ∙ ap (λ (x : PlacedStation). stations_seen (set_value (nat_eq n) p.stations.entries x)) c.in-Err.ensures.err ∙ station_same n c.in-Some.placed.now p.stations.entries (sym c.in-Some.ensures.value) in
    stopped_at_once p c.requires.whole g.L.Lines.tells (ComesTo w (Restarts n)) (after_event w (Restarts n)) c.args.lines.now _ refl (ap (with_stations p) stations)

pub returns-in-Ok-clause-happens : goal.returns-in-Ok-clause-happens
returns-in-Ok-clause-happens g c =
    let p = c.args.parts.now in
    let w = world_seen p in
    let n = c.args.node in
    let s = c.in-Some.placed.now in
    let after = c.start_again.new.placed in
    let found = sym c.in-Some.ensures.value in
    let keyed = sym (look_keyed PlacedStation n p.stations.entries) ∙ found in
    let kept = (all_at (IsStationOf p.rules p.now) n s p.stations.entries found c.requires.whole.stations).1 in
    let at = is_placed p c.requires.whole n s keyed in
    let entries = (c.get_mut.follows.holds after).0 in
    let again = started_again p.rules p.now n s after at.me kept.relay c.start_again.ensures.zero c.in-Ok.ensures.life c.in-Ok.ensures.station in
    let stations = ap stations_seen entries ∙ station_written n after s p.stations.entries found ∙ ap (λ (at : Placed). write ◌==◌ n at w.stations) again in
    restart_happened g.L.Lines.tells w n (placed_seen s) c.args.lines.now c.line.new.self _ (there p c.requires.whole n s keyed)
    (subst (λ (life : ℕ). g.L.Lines.tells c.args.lines.now (record { moment = p.now; node = Some n; told = report.Restarted life }) c.line.new.self) c.in-Ok.ensures.life c.line.ensures)
    (ap (with_stations p) stations)

pub returns-in-Ok-clause-stations : goal.returns-in-Ok-clause-stations
returns-in-Ok-clause-stations g c =
    let p = c.args.parts.now in
    let s = c.in-Some.placed.now in
    let after = c.start_again.new.placed in
    let entries = (c.get_mut.follows.holds after).0 in
    subst (λ (es : List (ℕ × PlacedStation)). AllEntries (IsStationOf p.rules p.now) es) (sym entries)
    (all_written (IsStationOf p.rules p.now) c.args.node after p.stations.entries
    (λ k same. record {
      rules = c.in-Ok.ensures.rules;
      unspent = c.in-Ok.ensures.unspent;
      past = (let latest = c.in-Ok.ensures.latest in let zeros = c.start_again.ensures.zero in omega (arith, latest, zeros));
      relay = ap (λ (st : Station Mark). emptied st.relay) c.in-Ok.ensures.station ∙ emptied_new s.plan.outs.items s.plan.ins.items s.plan.routes.items ∙ ap (λ (plan : Plan). let r : Relay Mark = new_relay plan.outs.items plan.ins.items plan.routes.items in r) (sym c.start_again.ensures.plan);
    })
    c.requires.whole.stations)

pub returns-in-None-clause-within : goal.returns-in-None-clause-within
returns-in-None-clause-within g c = λ last. subst IsLastLife (not_there c.args.node c.args.parts.now.stations.entries c.in-None.ensures.value) last

pub returns-in-Ok-clause-within : goal.returns-in-Ok-clause-within
returns-in-Ok-clause-within g c =
    let p = c.args.parts.now in
    let n = c.args.node in
    let s = c.in-Some.placed.now in
    let here = there p c.requires.whole n s (sym (look_keyed PlacedStation n p.stations.entries) ∙ sym c.in-Some.ensures.value) in
    let below = c.in-Ok.ensures.within in
    λ last. (let end : s.life + 1 ≡ 2 ^ 32 = subst IsLastLife here last in omega (arith, end, below))
