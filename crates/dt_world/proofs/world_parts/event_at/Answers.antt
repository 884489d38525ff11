use Rattle.std.proofs.Common.{ℕ, ◌+◌, ◌≡◌, ◌==◌, List, Some, false, ap, refl, sym, subst, ◌∙◌, arith}
use Rattle.std.specs.Prelude.{option_map}
use Rattle.dt_units.specs.declared.parameters.Params.{Params}
use Rattle.dt_flow_model.specs.Frames.{Mark}
use Rattle.dt_world_model.specs.Relay.{Relay, emptied, new_relay}
use Rattle.dt_world_model.specs.Station.{station_event}
use Rattle.dt_world_model.specs.Tables.{AllEntries, look, write}
use Rattle.dt_world_model.specs.World.{Placed, World}
use Rattle.dt_world_laws.proofs.Worlds.{placed_is}
use Rattle.dt_world.specs.declared.placed_stations.Plan.{Plan}
use Rattle.dt_world.specs.declared.placed_stations.PlacedStation.{PlacedStation}
use Rattle.dt_world.specs.PlacedEvents.{MayCome, event_seen}
use Rattle.dt_notes.specs.Notes.{ledgers_seen}
use Rattle.dt_world.specs.Steps.{noted_in, occasion_with}
use Rattle.dt_world.specs.Worlds.{IsStationOf, placed_seen, stations_seen, world_seen}
use Rattle.dt_world.proofs.Happening.{nothing_happened, occasion_is, result_happened}
use Rattle.dt_notes.proofs.RunTables.{on_both}
use Rattle.dt_notes.proofs.SetupTables.{look_keyed}
use Rattle.dt_world.proofs.StationTables.{all_at, all_written, look_seen, not_there, station_written, with_stations}
use Rattle.dt_world.proofs.world_parts.event_at.Goals as goal

pub returns-in-None-clause-happens : goal.returns-in-None-clause-happens
returns-in-None-clause-happens g c =
    let p = c.args.parts.now in
    nothing_happened g.L.Lines.tells (world_seen p) c.args.node (event_seen c.args.event.now) c.args.lines.now _ (not_there c.args.node p.stations.entries c.in-None.ensures.value) (ap (with_stations p) (ap (λ m. stations_seen m.entries) c.get_mut.follows.holds-at-none))

pub deliver_to_station-requires-clause-unspent : goal.deliver_to_station-requires-clause-unspent
deliver_to_station-requires-clause-unspent g c =
    let p = c.args.parts.now in
    (all_at (IsStationOf p.rules p.now) c.args.node c.in-Some.placed.now p.stations.entries (sym c.in-Some.ensures.value) c.requires.whole.stations).1.unspent

pub deliver_to_station-requires-clause-may : goal.deliver_to_station-requires-clause-may
deliver_to_station-requires-clause-may g c =
    let p = c.args.parts.now in
    let s = c.in-Some.placed.now in
    let found = sym c.in-Some.ensures.value in
    let kept = (all_at (IsStationOf p.rules p.now) c.args.node s p.stations.entries found c.requires.whole.stations).1 in
    subst (λ (rules : Params). MayCome rules (p.now + s.zero) s.station.state c.args.event.now) (sym kept.rules)
    (c.requires.may s (sym (look_keyed PlacedStation c.args.node p.stations.entries) ∙ found))

pub deliver_to_station-requires-clause-past : goal.deliver_to_station-requires-clause-past
deliver_to_station-requires-clause-past g c =
    let p = c.args.parts.now in
    (all_at (IsStationOf p.rules p.now) c.args.node c.in-Some.placed.now p.stations.entries (sym c.in-Some.ensures.value) c.requires.whole.stations).1.past

pub returns-in-Some-clause-happens : goal.returns-in-Some-clause-happens
returns-in-Some-clause-happens g c =
    let p = c.args.parts.now in
    let w = world_seen p in
    let n = c.args.node in
    let s = c.in-Some.placed.now in
    let after = c.deliver_to_station.new.placed in
    let e = event_seen c.args.event.now in
    let found = sym c.in-Some.ensures.value in
    let kept = (all_at (IsStationOf p.rules p.now) n s p.stations.entries found c.requires.whole.stations).1 in
    let there : look ◌==◌ n w.stations ≡ Some (placed_seen s) = look_seen n p.stations.entries ∙ ap (λ o. option_map placed_seen o) found in
    let life = ap (λ (at : Placed). at.life) (placed_is w n (placed_seen s) there c.requires.whole.facts) in
    let entries = (c.get_mut.follows.holds after).0 in
    let same : placed_seen after ≡ record { zero = s.zero; life = s.life; station = after.station.state } =
    ap (λ (z : ℕ). let at : Placed = record { zero = z; life = after.life; station = after.station.state } in at) c.deliver_to_station.ensures.zero
    ∙ ap (λ (l : ℕ). let at : Placed = record { zero = s.zero; life = l; station = after.station.state } in at) c.deliver_to_station.ensures.life in
    let stations : stations_seen (c.get_mut.follows.lender after).entries ≡ write ◌==◌ n (record { zero = s.zero; life = s.life; station = after.station.state }) w.stations =
    ap stations_seen entries ∙ station_written n after s p.stations.entries found ∙ ap (λ (at : Placed). write ◌==◌ n at w.stations) same in
    result_happened g.L.Lines.tells w n e (placed_seen s) there c.args.lines.now c.deliver_to_station.new.lines c.deliver_to_station.new.notes
    (occasion_with p.rules p.now n s.life c.args.brought) (occasion_is w n s.life e c.args.brought life c.requires.brings)
    (noted_in p.notes) refl
    (station_event s.station.rules (p.now + s.zero) e s.station.state) (ap (λ (rules : Params). station_event rules (p.now + s.zero) e s.station.state) kept.rules)
    c.requires.whole.limits c.requires.whole.facts (c.requires.possible (placed_seen s) there)
    c.deliver_to_station.result p.notes refl after.station.state _
    (ap (λ (st : List (ℕ × Placed)). let u : World = record { params = p.rules; now = p.now; stations = st; links = w.links; copies = c.deliver_to_station.new.notes.copies; ledgers = ledgers_seen c.deliver_to_station.new.notes } in u) stations)
    c.deliver_to_station.ensures.happened

pub returns-in-Some-clause-stations : goal.returns-in-Some-clause-stations
returns-in-Some-clause-stations g c =
    let p = c.args.parts.now in
    let s = c.in-Some.placed.now in
    let after = c.deliver_to_station.new.placed in
    let found = sym c.in-Some.ensures.value in
    let kept = (all_at (IsStationOf p.rules p.now) c.args.node s p.stations.entries found c.requires.whole.stations).1 in
    let entries = (c.get_mut.follows.holds after).0 in
    on_both _ _ _ c.deliver_to_station.result
    (λ (unspent : after.station.spent ≡ false) (relay : emptied after.station.state.relay ≡ emptied s.station.state.relay).
    subst (λ (es : List (ℕ × PlacedStation)). AllEntries (IsStationOf p.rules p.now) es) (sym entries)
    (all_written (IsStationOf p.rules p.now) c.args.node after p.stations.entries
    (λ k same. record {
      rules = c.deliver_to_station.ensures.rules ∙ kept.rules;
      unspent = unspent;
      past = (let latest = c.deliver_to_station.ensures.latest in let zero = c.deliver_to_station.ensures.zero in omega (arith, latest, zero));
      relay = relay ∙ kept.relay ∙ ap (λ (plan : Plan). let r : Relay Mark = new_relay plan.outs.items plan.ins.items plan.routes.items in r) (sym c.deliver_to_station.ensures.plan);
    })
    c.requires.whole.stations))
    c.deliver_to_station.ensures.spent c.deliver_to_station.ensures.relay
