use Rattle.std.proofs.Common.{◌≡◌, map, drop, length}
use Rattle.dt_relay.specs.Places.{link_of}
use Rattle.dt_world_model.specs.Relay.{with_outs}
use Rattle.dt_world_model.specs.Station.{flush_links}
use Rattle.dt_station.proofs.Playing.{Leads}
use Rattle.dt_station.proofs.flushing.flush_all.Given as goal

-- the links that are left lead to the end of all
abbrev pub invariant-loop-place : goal.invariant-loop-place
invariant-loop-place g l =
    let visitor = g.V.Visitor in
    let links = map link_of l.fn.relay.outs in
    record {
      leads : Leads visitor.tells (visitor.tags l.now.ms) visitor.hands visitor.fails (flush_links l.now.ms links l.fn.relay.outs) l.fn.visitor (flush_links l.now.ms (drop l.place links) l.relay.outs) l.visitor;
      links : map link_of l.relay.outs ≡ links;
      end : l.place-end ≡ length l.fn.relay.outs;
      others : l.relay ≡ with_outs l.fn.relay l.relay.outs;
    }
