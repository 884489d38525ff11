use Rattle.std.proofs.Common.{◌≡◌, map}
use Rattle.dt_relay.specs.Places.{link_in, link_of}
use Rattle.dt_world_model.specs.Relay.{with_outs}
use Rattle.dt_world_model.specs.Station.{flush_at}
use Rattle.dt_station.proofs.Playing.{Leads}
use Rattle.dt_station.proofs.Flushes.{waiting_on}
use Rattle.dt_station.proofs.flushing.flush.Given as goal

-- what is left to flush leads to the end of all
abbrev pub invariant-flush : goal.invariant-flush
invariant-flush g l =
    let visitor = g.V.Visitor in
    let link = link_in l.fn.relay.outs l.place in
    record {
      leads : Leads visitor.tells (visitor.tags l.now.ms) visitor.hands visitor.fails (flush_at link l.now.ms l.fn.relay.outs) l.fn.visitor (flush_at link l.now.ms l.relay.outs) l.visitor;
      links : map link_of l.relay.outs ≡ map link_of l.fn.relay.outs;
      others : l.relay ≡ with_outs l.fn.relay l.relay.outs;
    }

abbrev pub decreases-flush : goal.decreases-flush
decreases-flush g l = waiting_on l.relay.outs
