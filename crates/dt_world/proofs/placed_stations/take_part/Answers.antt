use Rattle.std.proofs.Common.{subst, sym}
use Rattle.dt_world_model.specs.Station.{station_event}
use Rattle.dt_world.specs.declared.placed_events.PlacedEvent.{PlacedEvent}
use Rattle.dt_world.specs.PlacedEvents.{event_seen}
use Rattle.dt_world.specs.Reporters.{Ends}
use Rattle.dt_world.proofs.placed_stations.take_part.Goals as goal

pub returns-in-Send-clause-script : goal.returns-in-Send-clause-script
returns-in-Send-clause-script g c =
    subst (λ (e : PlacedEvent). Ends g.L.Lines.tells c.local_event.result (station_event c.args.station.now.rules c.args.now.ms (event_seen e) c.args.station.now.state) c.args.reporter.now c.local_event.new.visitor c.local_event.new.self.state)
    (sym c.in-Send.is) c.local_event.ensures.script

pub returns-in-Read-clause-script : goal.returns-in-Read-clause-script
returns-in-Read-clause-script g c =
    subst (λ (e : PlacedEvent). Ends g.L.Lines.tells c.local_event-in-Read.result (station_event c.args.station.now.rules c.args.now.ms (event_seen e) c.args.station.now.state) c.args.reporter.now c.local_event-in-Read.new.visitor c.local_event-in-Read.new.self.state)
    (sym c.in-Read.is) c.local_event-in-Read.ensures.script

pub returns-in-Tick-clause-script : goal.returns-in-Tick-clause-script
returns-in-Tick-clause-script g c =
    subst (λ (e : PlacedEvent). Ends g.L.Lines.tells c.local_event-in-Tick.result (station_event c.args.station.now.rules c.args.now.ms (event_seen e) c.args.station.now.state) c.args.reporter.now c.local_event-in-Tick.new.visitor c.local_event-in-Tick.new.self.state)
    (sym c.in-Tick.is) c.local_event-in-Tick.ensures.script

pub returns-in-Arrive-clause-script : goal.returns-in-Arrive-clause-script
returns-in-Arrive-clause-script g c =
    subst (λ (e : PlacedEvent). Ends g.L.Lines.tells c.arrive.result (station_event c.args.station.now.rules c.args.now.ms (event_seen e) c.args.station.now.state) c.args.reporter.now c.arrive.new.visitor c.arrive.new.self.state)
    (sym c.in-Arrive.is) c.arrive.ensures.script

pub returns-in-Send-clause-spent : goal.returns-in-Send-clause-spent
returns-in-Send-clause-spent g c = c.local_event.ensures.spent

pub returns-in-Send-clause-stays : goal.returns-in-Send-clause-stays
returns-in-Send-clause-stays g c = c.local_event.ensures.stays

pub returns-in-Read-clause-spent : goal.returns-in-Read-clause-spent
returns-in-Read-clause-spent g c = c.local_event-in-Read.ensures.spent

pub returns-in-Read-clause-stays : goal.returns-in-Read-clause-stays
returns-in-Read-clause-stays g c = c.local_event-in-Read.ensures.stays

pub returns-in-Tick-clause-spent : goal.returns-in-Tick-clause-spent
returns-in-Tick-clause-spent g c = c.local_event-in-Tick.ensures.spent

pub returns-in-Tick-clause-stays : goal.returns-in-Tick-clause-stays
returns-in-Tick-clause-stays g c = c.local_event-in-Tick.ensures.stays

pub returns-in-Arrive-clause-spent : goal.returns-in-Arrive-clause-spent
returns-in-Arrive-clause-spent g c = c.arrive.ensures.spent

pub returns-in-Arrive-clause-stays : goal.returns-in-Arrive-clause-stays
returns-in-Arrive-clause-stays g c = c.arrive.ensures.stays
