use Rattle.std.proofs.Common.{ap, arith, length, sym, ◌∙◌}
use Rattle.dt_station.specs.Events.{local_seen}
use Rattle.dt_world_model.specs.Station.{station_event}
use Rattle.dt_endpoint.specs.Endpoints.{EndpointValue}
use Rattle.dt_world_laws.specs.Counting.{octets_sent}
use Rattle.dt_endpoint.proofs.Keeping.{event_keeps}
use Rattle.dt_endpoint.proofs.endpoints.Endpoint.event.Goals as goal

pub invariant_of-self-2 : goal.invariant_of-self-2
invariant_of-self-2 c =
    let i = c.self.inside in
    let event = local_seen (length c.args.buf.now) c.args.event in
    event_keeps c.collect_event-done.result (station_event i.station.rules c.moment_at-now.result event i.station.state) c.collect_event-done.new.station.state i.latest i.asked c.moment_at-now.result c.octets_in.result (octets_sent event) i.spent i.ins.items i.station c.collect_event-done.new.station i.collector c.collect_event-done.new.collector
    c.self.invariant (ap (λ (e : EndpointValue). e.spent) c.self.view_is ∙ c.requires.unspent) (sym c.is_err.ensures.value ∙ c.if-is_err.false) c.collect_event-done.ensures.ends c.collect_event-done.ensures.on c.collect_event-done.ensures.stays.latest c.collect_event-done.ensures.ins (c.octets_in.ensures (length c.args.buf.now))
    (omega (arith, c.moment_at-now.ensures.moment, c.self.invariant.moment, ap (λ (e : EndpointValue). e.latest) c.self.view_is))
    (omega (arith, c.requires.few, c.octets_in.ensures (length c.args.buf.now), ap (λ (e : EndpointValue). e.asked) c.self.view_is))
