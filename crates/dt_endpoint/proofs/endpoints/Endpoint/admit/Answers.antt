use Rattle.std.proofs.Common.{ap, arith, sym, ◌∙◌}
use Rattle.dt_world_model.specs.Station.{Arrive, station_event}
use Rattle.dt_endpoint.specs.Acts.{plain}
use Rattle.dt_endpoint.specs.Collecting.{Collected}
use Rattle.dt_endpoint.specs.Endpoints.{EndpointValue}
use Rattle.dt_endpoint.proofs.Keeping.{arrival_keeps, counting_keeps}
use Rattle.dt_endpoint.proofs.endpoints.Endpoint.admit.Goals as goal

pub invariant_of-self-else-is_err : goal.invariant_of-self-else-is_err
invariant_of-self-else-is_err c =
    let i = c.self.inside in
    arrival_keeps c.receive-done.result (station_event i.station.rules c.moment_at-now.result (Arrive c.args.link (plain c.deref_mut-3.result.now)) i.station.state) c.receive-done.new.station.state i.latest i.asked c.moment_at-now.result i.spent i.ins.items i.station c.receive-done.new.station c.count_arrival.new.self c.receive-done.new.collector
    (counting_keeps i.latest i.asked i.spent i.ins.items i.station i.collector c.count_arrival.new.self (ap (λ (x : Collected). x.failed) c.count_arrival.ensures) c.self.invariant) (ap (λ (e : EndpointValue). e.spent) c.self.view_is ∙ c.requires.unspent) (sym c.is_err.ensures.value ∙ c.if-is_err.false) c.receive-done.ensures.ends c.receive-done.ensures.on c.receive-done.ensures.stays.latest c.receive-done.ensures.ins
    (omega (arith, c.moment_at-now.ensures.moment, c.self.invariant.moment, ap (λ (e : EndpointValue). e.latest) c.self.view_is))
