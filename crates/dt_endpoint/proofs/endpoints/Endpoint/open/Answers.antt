use Rattle.std.proofs.Common.{ap}
use Rattle.dt_endpoint.specs.Collecting.{Collected}
use Rattle.dt_endpoint.proofs.Keeping.{opened_keeps}
use Rattle.dt_endpoint.proofs.endpoints.Endpoint.open.Goals as goal

pub invariant_of-result : goal.invariant_of-result
invariant_of-result c =
    let again = c.cap_moment-again.ensures in
    opened_keeps c.args.rules.now c.args.me.0 c.args.again c.args.links.now.outs.now c.args.links.now.ins.now c.args.links.now.routes.now c.unwrap_or.result c.in_ok-from_slice.field-0.items c.in_ok-station.station c.new-2.result
    (rw again at c.in_ok-station.ensures) (rw again at c.unwrap_or.ensures) c.in_ok-from_slice.ensures.items (ap (λ (x : Collected). x.failed) c.new-2.ensures)
