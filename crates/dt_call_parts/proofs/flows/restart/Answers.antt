use Rattle.std.proofs.Common.{arith}
use Rattle.dt_call_parts.proofs.FlowTables.{restarted_next}
use Rattle.dt_call_parts.proofs.flows.restart.Goals as goal

pub loop-place-preserved : goal.loop-place-preserved
loop-place-preserved c =
    let next = restarted_next c.args.station.0 c.args.flows.now.entries c.loop-place.flows.entries c.restart_at.new.flows.entries c.loop-place.place (let h = c.loop-place-test.true in let long = c.loop-place.invariant.long in let count = c.len-place-end.ensures.len in omega arith) c.loop-place.invariant.seen c.loop-place.invariant.long c.restart_at.ensures in
    record { seen = next.0; long = next.1 }
