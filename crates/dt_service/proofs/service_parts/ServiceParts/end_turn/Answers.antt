use Rattle.std.proofs.Common.{rules}
use Rattle.dt_service.specs.Nodes.{node_in}
use Rattle.dt_service.proofs.Stops.{judging_stops}
use Rattle.dt_service.proofs.service_parts.ServiceParts.end_turn.Goals as goal

pub returns-clause-stops : goal.returns-clause-stops
returns-clause-stops c =
    let q = c.read_all.new.self in
    judging_stops c.judge.result c.args.now (node_in c.args.self.now) (node_in q) c.sweep.new.self c.judge.new.self c.in_ok-read_all.ensures.read c.sweep.ensures c.judge.ensures.same

-- refused here: calls_are_judged_by_a_clock_that_goes_back
pub returns-clause-ended : goal.returns-clause-ended
returns-clause-ended c = search rules
