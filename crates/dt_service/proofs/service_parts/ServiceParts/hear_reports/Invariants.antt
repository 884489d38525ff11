use Rattle.std.proofs.Common.{◌≡◌, length}
use Rattle.dt_service_model.specs.Turns.{hears}
use Rattle.dt_service.specs.Nodes.{node_in}
use Rattle.dt_service.proofs.Stops.{HeardTo}
use Rattle.dt_service.proofs.service_parts.ServiceParts.hear_reports.Given as goal

abbrev pub invariant-loop-report : goal.invariant-loop-report
invariant-loop-report l = record {
  whole : hears (node_in l.self) ≡ hears (node_in l.fn.self);
  heard : HeardTo (node_in l.fn.self) (node_in l.self);
  room : l.self.room.value ≡ l.fn.self.room.value;
}

abbrev pub decreases-loop-report : goal.decreases-loop-report
decreases-loop-report l = length l.self.endpoint.reports
