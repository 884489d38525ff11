use Rattle.std.proofs.Common.{◌≡◌, drop, take}
use Rattle.std.specs.Prelude.{fold}
use Rattle.dt_service_model.specs.Turns.{read_flow, reads}
use Rattle.dt_service.specs.Nodes.{node_in}
use Rattle.dt_service.proofs.service_parts.ServiceParts.read_all.Given as goal

abbrev pub invariant-loop-flow : goal.invariant-loop-flow
invariant-loop-flow l = record {
  whole : fold (read_flow l.fn.now) (node_in l.self) (drop l.flow-index l.flow-items) ≡ reads l.fn.now (node_in l.fn.self);
  done : node_in l.self ≡ fold (read_flow l.fn.now) (node_in l.fn.self) (take l.flow-index l.flow-items);
}
