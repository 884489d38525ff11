use Rattle.std.proofs.Common.{ℕ, ◌+◌, ◌≡◌, ◌-◌}
use Rattle.dt_service_model.specs.Turns.{read_times}
use Rattle.dt_service.specs.Nodes.{node_in}
use Rattle.dt_service.proofs.service_parts.ServiceParts.read_times.Given as goal

abbrev pub invariant-loop : goal.invariant-loop
invariant-loop l = record {
  whole : read_times (l.fn.most - l.counter) l.fn.now l.fn.flow (node_in l.self) ≡ read_times l.fn.most l.fn.now l.fn.flow (node_in l.fn.self);
  done : (more : ℕ) → read_times (l.counter + more) l.fn.now l.fn.flow (node_in l.fn.self) ≡ read_times more l.fn.now l.fn.flow (node_in l.self);
}
