use Rattle.std.proofs.Common.{◌≡◌, ◌++◌, length, map, take, drop}
use Rattle.dt_calls_model.specs.CallStep.{without_reader}
use Rattle.dt_call_parts.specs.Flows.{flows_seen}
use Rattle.dt_call_parts.proofs.flows.restart.Given as goal

abbrev pub invariant-loop-place : goal.invariant-loop-place
invariant-loop-place l = record {
  seen : flows_seen l.flows.entries ≡ map (without_reader l.station.0) (take l.place (flows_seen l.fn.flows.entries)) ++ drop l.place (flows_seen l.fn.flows.entries);
  long : length l.flows.entries ≡ length l.fn.flows.entries;
}
