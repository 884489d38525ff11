use Rattle.std.proofs.Common.{◌≡◌, ◌+◌, ◌*◌, ◌≤◌}
use Rattle.dt_station_tests.proofs.many_senders.senders_begin.Given as goal

-- each moment is greater than all before, and each sender cost 8 looks at most
abbrev pub invariant-loop-port : goal.invariant-loop-port
invariant-loop-port g l = record {
  rules : l.host.rules ≡ l.fn.host.rules;
  me : l.host.state.me ≡ 1;
  past : l.host.latest ≤ l.port;
  last : l.host.latest ≤ 19999;
  looks : l.steps ≤ l.fn.steps + 8 * l.port;
}
