use Rattle.std.proofs.Common.{◌≡◌, ◌+◌, ◌*◌, ◌≤◌}
use Rattle.dt_station_tests.proofs.many_senders.thousand_senders.Given as goal

-- each sender was made at 0, and cost 8 looks at most
abbrev pub invariant-loop-port : goal.invariant-loop-port
invariant-loop-port g l = record {
  rules : l.host.rules ≡ l.initial.host.rules;
  me : l.host.state.me ≡ 1;
  latest : l.host.latest ≡ 0;
  looks : l.steps ≤ l.initial.steps + 8 * l.port;
}
