use Rattle.std.proofs.Common.{◌≡◌, ◌+◌, ◌*◌, ◌≤◌}
use Rattle.dt_station_tests.proofs.many_senders.octets_go_again.Given as goal

-- each moment is greater than all before, and each act cost 4 looks at most
abbrev pub invariant-loop-now : goal.invariant-loop-now
invariant-loop-now g l = record {
  rules : l.host.rules ≡ l.fn.host.rules;
  past : l.host.latest ≤ l.now;
  looks : l.steps + 80000 ≤ l.fn.steps + 4 * l.now;
}
