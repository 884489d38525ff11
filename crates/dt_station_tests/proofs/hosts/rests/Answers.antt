use Rattle.std.proofs.Common.{rules, ◌≡◌, None, arith}
use Rattle.dt_station_tests.proofs.Missed.{none_missed}
use Rattle.dt_station_tests.proofs.hosts.rests.Goals as goal

pub returns-clause-looks : goal.returns-clause-looks
returns-clause-looks g c early =
    let none : c.next-done.result ≡ None = search rules in
    omega (arith, c.next-done.ensures.none none, none_missed c.args.host.now.rules c.args.now early c.args.host.now.state.senders)
