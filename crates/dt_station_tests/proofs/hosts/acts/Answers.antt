use Rattle.std.proofs.Common.{◌≡◌, ◌<◌, ap, arith, subst, sym}
use Rattle.dt_units.specs.declared.parameters.Params.{Params}
use Rattle.dt_host.specs.Hosts.{HostValue}
use Rattle.dt_station_tests.proofs.Missed.{none_missed}
use Rattle.dt_station_tests.proofs.hosts.acts.Goals as goal

pub returns-clause-looks : goal.returns-clause-looks
returns-clause-looks g c early =
    let same : c.next-done.new.self.rules ≡ c.args.host.now.rules = ap (λ (h : HostValue). h.rules) c.next-done.ensures.after in
    let still : c.args.now < c.next-done.new.self.rules.r = subst (λ (p : Params). c.args.now < p.r) (sym same) early in
    omega (arith, c.rests.ensures.looks still, c.next-done.ensures.looks, none_missed c.args.host.now.rules c.args.now early c.args.host.now.state.senders)
