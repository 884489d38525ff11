use Rattle.std.proofs.Common.{ap, arith}
use Rattle.dt_host.specs.Hosts.{HostValue}
use Rattle.dt_station.proofs.stations.Station.new.Goals as goal

pub invariant_of-result : goal.invariant_of-result
invariant_of-result g c = omega (arith, ap (λ (h : HostValue). h.latest) c.in_ok-host.ensures, c.unwrap_or.ensures)
