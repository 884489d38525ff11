use Rattle.std.proofs.Common.{ap, arith, false}
use Rattle.dt_items.specs.Unread.{items_of}
use Rattle.dt_items.proofs.Marks.{length-marked}
use Rattle.dt_host.specs.Hosts.{HostValue}
use Rattle.dt_station.proofs.Answered.{taken_fits}
use Rattle.dt_station.proofs.stations.Station.send.Goals as goal

pub taken_count-count-requires : goal.taken_count-count-requires
taken_count-count-requires g c =
    let sent = c.args.sent.now in
    let rules = ap (λ (h : HostValue). h.rules.cap) c.send-asked.ensures.after in
    let fits = taken_fits c.deref_mut.result.now.rules c.self.inside.latest.ms c.args.flow.now (items_of sent) c.deref_mut.result.now.state c.in-Ok.ensures.answer in
    let cap = ap (λ (h : HostValue). h.rules.cap) c.deref.ensures in
    omega (arith, cap, rules, fits, length-marked sent.octets.now sent.begin sent.end false)
