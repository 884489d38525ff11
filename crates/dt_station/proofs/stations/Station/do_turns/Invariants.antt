use Rattle.dt_world_model.specs.Host.{work}
use Rattle.dt_station.proofs.Turns.{Looping}
use Rattle.dt_station.proofs.stations.Station.do_turns.Given as goal

-- what is left to do leads to the end of all
abbrev pub invariant-turns : goal.invariant-turns
invariant-turns g l =
    let visitor = g.V.Visitor in
    let here = l.self-inside in
    Looping visitor.tells visitor.tags visitor.hands visitor.fails l.fn.self l.fn.visitor here.host.value here.latest.ms here.relay.value l.visitor

abbrev pub decreases-turns : goal.decreases-turns
decreases-turns g l = work l.fn.self.rules l.fn.self.latest l.self-inside.host.value.state
