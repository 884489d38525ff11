use Rattle.std.proofs.Common.{subst, sym, ◌∙◌}
use Rattle.dt_world_model.specs.Station.{Arrive, station_event}
use Rattle.dt_endpoint.specs.Acts.{plain}
use Rattle.dt_endpoint.specs.Collecting.{CollectEnds, CollectFails, CollectHands, CollectTags, CollectTells, Collected, CollectsPart}
use Rattle.dt_endpoint.proofs.Collects.{ended, ended_part}
use Rattle.dt_endpoint.proofs.Going.{event_goes}
use Rattle.dt_endpoint.proofs.events.receive.Goals as goal

pub returns-then-failed-clause-ends : goal.returns-then-failed-clause-ends
returns-then-failed-clause-ends c =
    let st = c.args.station.now in
    let script = station_event st.rules c.args.now (Arrive c.args.link (plain c.args.frame.now)) st.state in
    subst (λ (s : Collected). CollectsPart script s c.arrive-done.new.visitor) c.begin.ensures (ended_part c.arrive-done.result script c.begin.new.self c.arrive-done.new.visitor c.arrive-done.new.self.state c.arrive-done.ensures.script)

pub returns-clause-ends : goal.returns-clause-ends
returns-clause-ends c =
    let st = c.args.station.now in
    let script = station_event st.rules c.args.now (Arrive c.args.link (plain c.args.frame.now)) st.state in
    subst (λ (s : Collected). CollectEnds c.arrive-done.result script s c.arrive-done.new.visitor c.arrive-done.new.self.state) c.begin.ensures (ended c.arrive-done.result script c.begin.new.self c.arrive-done.new.visitor c.arrive-done.new.self.state c.arrive-done.ensures.script (sym c.failed.ensures ∙ c.if-failed.false))

pub returns-clause-on : goal.returns-clause-on
returns-clause-on c = event_goes CollectTells CollectTags CollectHands CollectFails c.arrive-done.result c.args.now (Arrive c.args.link (plain c.args.frame.now)) c.args.station.now c.arrive-done.new.self c.begin.new.self c.arrive-done.new.visitor c.arrive-done.ensures.script c.arrive-done.ensures.spent c.arrive-done.ensures.current
