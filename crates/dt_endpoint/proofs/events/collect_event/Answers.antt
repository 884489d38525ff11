use Rattle.std.proofs.Common.{length, subst, sym, ◌∙◌}
use Rattle.dt_station.specs.Events.{local_seen}
use Rattle.dt_world_model.specs.Station.{station_event}
use Rattle.dt_endpoint.specs.Collecting.{CollectEnds, CollectFails, CollectHands, CollectTags, CollectTells, Collected, CollectsPart}
use Rattle.dt_endpoint.proofs.Collects.{ended, ended_part}
use Rattle.dt_endpoint.proofs.Going.{event_goes}
use Rattle.dt_endpoint.proofs.events.collect_event.Goals as goal

pub returns-then-failed-clause-ends : goal.returns-then-failed-clause-ends
returns-then-failed-clause-ends c =
    let st = c.args.station.now in
    let script = station_event st.rules c.args.now (local_seen (length c.args.buf.now) c.args.event) st.state in
    subst (λ (s : Collected). CollectsPart script s c.local_event-done.new.visitor) c.begin.ensures (ended_part c.local_event-done.result script c.begin.new.self c.local_event-done.new.visitor c.local_event-done.new.self.state c.local_event-done.ensures.script)

pub returns-clause-ends : goal.returns-clause-ends
returns-clause-ends c =
    let st = c.args.station.now in
    let script = station_event st.rules c.args.now (local_seen (length c.args.buf.now) c.args.event) st.state in
    subst (λ (s : Collected). CollectEnds c.local_event-done.result script s c.local_event-done.new.visitor c.local_event-done.new.self.state) c.begin.ensures (ended c.local_event-done.result script c.begin.new.self c.local_event-done.new.visitor c.local_event-done.new.self.state c.local_event-done.ensures.script (sym c.failed.ensures ∙ c.if-failed.false))

pub returns-clause-on : goal.returns-clause-on
returns-clause-on c = event_goes CollectTells CollectTags CollectHands CollectFails c.local_event-done.result c.args.now (local_seen (length c.args.buf.now) c.args.event) c.args.station.now c.local_event-done.new.self c.begin.new.self c.local_event-done.new.visitor c.local_event-done.ensures.script c.local_event-done.ensures.spent c.local_event-done.ensures.current
