use Rattle.std.proofs.lemmas.Result.{err_from_is_err_and}
use Rattle.dt_station.proofs.Flushes.{kept}
use Rattle.dt_station.proofs.Settles.{ends_settle, stops_settle}
use Rattle.dt_station.proofs.stations.Station.settle.Goals as goal

pub returns-in_err-flush_all-clause-ends : goal.returns-in_err-flush_all-clause-ends
returns-in_err-flush_all-clause-ends g c =
    let p = err_from_is_err_and c.from_residual.result c.from_residual.ensures.1 in
    rw (p.1, ← c.self.view_is, ← c.deref_mut.ensures.value) (stops_settle g.V.Visitor.tells (g.V.Visitor.tags c.self.inside.latest.ms) g.V.Visitor.hands g.V.Visitor.fails c.self.inside.host.value.rules c.self.inside.latest.ms c.self.inside.host.value.state c.deref_mut.result.now c.args.visitor.now c.flush_all.new.visitor c.in_err-flush_all.ensures.ends)

pub returns-clause-ends : goal.returns-clause-ends
returns-clause-ends g c =
    rw (← c.self.view_is, ← c.deref_mut.ensures.value) (ends_settle g.V.Visitor.tells (g.V.Visitor.tags c.self.inside.latest.ms) g.V.Visitor.hands g.V.Visitor.fails c.self.inside.host.value.rules c.self.inside.latest.ms c.self.inside.host.value.state c.deref_mut.result.now c.flush_all.new.relay c.args.visitor.now c.flush_all.new.visitor c.do_turns.new.visitor c.do_turns.new.self.state c.do_turns.result
    c.in_ok-flush_all.ensures.ends c.in_ok-flush_all.ensures.others c.do_turns.ensures.ends)

pub returns-clause-stays : goal.returns-clause-stays
returns-clause-stays g c =
    let stays = c.do_turns.ensures.stays in
    rw (← c.self.view_is, ← c.deref_mut.ensures.value) record {
      rules = stays.rules;
      latest = stays.latest;
      me = stays.me;
      links = kept c.deref_mut.result.now c.flush_all.new.relay c.do_turns.new.self.state.relay _ stays.links c.in_ok-flush_all.ensures.others;
    }
