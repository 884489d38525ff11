use Rattle.std.proofs.lemmas.Result.{err_from_is_err_and}
use Rattle.dt_station.proofs.Turns.{loop_current, loop_ends, loop_falls, loop_latest, loop_made, loop_past, loop_reads, loop_starts, loop_stays, loop_stays_then, loop_stops, loop_unmade}
use Rattle.dt_station.proofs.stations.Station.do_turns.Goals as goal

pub turns-init : goal.turns-init
turns-init g c =
    loop_starts g.V.Visitor.tells g.V.Visitor.tags g.V.Visitor.hands g.V.Visitor.fails c.args.self.now c.args.visitor.now c.self.inside.host.value c.self.inside.latest.ms c.self.inside.spent c.self.inside.relay.value c.self.view_is c.self.invariant

pub next-requires-clause-past : goal.next-requires-clause-past
next-requires-clause-past g c =
    loop_past g.V.Visitor.tells g.V.Visitor.tags g.V.Visitor.hands g.V.Visitor.fails c.args.self.now c.args.visitor.now c.turns.visitor c.turns.self-inside.host.value c.deref_mut.result.now c.turns.self-inside.latest.ms c.turns.self-inside.relay.value c.turns.invariant c.deref_mut.ensures.value

pub turns-smaller-then-not-makes_frame : goal.turns-smaller-then-not-makes_frame
turns-smaller-then-not-makes_frame g c =
    loop_falls g.V.Visitor.tells g.V.Visitor.tags g.V.Visitor.hands g.V.Visitor.fails c.args.self.now c.args.visitor.now c.turns.visitor c.turns.self-inside.host.value c.deref_mut.result.now c.next.new.self c.turns.self-inside.latest.ms c.turns.self-inside.relay.value c.turns.invariant c.deref_mut.ensures.value c.in-Some.ensures.after c.in-Some.done c.deref_mut-in-turns.result.now c.next.new.frame c.in-Some.ensures.turn c.in-Some.ensures.frame c.in-Some.ensures.falls

pub turns-preserved-then-not-makes_frame : goal.turns-preserved-then-not-makes_frame
turns-preserved-then-not-makes_frame g c =
    loop_unmade g.V.Visitor.tells g.V.Visitor.tags g.V.Visitor.hands g.V.Visitor.fails c.args.self.now c.args.visitor.now c.turns.visitor c.turns.self-inside.host.value c.deref_mut.result.now c.next.new.self c.turns.self-inside.latest.ms c.turns.self-inside.relay.value c.turns.invariant c.deref_mut.ensures.value c.in-Some.ensures.after c.in-Some.done c.deref_mut-in-turns.result.now c.next.new.frame c.in-Some.ensures.turn c.in-Some.ensures.frame c.in-Some.ensures.falls
    c.tell.new.self _ c.report_of_act.ensures c.tell.ensures c.if-not-makes_frame.ensures

pub send_off-requires : goal.send_off-requires
send_off-requires g c =
    record {
      gram = loop_reads g.V.Visitor.tells g.V.Visitor.tags g.V.Visitor.hands g.V.Visitor.fails c.args.self.now c.args.visitor.now c.turns.visitor c.turns.self-inside.host.value c.deref_mut.result.now c.next.new.self c.turns.self-inside.latest.ms c.turns.self-inside.relay.value c.turns.invariant c.deref_mut.ensures.value c.in-Some.ensures.after c.in-Some.done c.deref_mut-in-turns.result.now c.next.new.frame c.in-Some.ensures.turn c.in-Some.ensures.frame c.in-Some.ensures.falls
          c.tell.new.self _ c.report_of_act.ensures c.tell.ensures c.if-not-makes_frame.ensures c.deref.result.now c.deref_mut-in-Some-2.result.now c.deref_mut-in-Some.result.now c.deref.ensures c.deref_mut-in-Some-2.ensures.value c.deref_mut-in-Some.ensures.value
          c.in-Some.ensures.gram;
    }

pub turns-smaller : goal.turns-smaller
turns-smaller g c =
    loop_falls g.V.Visitor.tells g.V.Visitor.tags g.V.Visitor.hands g.V.Visitor.fails c.args.self.now c.args.visitor.now c.turns.visitor c.turns.self-inside.host.value c.deref_mut.result.now c.next.new.self c.turns.self-inside.latest.ms c.turns.self-inside.relay.value c.turns.invariant c.deref_mut.ensures.value c.in-Some.ensures.after c.in-Some.done c.deref_mut-in-turns.result.now c.next.new.frame c.in-Some.ensures.turn c.in-Some.ensures.frame c.in-Some.ensures.falls

pub turns-preserved : goal.turns-preserved
turns-preserved g c =
    loop_made g.V.Visitor.tells g.V.Visitor.tags g.V.Visitor.hands g.V.Visitor.fails c.args.self.now c.args.visitor.now c.turns.visitor c.turns.self-inside.host.value c.deref_mut.result.now c.next.new.self c.turns.self-inside.latest.ms c.turns.self-inside.relay.value c.turns.invariant c.deref_mut.ensures.value c.in-Some.ensures.after c.in-Some.done c.deref_mut-in-turns.result.now c.next.new.frame c.in-Some.ensures.turn c.in-Some.ensures.frame c.in-Some.ensures.falls
    c.tell.new.self _ c.report_of_act.ensures c.tell.ensures c.if-not-makes_frame.ensures c.deref.result.now c.deref_mut-in-Some-2.result.now c.deref_mut-in-Some.result.now c.deref.ensures c.deref_mut-in-Some-2.ensures.value c.deref_mut-in-Some.ensures.value
    c.send_off.new.visitor c.send_off.new.relay c.in_ok-send_off.ensures.others c.in_ok-send_off.ensures.ends

pub invariant_of-self : goal.invariant_of-self
invariant_of-self g c =
    loop_latest g.V.Visitor.tells g.V.Visitor.tags g.V.Visitor.hands g.V.Visitor.fails c.args.self.now c.args.visitor.now c.turns.visitor c.turns.self-inside.host.value c.deref_mut.result.now c.next.new.self c.turns.self-inside.latest.ms c.turns.self-inside.relay.value c.turns.invariant c.deref_mut.ensures.value c.in-Some.ensures.after

pub returns-in_err-send_off-clause-ends : goal.returns-in_err-send_off-clause-ends
returns-in_err-send_off-clause-ends g c =
    let p = err_from_is_err_and c.from_residual.result c.from_residual.ensures.1 in
    rw p.1 (loop_stops g.V.Visitor.tells g.V.Visitor.tags g.V.Visitor.hands g.V.Visitor.fails c.args.self.now c.args.visitor.now c.turns.visitor c.turns.self-inside.host.value c.deref_mut.result.now c.next.new.self c.turns.self-inside.latest.ms c.turns.self-inside.relay.value c.turns.invariant c.deref_mut.ensures.value c.in-Some.ensures.after c.in-Some.done c.deref_mut-in-turns.result.now c.next.new.frame c.in-Some.ensures.turn c.in-Some.ensures.frame c.in-Some.ensures.falls
    c.tell.new.self _ c.report_of_act.ensures c.tell.ensures c.if-not-makes_frame.ensures c.deref.result.now c.deref_mut-in-Some-2.result.now c.deref_mut-in-Some.result.now c.deref.ensures c.deref_mut-in-Some-2.ensures.value c.deref_mut-in-Some.ensures.value
    c.send_off.new.visitor c.in_err-send_off.ensures.ends)

pub returns-in_err-send_off-clause-stays : goal.returns-in_err-send_off-clause-stays
returns-in_err-send_off-clause-stays g c =
    loop_stays_then g.V.Visitor.tells g.V.Visitor.tags g.V.Visitor.hands g.V.Visitor.fails c.args.self.now c.args.visitor.now c.turns.visitor c.turns.self-inside.host.value c.deref_mut.result.now c.next.new.self c.turns.self-inside.latest.ms c.turns.self-inside.relay.value c.turns.invariant c.deref_mut.ensures.value c.in-Some.ensures.after c.in-Some.done c.deref_mut-in-turns.result.now c.next.new.frame c.in-Some.ensures.turn c.in-Some.ensures.frame c.in-Some.ensures.falls
    c.tell.new.self _ c.report_of_act.ensures c.tell.ensures c.if-not-makes_frame.ensures c.deref.result.now c.deref_mut-in-Some-2.result.now c.deref_mut-in-Some.result.now c.deref.ensures c.deref_mut-in-Some-2.ensures.value c.deref_mut-in-Some.ensures.value
    c.turns.self-inside.spent c.send_off.new.relay c.in_err-send_off.ensures.others

pub invariant_of-self-in_default : goal.invariant_of-self-in_default
invariant_of-self-in_default g c =
    loop_latest g.V.Visitor.tells g.V.Visitor.tags g.V.Visitor.hands g.V.Visitor.fails c.args.self.now c.args.visitor.now c.turns.visitor c.turns.self-inside.host.value c.deref_mut.result.now c.next.new.self c.turns.self-inside.latest.ms c.turns.self-inside.relay.value c.turns.invariant c.deref_mut.ensures.value c.in_default.ensures.after

pub returns-clause-ends : goal.returns-clause-ends
returns-clause-ends g c =
    loop_ends g.V.Visitor.tells g.V.Visitor.tags g.V.Visitor.hands g.V.Visitor.fails c.args.self.now c.args.visitor.now c.turns.visitor c.turns.self-inside.host.value c.deref_mut.result.now c.next.new.self c.turns.self-inside.latest.ms c.turns.self-inside.relay.value c.turns.invariant c.deref_mut.ensures.value c.in_default.ensures.after c.in_default.ensures.turn

pub returns-clause-current : goal.returns-clause-current
returns-clause-current g c =
    loop_current g.V.Visitor.tells g.V.Visitor.tags g.V.Visitor.hands g.V.Visitor.fails c.args.self.now c.args.visitor.now c.turns.visitor c.turns.self-inside.host.value c.deref_mut.result.now c.next.new.self c.turns.self-inside.latest.ms c.turns.self-inside.relay.value c.turns.invariant c.deref_mut.ensures.value c.in_default.ensures.after c.in_default.ensures.turn

pub returns-clause-stays : goal.returns-clause-stays
returns-clause-stays g c =
    loop_stays g.V.Visitor.tells g.V.Visitor.tags g.V.Visitor.hands g.V.Visitor.fails c.args.self.now c.args.visitor.now c.turns.visitor c.turns.self-inside.host.value c.deref_mut.result.now c.next.new.self c.turns.self-inside.latest.ms c.turns.self-inside.relay.value c.turns.invariant c.deref_mut.ensures.value c.in_default.ensures.after c.turns.self-inside.spent c.turns.self-inside.relay.value c.turns.invariant.others
