use Rattle.std.proofs.Common.{◌∙◌, ap, inl, refl, subst, sym}
use Rattle.std.proofs.lemmas.Result.{err_from_is_err_and}
use Rattle.dt_layout.specs.Carried.{IsGram}
use Rattle.dt_layout.specs.Spelling.{packet_of}
use Rattle.dt_flow_model.specs.Frames.{flow_of}
use Rattle.dt_host.specs.Hosts.{HostValue}
use Rattle.dt_station.proofs.Answered.{failed_stays, given_current, given_past, given_stays, given_stays_then, latest_within, replied_ends, reply_reads, unreplied_ends}
use Rattle.dt_station.proofs.stations.Station.hand_to_host.Goals as goal

pub arrive-requires-clause-past : goal.arrive-requires-clause-past
arrive-requires-clause-past g c =
    given_past g.V.Visitor.tells g.V.Visitor.tags g.V.Visitor.hands g.V.Visitor.fails c.args.self.now c.args.from.0 (packet_of c.args.packet.now) c.self.inside.host.value c.deref_mut.result.now c.deref_mut.result.now c.self.inside.latest.ms c.self.inside.spent c.self.inside.relay.value c.self.view_is c.deref_mut.ensures.value c.self.invariant

pub arrive-requires-clause-current : goal.arrive-requires-clause-current
arrive-requires-clause-current g c =
    given_current g.V.Visitor.tells g.V.Visitor.tags g.V.Visitor.hands g.V.Visitor.fails c.args.self.now c.args.from.0 (packet_of c.args.packet.now) c.self.inside.host.value c.deref_mut.result.now c.deref_mut.result.now c.self.inside.latest.ms c.self.inside.spent c.self.inside.relay.value c.self.view_is c.deref_mut.ensures.value c.requires.current

pub invariant_of-self : goal.invariant_of-self
invariant_of-self g c = latest_within c.arrive.new.self c.self.inside.latest.ms (ap (λ (h : HostValue). h.latest) c.in_err-answer.ensures.after)

pub returns-in_err-answer-clause-ends : goal.returns-in_err-answer-clause-ends
returns-in_err-answer-clause-ends g c =
    let p = err_from_is_err_and c.from_residual.result c.from_residual.ensures.1 in
    rw p.1 (inl refl)

pub returns-in_err-answer-clause-stays : goal.returns-in_err-answer-clause-stays
returns-in_err-answer-clause-stays g c =
    failed_stays g.V.Visitor.tells g.V.Visitor.tags g.V.Visitor.hands g.V.Visitor.fails c.args.self.now c.args.from.0 (packet_of c.args.packet.now) c.self.inside.host.value c.deref_mut.result.now c.arrive.new.self c.self.inside.latest.ms c.self.inside.spent c.self.inside.relay.value c.self.view_is c.deref_mut.ensures.value c.in_err-answer.ensures.after

pub send_off-requires : goal.send_off-requires
send_off-requires g c =
    record {
      gram = subst IsGram (sym c.deref_mut-in-Replied-2.ensures.value)
          (reply_reads c.deref_mut.result.now.rules _ c.in_ok-answer.answer c.in-Replied.number c.in-Replied.window c.deref_mut-2.result.now c.arrive.new.reply c.in-Replied.is c.in_ok-answer.ensures.reply c.in_ok-answer.ensures.gram);
    }

pub invariant_of-self-in-Replied : goal.invariant_of-self-in-Replied
invariant_of-self-in-Replied g c = latest_within c.arrive.new.self c.self.inside.latest.ms (ap (λ (h : HostValue). h.latest) c.in_ok-answer.ensures.after)

pub returns-in-Replied-clause-ends : goal.returns-in-Replied-clause-ends
returns-in-Replied-clause-ends g c =
    replied_ends g.V.Visitor.tells g.V.Visitor.tags g.V.Visitor.hands g.V.Visitor.fails c.args.self.now c.args.from.0 (packet_of c.args.packet.now) c.self.inside.host.value c.deref_mut.result.now c.arrive.new.self c.self.inside.latest.ms c.self.inside.spent c.self.inside.relay.value c.self.view_is c.deref_mut.ensures.value c.in_ok-answer.ensures.after c.flow_of_packet-flow.result c.in_ok-answer.answer c.in_ok-answer.ensures.answer (c.flow_of_packet-flow.ensures ∙ ap (λ me. flow_of c.args.from.0 me (packet_of c.args.packet.now)) (c.me.ensures ∙ ap (λ (h : HostValue). h.state.me) c.deref.ensures)) c.args.visitor.now c.tell.new.self _ c.report_of_arrival.ensures c.tell.ensures
    c.send_off.result c.in-Replied.number c.in-Replied.window c.deref-in-Replied.result.now c.deref_mut-2.result.now c.arrive.new.reply c.deref_mut-in-Replied-2.result.now c.deref_mut-in-Replied.result.now c.send_off.new.relay c.send_off.new.visitor
    c.in-Replied.is c.in_ok-answer.ensures.reply c.deref-in-Replied.ensures c.deref_mut-in-Replied-2.ensures.value c.deref_mut-in-Replied.ensures.value c.send_off.ensures.ends

pub returns-in-Replied-clause-stays : goal.returns-in-Replied-clause-stays
returns-in-Replied-clause-stays g c =
    given_stays_then g.V.Visitor.tells g.V.Visitor.tags g.V.Visitor.hands g.V.Visitor.fails c.args.self.now c.args.from.0 (packet_of c.args.packet.now) c.self.inside.host.value c.deref_mut.result.now c.arrive.new.self c.self.inside.latest.ms c.self.inside.spent c.self.inside.relay.value c.self.view_is c.deref_mut.ensures.value c.in_ok-answer.ensures.after c.deref_mut-in-Replied.result.now c.send_off.new.relay c.deref_mut-in-Replied.ensures.value c.send_off.ensures.others

pub invariant_of-self-in_default : goal.invariant_of-self-in_default
invariant_of-self-in_default g c = latest_within c.arrive.new.self c.self.inside.latest.ms (ap (λ (h : HostValue). h.latest) c.in_ok-answer.ensures.after)

pub returns-clause-ends : goal.returns-clause-ends
returns-clause-ends g c =
    unreplied_ends g.V.Visitor.tells g.V.Visitor.tags g.V.Visitor.hands g.V.Visitor.fails c.args.self.now c.args.from.0 (packet_of c.args.packet.now) c.self.inside.host.value c.deref_mut.result.now c.arrive.new.self c.self.inside.latest.ms c.self.inside.spent c.self.inside.relay.value c.self.view_is c.deref_mut.ensures.value c.in_ok-answer.ensures.after c.flow_of_packet-flow.result c.in_ok-answer.answer c.in_ok-answer.ensures.answer (c.flow_of_packet-flow.ensures ∙ ap (λ me. flow_of c.args.from.0 me (packet_of c.args.packet.now)) (c.me.ensures ∙ ap (λ (h : HostValue). h.state.me) c.deref.ensures)) c.args.visitor.now c.tell.new.self _ c.report_of_arrival.ensures c.tell.ensures c.in_default.not-Replied

pub returns-clause-stays : goal.returns-clause-stays
returns-clause-stays g c =
    given_stays g.V.Visitor.tells g.V.Visitor.tags g.V.Visitor.hands g.V.Visitor.fails c.args.self.now c.args.from.0 (packet_of c.args.packet.now) c.self.inside.host.value c.deref_mut.result.now c.arrive.new.self c.self.inside.latest.ms c.self.inside.spent c.self.inside.relay.value c.self.view_is c.deref_mut.ensures.value c.in_ok-answer.ensures.after
