use Rattle.std.proofs.Common.{◌≡◌, arith, None, refl, sym, ap, ap₂, subst, ◌∙◌}
use Rattle.std.specs.Prelude.{IfOk}
use Rattle.dt_units.specs.declared.endpoints.Flow.{Flow}
use Rattle.dt_layout.specs.Spelling.{PacketValue, packet_of}
use Rattle.dt_flow_model.specs.declared.arrivals.Arrived.{Arrived}
use Rattle.dt_flow_model.specs.Frames.{flow_of, reply_frame}
use Rattle.dt_world_model.specs.Host.{Host, arrive, receiver_at}
use Rattle.dt_host.specs.Answers.{IsMade}
use Rattle.dt_host.specs.Hosts.{HostValue}
use Rattle.dt_host.proofs.HostParts.{IsHostOf, host_in, lent, seen}
use Rattle.dt_host.proofs.Arrivals.{LeavesFrame, ack_has_no_reply, awake, close_has_no_reply, heard, if_err_is, leaves_frame}
use Rattle.dt_host.proofs.hosts.Host.arrive.Given.{Over}
use Rattle.dt_host.proofs.hosts.Host.arrive.Goals.{After-on_ack, After-on_close, After-on_meet}
use Rattle.dt_host.proofs.hosts.Host.arrive.Goals as goal

pub returns-in-Data-clause-answer : goal.returns-in-Data-clause-answer
returns-in-Data-clause-answer g c =
    let h = c.self.inside in
    let s = h.senders.value in
    let r = c.deref_mut.result.now in
    let host = host_in h.me.0 h.until s.entries r.entries in
    let is = lent h.me.0 h.until h.senders.value s h.receivers.value r _ refl c.deref_mut.ensures.value c.self.invariant.0 c.self.invariant.1 (c.self.view_is ∙ c.reach.ensures) in
    let at = ap (λ (w : HostValue). w.latest) is.by_receivers in
    let whole = heard r.rules r.latest c.args.from.0 host c.flow_of_packet-flow.result (packet_of c.args.packet.now) _ (awake r.latest h.until (let u = c.if-now-self.false in omega arith)) c.flow_of_packet-flow.ensures (ap packet_of c.in-Data.is) in
    subst (λ (w : HostValue). IfOk c.on_data.result (λ answer. answer ≡ (arrive w.rules w.latest c.args.from.0 (packet_of c.args.packet.now) w.state).0)) is.by_receivers
    (subst (λ (done : Arrived × Host). IfOk c.on_data.result (λ answer. answer ≡ done.0)) (sym whole) (c.on_data.ensures.answer host))

pub returns-in-Data-clause-memory : goal.returns-in-Data-clause-memory
returns-in-Data-clause-memory g c = λ err.
    let h = c.self.inside in
    let s = h.senders.value in
    let r = c.deref_mut.result.now in
    let host = host_in h.me.0 h.until s.entries r.entries in
    let is = lent h.me.0 h.until h.senders.value s h.receivers.value r _ refl c.deref_mut.ensures.value c.self.invariant.0 c.self.invariant.1 (c.self.view_is ∙ c.reach.ensures) in
    let made = if_err_is c.on_data.result _ (c.on_data.ensures.memory host) err in
    subst (λ (w : HostValue). IsMade w.rules (flow_of c.args.from.0 w.state.me (packet_of c.args.packet.now)) (packet_of c.args.packet.now) w.state) is.by_receivers
    (subst (λ (f : Flow). IsMade r.rules f (packet_of c.args.packet.now) host) c.flow_of_packet-flow.ensures
    (subst (λ (v : PacketValue). IsMade r.rules c.flow_of_packet-flow.result v host) (sym (ap packet_of c.in-Data.is)) made))

-- AN ACKNOWLEDGEMENT is answered with no reply.
module _ (g : Over) (c : After-on_ack g) where
  ack_leaves : LeavesFrame c.args.self.now.rules (flow_of c.args.from.0 c.args.self.now.state.me (packet_of c.args.packet.now)) c.on_ack.result c.args.reply.now
  ack_leaves =
      let h = c.self.inside in
      let s = c.deref_mut-in-Ack.result.now in
      let r = h.receivers.value in
      let host = host_in h.me.0 h.until s.entries r.entries in
      let is = lent h.me.0 h.until h.senders.value s h.receivers.value r _ c.deref_mut-in-Ack.ensures.value refl c.self.invariant.0 c.self.invariant.1 (c.self.view_is ∙ c.reach.ensures) in
      let f = flow_of c.args.from.0 h.me.0 (packet_of c.args.packet.now) in
      let answered : c.on_ack.result ≡ _ = sym (ap (λ (done : Arrived × Host). done.0) (c.on_ack.ensures.acked host)) in
      let none : reply_frame s.rules f c.on_ack.result ≡ None = ap (reply_frame s.rules f) answered ∙ ack_has_no_reply s.rules host c.flow_of_packet-flow.result f _ in
      subst (λ (w : HostValue). LeavesFrame w.rules (flow_of c.args.from.0 w.state.me (packet_of c.args.packet.now)) c.on_ack.result c.args.reply.now) is.by_senders (leaves_frame s.rules f c.on_ack.result c.args.reply.now none)

pub returns-in-Ack-clause-reply : goal.returns-in-Ack-clause-reply
returns-in-Ack-clause-reply g c = (ack_leaves g (goal.at.returns-in-Ack-clause-reply g c).After-on_ack).reply

pub returns-in-Ack-clause-gram : goal.returns-in-Ack-clause-gram
returns-in-Ack-clause-gram g c = (ack_leaves g (goal.at.returns-in-Ack-clause-gram g c).After-on_ack).gram

-- A RENDEZVOUS: the host that it came to, by its sides as they are lent, and what it is after the event.
module _ (g : Over) (c : After-on_meet g) where
  abbrev met_host : Host
  met_host = host_in c.self.inside.me.0 c.self.inside.until c.self.inside.senders.value.entries c.deref_mut-in-Meet.result.now.entries

  abbrev met_after : Host
  met_after = host_in c.self.inside.me.0 c.self.inside.until c.self.inside.senders.value.entries c.on_meet.new.self.entries

  met_is : IsHostOf c.self.inside.me.0 c.self.inside.until c.self.inside.senders.value c.deref_mut-in-Meet.result.now (record c.args.self.now { latest = c.args.now })
  met_is = lent c.self.inside.me.0 c.self.inside.until c.self.inside.senders.value c.self.inside.senders.value c.self.inside.receivers.value c.deref_mut-in-Meet.result.now _ refl c.deref_mut-in-Meet.ensures.value c.self.invariant.0 c.self.invariant.1 (c.self.view_is ∙ c.reach.ensures)

  met : (c.on_meet.result, met_after) ≡ arrive c.deref_mut-in-Meet.result.now.rules c.deref_mut-in-Meet.result.now.latest c.args.from.0 (packet_of c.args.packet.now) met_host
  met =
      let r = c.deref_mut-in-Meet.result.now in
      let at = ap (λ (w : HostValue). w.latest) met_is.by_receivers in
      let whole = heard r.rules r.latest c.args.from.0 met_host c.flow_of_packet-flow.result (packet_of c.args.packet.now) _ (awake r.latest c.self.inside.until (let u = c.if-now-self.false in omega arith)) c.flow_of_packet-flow.ensures (ap packet_of c.in-Meet.is) in
      let done = c.on_meet.ensures.met met_host in
      ap₂ (λ (answer : Arrived) (host : Host). (answer, host)) done.0 done.1 ∙ sym whole

pub returns-in-Meet-clause-answer : goal.returns-in-Meet-clause-answer
returns-in-Meet-clause-answer g c =
    let k = (goal.at.returns-in-Meet-clause-answer g c).After-on_meet in
    subst (λ (w : HostValue). c.on_meet.result ≡ (arrive w.rules w.latest c.args.from.0 (packet_of c.args.packet.now) w.state).0) (met_is g k).by_receivers
    (ap (λ (done : Arrived × Host). done.0) (met g k))

pub returns-in-Meet-clause-after : goal.returns-in-Meet-clause-after
returns-in-Meet-clause-after g c =
    let k = (goal.at.returns-in-Meet-clause-after g c).After-on_meet in
    let r = c.deref_mut-in-Meet.result.now in
    ap (λ (w : HostValue). seen w.rules w.latest (met_after g k)) (met_is g k).by_senders
    ∙ subst (λ (w : HostValue). seen w.rules w.latest (met_after g k) ≡ record w { state = (arrive w.rules w.latest c.args.from.0 (packet_of c.args.packet.now) w.state).1 }) (met_is g k).by_receivers
    (ap (λ (done : Arrived × Host). seen r.rules r.latest done.1) (met g k))

-- A CLOSING PACKET is answered with no reply.
module _ (g : Over) (c : After-on_close g) where
  close_leaves : LeavesFrame c.args.self.now.rules (flow_of c.args.from.0 c.args.self.now.state.me (packet_of c.args.packet.now)) c.on_close.result c.args.reply.now
  close_leaves =
      let h = c.self.inside in
      let s = h.senders.value in
      let r = c.deref.result.now in
      let host = host_in h.me.0 h.until s.entries r.entries in
      let is = lent h.me.0 h.until h.senders.value s h.receivers.value r _ refl c.deref.ensures c.self.invariant.0 c.self.invariant.1 (c.self.view_is ∙ c.reach.ensures) in
      let f = flow_of c.args.from.0 h.me.0 (packet_of c.args.packet.now) in
      let none : reply_frame s.rules f c.on_close.result ≡ None = ap (reply_frame s.rules f) (c.on_close.ensures.answer host) ∙ close_has_no_reply s.rules f (receiver_at host c.flow_of_packet-flow.result) c.in-Close.number in
      subst (λ (w : HostValue). LeavesFrame w.rules (flow_of c.args.from.0 w.state.me (packet_of c.args.packet.now)) c.on_close.result c.args.reply.now) is.by_senders (leaves_frame s.rules f c.on_close.result c.args.reply.now none)

pub returns-in-Close-clause-reply : goal.returns-in-Close-clause-reply
returns-in-Close-clause-reply g c = (close_leaves g (goal.at.returns-in-Close-clause-reply g c).After-on_close).reply

pub returns-in-Close-clause-gram : goal.returns-in-Close-clause-gram
returns-in-Close-clause-gram g c = (close_leaves g (goal.at.returns-in-Close-clause-gram g c).After-on_close).gram

pub returns-in-Close-clause-answer : goal.returns-in-Close-clause-answer
returns-in-Close-clause-answer g c =
    let h = c.self.inside in
    let s = h.senders.value in
    let r = c.deref.result.now in
    let host = host_in h.me.0 h.until s.entries r.entries in
    let is = lent h.me.0 h.until h.senders.value s h.receivers.value r _ refl c.deref.ensures c.self.invariant.0 c.self.invariant.1 (c.self.view_is ∙ c.reach.ensures) in
    let at = ap (λ (w : HostValue). w.latest) is.by_senders in
    let whole = heard s.rules s.latest c.args.from.0 host c.flow_of_packet-flow.result (packet_of c.args.packet.now) _ (awake s.latest h.until (let u = c.if-now-self.false in omega arith)) c.flow_of_packet-flow.ensures (ap packet_of c.in-Close.is) in
    subst (λ (w : HostValue). c.on_close.result ≡ (arrive w.rules w.latest c.args.from.0 (packet_of c.args.packet.now) w.state).0) is.by_senders
    (c.on_close.ensures.answer host ∙ sym (ap (λ (done : Arrived × Host). done.0) whole))
