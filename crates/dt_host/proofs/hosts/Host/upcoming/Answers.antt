use Rattle.std.proofs.Common.{◌≡◌, Some, None, refl, subst, arith}
use Rattle.std.specs.Prelude.{IfSome}
use Rattle.dt_flow_model.specs.declared.acts.SendKind.TheVariants as S
use Rattle.dt_flow_model.specs.declared.acts.RecvKind.TheVariants as R
use Rattle.dt_host.specs.Dues.{IsNext}
use Rattle.dt_host.specs.Hosts.{HostValue}
use Rattle.dt_host.specs.Sides.{SendSideValue}
use Rattle.dt_host.proofs.HostParts.{lent}
use Rattle.dt_host.proofs.Nexts.{RecvQuiet, SendFirst, SendQuiet, last_next, receiver_next, sender_next}
use Rattle.dt_host.proofs.Offered.{lower_recv, lower_send}
use Rattle.dt_host.proofs.hosts.Host.upcoming.Goals as goal

pub returns-in-Some-clause-next : goal.returns-in-Some-clause-next
returns-in-Some-clause-next g c =
    let h = c.self.inside in
    let s = c.deref_mut-senders.result.now in
    let r = c.deref-receivers.result.now in
    let is = lent h.me.0 h.until h.senders.value s h.receivers.value r _ c.deref_mut-senders.ensures.value c.deref-receivers.ensures c.self.invariant.0 c.self.invariant.1 c.self.view_is in
    subst (λ (v : HostValue). IsNext v.rules v.latest v.state (Some c.in-Some.due)) is.by_senders
    (sender_next h.me.0 h.until s r is.rules is.latest c.count-senders.ensures.entries c.count-receivers.ensures.entries c.count-senders.ensures.distinct c.count-receivers.ensures.distinct S.GiveUp (lower_send (SendQuiet s) 0 (λ l. absurd (omega arith)) (λ l. absurd (omega arith)) (λ l. absurd (omega arith)) (λ l. absurd (omega arith)) (λ l. absurd (omega arith))) (lower_recv (RecvQuiet r) 0 (λ l. absurd (omega arith)) (λ l. absurd (omega arith))) c.in-Some.due c.in-Some.ensures.found)

pub returns-in-Some-due-clause-next : goal.returns-in-Some-due-clause-next
returns-in-Some-due-clause-next g c =
    let h = c.self.inside in
    let s = c.deref_mut-senders.result.now in
    let r = c.deref-receivers.result.now in
    let is = lent h.me.0 h.until h.senders.value s h.receivers.value r _ c.deref_mut-senders.ensures.value c.deref-receivers.ensures c.self.invariant.0 c.self.invariant.1 c.self.view_is in
    subst (λ (v : HostValue). IsNext v.rules v.latest v.state (Some c.in-Some-due.due)) is.by_senders
    (sender_next h.me.0 h.until s r is.rules is.latest c.count-senders.ensures.entries c.count-receivers.ensures.entries c.count-senders.ensures.distinct c.count-receivers.ensures.distinct S.Release (lower_send (SendQuiet s) 1 (λ l. c.in_default.ensures.quiet refl) (λ l. absurd (omega arith)) (λ l. absurd (omega arith)) (λ l. absurd (omega arith)) (λ l. absurd (omega arith))) (lower_recv (RecvQuiet r) 1 (λ l. absurd (omega arith)) (λ l. absurd (omega arith))) c.in-Some-due.due c.in-Some-due.ensures.found)

pub returns-in-Some-due-2-clause-next : goal.returns-in-Some-due-2-clause-next
returns-in-Some-due-2-clause-next g c =
    let h = c.self.inside in
    let s = c.deref_mut-senders.result.now in
    let r = c.deref-receivers.result.now in
    let is = lent h.me.0 h.until h.senders.value s h.receivers.value r _ c.deref_mut-senders.ensures.value c.deref-receivers.ensures c.self.invariant.0 c.self.invariant.1 c.self.view_is in
    subst (λ (v : HostValue). IsNext v.rules v.latest v.state (Some c.in-Some-due-2.due)) is.by_senders
    (receiver_next h.me.0 h.until s r is.rules is.latest c.count-senders.ensures.entries c.count-receivers.ensures.entries c.count-senders.ensures.distinct c.count-receivers.ensures.distinct R.Release (lower_send (SendQuiet s) 2 (λ l. c.in_default.ensures.quiet refl) (λ l. c.in_default-due.ensures.quiet refl) (λ l. absurd (omega arith)) (λ l. absurd (omega arith)) (λ l. absurd (omega arith))) (lower_recv (RecvQuiet r) 2 (λ l. absurd (omega arith)) (λ l. absurd (omega arith))) c.in-Some-due-2.due c.in-Some-due-2.ensures.found)

pub returns-in-Some-due-3-clause-next : goal.returns-in-Some-due-3-clause-next
returns-in-Some-due-3-clause-next g c =
    let h = c.self.inside in
    let s = c.deref_mut-senders.result.now in
    let r = c.deref-receivers.result.now in
    let is = lent h.me.0 h.until h.senders.value s h.receivers.value r _ c.deref_mut-senders.ensures.value c.deref-receivers.ensures c.self.invariant.0 c.self.invariant.1 c.self.view_is in
    subst (λ (v : HostValue). IsNext v.rules v.latest v.state (Some c.in-Some-due-3.due)) is.by_senders
    (receiver_next h.me.0 h.until s r is.rules is.latest c.count-senders.ensures.entries c.count-receivers.ensures.entries c.count-senders.ensures.distinct c.count-receivers.ensures.distinct R.Ack (lower_send (SendQuiet s) 3 (λ l. c.in_default.ensures.quiet refl) (λ l. c.in_default-due.ensures.quiet refl) (λ l. absurd (omega arith)) (λ l. absurd (omega arith)) (λ l. absurd (omega arith))) (lower_recv (RecvQuiet r) 3 (λ l. c.in_default-due-2.ensures.quiet refl) (λ l. absurd (omega arith))) c.in-Some-due-3.due c.in-Some-due-3.ensures.found)

pub returns-in-Some-resend_due-clause-next : goal.returns-in-Some-resend_due-clause-next
returns-in-Some-resend_due-clause-next g c =
    let h = c.self.inside in
    let s = c.deref_mut-senders.result.now in
    let r = c.deref-receivers.result.now in
    let is = lent h.me.0 h.until h.senders.value s h.receivers.value r _ c.deref_mut-senders.ensures.value c.deref-receivers.ensures c.self.invariant.0 c.self.invariant.1 c.self.view_is in
    subst (λ (v : HostValue). IsNext v.rules v.latest v.state (Some c.in-Some-resend_due.due)) is.by_senders
    (sender_next h.me.0 h.until s r is.rules is.latest c.count-senders.ensures.entries c.count-receivers.ensures.entries c.count-senders.ensures.distinct c.count-receivers.ensures.distinct S.Resend (lower_send (SendQuiet s) 4 (λ l. c.in_default.ensures.quiet refl) (λ l. c.in_default-due.ensures.quiet refl) (λ l. absurd (omega arith)) (λ l. absurd (omega arith)) (λ l. absurd (omega arith))) (lower_recv (RecvQuiet r) 4 (λ l. c.in_default-due-2.ensures.quiet refl) (λ l. c.in_default-due-3.ensures.quiet refl)) c.in-Some-resend_due.due c.in-Some-resend_due.ensures.found)

pub returns-in-Some-due-4-clause-next : goal.returns-in-Some-due-4-clause-next
returns-in-Some-due-4-clause-next g c =
    let h = c.self.inside in
    let s = c.deref_mut-senders.result.now in
    let r = c.deref-receivers.result.now in
    let is = lent h.me.0 h.until h.senders.value s h.receivers.value r _ c.deref_mut-senders.ensures.value c.deref-receivers.ensures c.self.invariant.0 c.self.invariant.1 c.self.view_is in
    subst (λ (v : HostValue). IsNext v.rules v.latest v.state (Some c.in-Some-due-4.due)) is.by_senders
    (sender_next h.me.0 h.until s r is.rules is.latest c.count-senders.ensures.entries c.count-receivers.ensures.entries c.count-senders.ensures.distinct c.count-receivers.ensures.distinct S.Send (lower_send (SendQuiet s) 5 (λ l. c.in_default.ensures.quiet refl) (λ l. c.in_default-due.ensures.quiet refl) (λ l. c.in_default-resend_due.ensures.quiet refl) (λ l. absurd (omega arith)) (λ l. absurd (omega arith))) (lower_recv (RecvQuiet r) 5 (λ l. c.in_default-due-2.ensures.quiet refl) (λ l. c.in_default-due-3.ensures.quiet refl)) c.in-Some-due-4.due (subst (λ (v : SendSideValue). SendFirst v S.Send c.in-Some-due-4.due) c.resend_due.ensures.same c.in-Some-due-4.ensures.found))

pub returns-clause-next : goal.returns-clause-next
returns-clause-next g c =
    let h = c.self.inside in
    let s = c.deref_mut-senders.result.now in
    let r = c.deref-receivers.result.now in
    let is = lent h.me.0 h.until h.senders.value s h.receivers.value r _ c.deref_mut-senders.ensures.value c.deref-receivers.ensures c.self.invariant.0 c.self.invariant.1 c.self.view_is in
    subst (λ (v : HostValue). IsNext v.rules v.latest v.state c.due-6.result) is.by_senders
    (last_next h.me.0 h.until s r is.rules is.latest c.count-senders.ensures.entries c.count-receivers.ensures.entries c.count-senders.ensures.distinct c.count-receivers.ensures.distinct (lower_send (SendQuiet s) 6 (λ l. c.in_default.ensures.quiet refl) (λ l. c.in_default-due.ensures.quiet refl) (λ l. c.in_default-resend_due.ensures.quiet refl) (λ l. subst (λ (v : SendSideValue). SendQuiet v S.Send) c.resend_due.ensures.same (c.in_default-due-4.ensures.quiet refl)) (λ l. absurd (omega arith))) (lower_recv (RecvQuiet r) 6 (λ l. c.in_default-due-2.ensures.quiet refl) (λ l. c.in_default-due-3.ensures.quiet refl)) c.due-6.result
    (subst (λ (v : SendSideValue). c.due-6.result ≡ None → SendQuiet v S.Meet) c.resend_due.ensures.same c.due-6.ensures.quiet)
    (subst (λ (v : SendSideValue). IfSome c.due-6.result (λ d. SendFirst v S.Meet d)) c.resend_due.ensures.same c.due-6.ensures.found))
