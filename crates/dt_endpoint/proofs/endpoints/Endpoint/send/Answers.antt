use Rattle.std.proofs.Common.{◌≡◌, ◌∙◌, ◌==◌, ℕ, false, ap, arith, length, sym, subst}
use Rattle.std.specs.Prelude.{not}
use Rattle.std.proofs.lemmas.Bool.{eqb-false}
use Rattle.dt_flow_model.specs.Keeping.{octets_below}
use Rattle.dt_world_model.specs.Host.{Host}
use Rattle.dt_endpoint.proofs.Answering.{is_equal, send_done, send_unrefused}
use Rattle.dt_world_laws.proofs.Counting.{settled_counts}
use Rattle.dt_endpoint.specs.Endpoints.{EndpointValue, moment_of}
use Rattle.dt_world_laws.specs.Counting.{HasTakenAtMost}
use Rattle.dt_endpoint.proofs.endpoints.Endpoint.send.Goals as goal

pub overflow_sub-self-inside : goal.overflow_sub-self-inside
overflow_sub-self-inside c = let fine = c.self.invariant.fine c.if-self.false in omega (arith, fine.few)

pub event-requires-clause-may : goal.event-requires-clause-may
event-requires-clause-may c =
    let e = c.args.self.now in
    let fine = c.self.invariant.fine c.if-self.false in
    let same : c.self.inside.asked ≡ e.asked = ap (λ (e : EndpointValue). e.asked) c.self.view_is in
    let me : c.me-me.result.0 ≡ e.state.host.me = c.me-me.ensures ∙ ap (λ (h : Host). h.me) c.host.ensures.state ∙ ap (λ (e : EndpointValue). e.state.host.me) c.self.view_is in
    let to : (c.args.flow.to.0 == e.state.host.me) ≡ false = subst (λ (n : ℕ). (c.args.flow.to.0 == n) ≡ false) me (sym c.eq.ensures ∙ c.if-eq.false) in
    let some : (length c.args.octets.now == 0) ≡ false = sym c.is_empty.ensures ∙ c.if-is_empty.false in
    record {
      from = is_equal _ _ (sym c.ne.ensures ∙ c.if-ne.false) ∙ me;
      to = eqb-false _ _ to;
      some = omega (arith, eqb-false _ _ some);
      counted = settled_counts e.rules (moment_of c.args.now e) e.asked c.args.flow (length c.args.octets.now) octets_below e.state (subst (λ (e : EndpointValue). HasTakenAtMost e.asked e.state.host) c.self.view_is fine.taken) (omega (arith, fine.few, same, c.if-octets-self.false));
    }

pub returns-in-Ok : goal.returns-in-Ok
returns-in-Ok c =
    let e = c.args.self.now in
    let fine = c.self.invariant.fine c.if-self.false in
    let same : c.self.inside.asked ≡ e.asked = ap (λ (e : EndpointValue). e.asked) c.self.view_is in
    let me : c.me-me.result.0 ≡ e.state.host.me = c.me-me.ensures ∙ ap (λ (h : Host). h.me) c.host.ensures.state ∙ ap (λ (e : EndpointValue). e.state.host.me) c.self.view_is in
    let from : not (c.args.flow.from.0 == e.state.host.me) ≡ false = subst (λ (n : ℕ). not (c.args.flow.from.0 == n) ≡ false) me (sym c.ne.ensures ∙ c.if-ne.false) in
    let to : (c.args.flow.to.0 == e.state.host.me) ≡ false = subst (λ (n : ℕ). (c.args.flow.to.0 == n) ≡ false) me (sym c.eq.ensures ∙ c.if-eq.false) in
    let unspent : e.spent ≡ false = sym (ap (λ (e : EndpointValue). e.spent) c.self.view_is) ∙ c.if-self.false in
    send_done c.args.now c.args.flow c.args.octets.now c.args.begin c.args.end e c.event.new.self c.sent_by.result c.in-Ok.heard
    (send_unrefused c.args.flow c.args.octets.now e unspent from to (sym c.is_empty.ensures ∙ c.if-is_empty.false) (omega (arith, fine.few, same, c.if-octets-self.false)))
    c.sent_by.ensures c.in-Ok.ensures.heard c.in-Ok.ensures.ends
