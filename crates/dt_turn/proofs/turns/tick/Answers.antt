use Rattle.std.proofs.Common.{Option, refl, subst, ℕ}
use Rattle.dt_flow_model.specs.SendActs.{IsBefore}
use Rattle.dt_turn.proofs.Turning.{no_tick}
use Rattle.dt_turn.proofs.turns.tick.Goals as goal

pub returns-then-not-is_due-clause-ends : goal.returns-then-not-is_due-clause-ends
returns-then-not-is_due-clause-ends g c =
    let v = g.V.Visitor in
    let st = c.args.station.now in
    let now = c.args.now in
    no_tick v.tells (v.tags now) v.hands v.fails st.rules now st.state c.args.visitor.now (subst (λ (wake : Option ℕ). IsBefore now wake) c.wake.ensures (c.if-not-is_due.ensures.later refl))
