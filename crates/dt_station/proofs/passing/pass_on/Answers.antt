use Rattle.std.proofs.Common.{◌≡◌, ◌∙◌, ◌-◌, ℕ, List, ap, refl, sym}
use Rattle.dt_layout.specs.Carried.{life_of, lowered}
use Rattle.dt_reports.specs.declared.reports.Report.TheVariants as report
use Rattle.dt_world_model.specs.Relay.{lower_parcel}
use Rattle.dt_station.proofs.Passes.{away_full, away_nowhere, ends_at_once, straight_expires, straight_goes}
use Rattle.dt_station.proofs.passing.pass_on.Goals as goal

pub returns-in-Leaves-clause-ends : goal.returns-in-Leaves-clause-ends
returns-in-Leaves-clause-ends g c =
    let life : c.life-life.result - 1 ≡ life_of (lowered 1 c.args.frame.now) = ap (λ n. n - 1) c.life-life.ensures ∙ sym c.lower.ensures.lowers.life ∙ ap life_of c.lower.ensures.life_alone in
    rw (straight_goes (record { octets = c.args.frame.now; tag = c.args.tag }) (lower_parcel 1 (record { octets = c.args.frame.now; tag = c.args.tag })) c.args.now.ms c.in-Leaves.link c.args.relay.now c.pass.new.self (c.in-Leaves.ensures.passes (record { octets = c.args.frame.now; tag = c.args.tag }) (sym c.to.ensures) (sym c.life-life.ensures)))
    (ends_at_once g.V.Visitor.tells (g.V.Visitor.tags c.args.now.ms) g.V.Visitor.hands g.V.Visitor.fails (report.Put c.in-Leaves.link (life_of (lowered 1 c.args.frame.now))) c.in-Leaves.link (record { octets = c.lower.new.self; tag = c.args.tag }) (lower_parcel 1 (record { octets = c.args.frame.now; tag = c.args.tag })) c.args.visitor.now c.tell.new.self c.out_at_once.new.self c.pass.new.self c.out_at_once.result
    (rw life at c.tell.ensures) (ap (λ (octets : List ℕ). record { octets = octets; tag = c.args.tag }) c.lower.ensures.life_alone) c.out_at_once.ensures.ok c.out_at_once.ensures.err)

pub returns-in-Expired-clause-ends : goal.returns-in-Expired-clause-ends
returns-in-Expired-clause-ends g c =
    rw (straight_expires (record { octets = c.args.frame.now; tag = c.args.tag }) c.args.now.ms c.in-Expired.link c.args.relay.now c.pass.new.self (c.in-Expired.ensures.passes (record { octets = c.args.frame.now; tag = c.args.tag }) (sym c.to.ensures) (sym c.life-life.ensures)))
    (c.tell-in-Expired.new.self, c.tell-in-Expired.ensures, (refl, refl))

pub returns-in-NoRoute-clause-ends : goal.returns-in-NoRoute-clause-ends
returns-in-NoRoute-clause-ends g c =
    rw (away_nowhere (record { octets = c.args.frame.now; tag = c.args.tag }) c.args.now.ms c.in-NoRoute.to c.args.relay.now c.pass.new.self (c.in-NoRoute.ensures.passes (record { octets = c.args.frame.now; tag = c.args.tag }) (sym c.to.ensures) (sym c.life-life.ensures)))
    (c.tell-in-NoRoute.new.self, c.tell-in-NoRoute.ensures, (refl, refl))

pub returns-in-Full-clause-ends : goal.returns-in-Full-clause-ends
returns-in-Full-clause-ends g c =
    rw (away_full (record { octets = c.args.frame.now; tag = c.args.tag }) c.args.now.ms c.in-Full.link c.args.relay.now c.pass.new.self (c.in-Full.ensures.passes (record { octets = c.args.frame.now; tag = c.args.tag }) (sym c.to.ensures) (sym c.life-life.ensures)))
    (c.tell-in-Full.new.self, c.tell-in-Full.ensures, (refl, refl))

pub returns-in-Waits-clause-ends : goal.returns-in-Waits-clause-ends
returns-in-Waits-clause-ends g c =
    let waits = c.in-Waits.ensures.passes (record { octets = c.args.frame.now; tag = c.args.tag }) (sym c.to.ensures) (sym c.life-life.ensures) in
    rw waits.same at c.wait.ensures.ends
