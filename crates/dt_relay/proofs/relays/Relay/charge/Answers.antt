use Rattle.std.proofs.Common.{◌≡◌, arith, ap, sym, ◌∙◌}
use Rattle.dt_world_model.specs.declared.links.InLink.{InLink}
use Rattle.dt_relay.proofs.Lookups.{charge_by, value_at, value_nowhere, place_within}
use Rattle.dt_relay.proofs.relays.Relay.charge.Goals as goal

pub index-requires : goal.index-requires
index-requires g c = omega (arith, c.self.inside.ins.ok.0, place_within (λ (i : InLink). i.link) c.args.link c.in-Some.place c.self.inside.ins.items (c.in-Some.ensures ∙ rw c.from.ensures (c.self.invariant.by_in_link c.args.link)))

pub returns-in-None : goal.returns-in-None
returns-in-None g c =
    let same : c.self.inside.ins.items ≡ c.args.self.now.ins = ap (λ w. w.ins) c.self.view_is in
    rw (← same) (sym (charge_by c.args.link c.self.inside.ins.items ∙ value_nowhere (λ (i : InLink). i.link) (λ i. i.charge) 0 c.args.link c.self.inside.ins.items (c.in-None.ensures ∙ rw c.from.ensures (c.self.invariant.by_in_link c.args.link))))

pub returns-in-Some : goal.returns-in-Some
returns-in-Some g c =
    let same : c.self.inside.ins.items ≡ c.args.self.now.ins = ap (λ w. w.ins) c.self.view_is in
    rw (← same) (sym (charge_by c.args.link c.self.inside.ins.items ∙ value_at (λ (i : InLink). i.link) (λ i. i.charge) 0 c.args.link c.in-Some.place c.self.inside.ins.items c.index.result.now (c.in-Some.ensures ∙ rw c.from.ensures (c.self.invariant.by_in_link c.args.link)) c.index.ensures))
