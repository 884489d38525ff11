use Rattle.std.proofs.Common.{◌≡◌, ap, refl, None, ◌∙◌}
use Rattle.dt_world_model.specs.Relay.{leave}
use Rattle.dt_relay.proofs.Links.{leave_link, on_link_at, on_link_nowhere}
use Rattle.dt_relay.specs.Places.{link_in, link_of}
use Rattle.dt_relay.proofs.Lookups.{stays_placed}
use Rattle.dt_relay.proofs.relays.Relay.leave_at.Goals as goal

pub returns-in-None-clause-left : goal.returns-in-None-clause-left
returns-in-None-clause-left g c = rw (on_link_nowhere (link_in c.args.self.now.outs c.args.place) None (leave c.args.now.ms) c.args.self.now.outs c.in-None.ensures.first) refl

pub returns-in-None-clause-after : goal.returns-in-None-clause-after
returns-in-None-clause-after g c = rw (on_link_nowhere (link_in c.args.self.now.outs c.args.place) None (leave c.args.now.ms) c.args.self.now.outs c.in-None.ensures.first) refl

pub returns-in-Some-clause-left : goal.returns-in-Some-clause-left
returns-in-Some-clause-left g c =
    let same : c.self.inside.outs.items ≡ c.args.self.now.outs = ap (λ w. w.outs) c.self.view_is in
    rw (on_link_at (link_in c.args.self.now.outs c.args.place) None (leave c.args.now.ms) c.args.self.now.outs c.index_mut-queue.result.now c.in-Some.i c.in-Some.ensures.first c.in-Some.ensures.within (rw (← same) c.index_mut-queue.ensures.value)) c.leave.ensures.left

pub returns-in-Some-clause-after : goal.returns-in-Some-clause-after
returns-in-Some-clause-after g c =
    let same : c.self.inside.outs.items ≡ c.args.self.now.outs = ap (λ w. w.outs) c.self.view_is in
    let ins : c.self.inside.ins.items ≡ c.args.self.now.ins = ap (λ w. w.ins) c.self.view_is in
    let routes : c.self.inside.routes.items ≡ c.args.self.now.routes = ap (λ w. w.routes) c.self.view_is in
    rw (on_link_at (link_in c.args.self.now.outs c.args.place) None (leave c.args.now.ms) c.args.self.now.outs c.index_mut-queue.result.now c.in-Some.i c.in-Some.ensures.first c.in-Some.ensures.within (rw (← same) c.index_mut-queue.ensures.value), ← c.leave.ensures.queue, same, ins, routes) refl

pub invariant_of-self : goal.invariant_of-self
invariant_of-self g c = stays_placed c.in-Some.i c.self.inside.outs.items c.index_mut-queue.result.now c.leave.new.self c.index_mut-queue.ensures.value (ap link_of c.leave.ensures.queue ∙ leave_link c.args.now.ms c.index_mut-queue.result.now) c.self.invariant
