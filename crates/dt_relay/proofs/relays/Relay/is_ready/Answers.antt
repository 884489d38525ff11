use Rattle.std.proofs.Common.{◌≡◌, None, ap, refl}
use Rattle.dt_world_model.specs.Relay.{leave}
use Rattle.dt_relay.specs.Places.{link_in}
use Rattle.dt_relay.proofs.Links.{on_link_at, on_link_nowhere}
use Rattle.dt_relay.proofs.relays.Relay.is_ready.Goals as goal

pub returns-in-None : goal.returns-in-None
returns-in-None g c = rw (on_link_nowhere (link_in c.args.self.now.outs c.args.place) None (leave c.args.now) c.args.self.now.outs c.in-None.ensures.first) refl

pub returns-in-Some : goal.returns-in-Some
returns-in-Some g c =
    let same : c.self.inside.outs.items ≡ c.args.self.now.outs = ap (λ w. w.outs) c.self.view_is in
    rw (on_link_at (link_in c.args.self.now.outs c.args.place) None (leave c.args.now) c.args.self.now.outs c.index-queue.result.now c.in-Some.i c.in-Some.ensures.first c.in-Some.ensures.within (rw (← same) c.index-queue.ensures)) c.is_ready.ensures
