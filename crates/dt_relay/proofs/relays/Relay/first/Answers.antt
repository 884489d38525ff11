use Rattle.std.proofs.Common.{◌≡◌, ◌<◌, length, ap}
use Rattle.dt_relay.specs.Places.{link_in, link_of}
use Rattle.dt_relay.proofs.Lookups.{all_within, first_at}
use Rattle.dt_relay.proofs.relays.Relay.first.Goals as goal

pub returns-clause-within : goal.returns-clause-within
returns-clause-within g c =
    let same : c.self.inside.outs.items ≡ c.args.self.now.outs = ap (λ w. w.outs) c.self.view_is in
    let small : c.args.place < length c.self.inside.outs.items = rw same c.requires in
    rw (← same) (all_within link_of (link_in c.self.inside.outs.items c.args.place) c.index-first.result.now c.self.inside.outs.items
    (first_at c.self.inside.outs.items c.self.inside.firsts.items c.args.place c.index-first.result.now c.self.invariant.by_place small c.index-first.ensures))
