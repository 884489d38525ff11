use Rattle.std.proofs.Common.{◌≡◌, ◌∙◌, ap}
use Rattle.dt_relay.specs.Places.{link_of}
use Rattle.dt_relay.proofs.Lookups.{all_within}
use Rattle.dt_relay.proofs.relays.Relay.place.Goals as goal

pub returns-clause-within : goal.returns-clause-within
returns-clause-within g c =
    let same : c.self.inside.outs.items ≡ c.args.self.now.outs = ap (λ w. w.outs) c.self.view_is in
    rw (← same) (all_within link_of c.args.link c.place_in.result c.self.inside.outs.items (c.place_in.ensures ∙ rw c.from.ensures (c.self.invariant.by_out_link c.args.link)))
