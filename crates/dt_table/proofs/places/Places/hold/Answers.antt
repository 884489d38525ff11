use Rattle.std.proofs.Common.{◌∷◌, ◌++◌, [], List, Option, None, subst, sym}
use Rattle.dt_units.specs.declared.endpoints.Flow.{Flow}
use Rattle.dt_table.specs.Places.{AreIndexed}
use Rattle.dt_table.proofs.Standing.{one_empty, same_indexed}
use Rattle.dt_table.proofs.places.Places.hold.Goals as goal

pub invariant_of-self : goal.invariant_of-self
invariant_of-self c =
    let p = c.self.inside in
    subst (λ (os : List (Option Flow)). AreIndexed p.index.entries os) (sym c.in_ok-push.ensures.items)
    (same_indexed p.index.entries p.flows.items (p.flows.items ++ None ∷ []) (one_empty p.flows.items) c.self.invariant)
