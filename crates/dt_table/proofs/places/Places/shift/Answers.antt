use Rattle.std.proofs.Common.{ℕ, ◌≡◌, ◌<◌, set, Option, Some, None, List, length, refl, subst, sym, ap, ◌∙◌}
use Rattle.std.specs.Prelude.{IsSome}
use Rattle.dt_units.specs.declared.endpoints.Flow.{Flow}
use Rattle.dt_table.specs.Places.{place_in, slot}
use Rattle.dt_table.proofs.Standing.{place_at, put_back, shift_indexed, slot_within}
use Rattle.dt_table.proofs.places.Places.shift.Goals as goal

pub index_mut-requires : goal.index_mut-requires
index_mut-requires c =
    let p = c.self.inside in
    let here : place_in c.args.flow.now p.flows.items ≡ Some c.args.from = subst (λ (os : List (Option Flow)). place_in c.args.flow.now os ≡ Some c.args.from) (sym c.self.view_is) c.requires.here in
    subst (λ (n : ℕ). c.args.from < n) (sym p.flows.ok.0) (slot_within p.flows.items c.args.from c.args.flow.now (place_at c.args.flow.now p.flows.items c.args.from here))

pub invariant_of-self : goal.invariant_of-self
invariant_of-self c =
    let p = c.self.inside in
    let f = c.args.flow.now in
    let here : place_in f p.flows.items ≡ Some c.args.from = subst (λ (os : List (Option Flow)). place_in f os ≡ Some c.args.from) (sym c.self.view_is) c.requires.here in
    let within = subst (λ (os : List (Option Flow)). c.args.to < length os) (sym c.self.view_is) c.requires.within in
    let empty : slot p.flows.items c.args.to ≡ None = subst (λ (os : List (Option Flow)). slot os c.args.to ≡ None) (sym c.self.view_is) (c.requires.empty c.if-to-from.false) in
    let w = c.get_mut.follows.holds c.args.to in
    let there : IsSome (Some c.in-Some.place.now) = refl in
    let found = subst (λ (o : Option ℕ). IsSome o) c.in-Some.ensures.value there in
    shift_indexed p.index.entries p.flows.items c.self.invariant f (c.get_mut.follows.lender c.args.to).entries c.args.from here c.args.to (λ q. (w.3 found).0 q) w.2 within empty

pub returns-then-to-from : goal.returns-then-to-from
returns-then-to-from c =
    let os = c.args.self.now in
    let f = c.args.flow.now in
    put_back os c.args.from f (place_at f os c.args.from c.requires.here) ∙ ap (λ (n : ℕ). set (set os c.args.from None) n (Some f)) (sym c.if-to-from.true)
