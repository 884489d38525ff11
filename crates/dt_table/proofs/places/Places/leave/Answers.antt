use Rattle.std.proofs.Common.{ℕ, ◌≡◌, ◌+◌, ◌<◌, Option, Some, List, length, subst, sym, ap, ◌∙◌}
use Rattle.std.specs.Prelude.{is_some, if◌then◌else◌}
use Rattle.dt_units.specs.declared.endpoints.Flow.{Flow}
use Rattle.dt_table.specs.Places.{place_in}
use Rattle.dt_table.proofs.Standing.{leave_indexed, place_at, slot_within}
use Rattle.dt_table.proofs.places.Places.leave.Goals as goal

pub index_mut-requires : goal.index_mut-requires
index_mut-requires c =
    let p = c.self.inside in
    let here : place_in c.args.flow.now p.flows.items ≡ Some c.args.place = subst (λ (os : List (Option Flow)). place_in c.args.flow.now os ≡ Some c.args.place) (sym c.self.view_is) c.requires in
    subst (λ (n : ℕ). c.args.place < n) (sym p.flows.ok.0) (slot_within p.flows.items c.args.place c.args.flow.now (place_at c.args.flow.now p.flows.items c.args.place here))

pub invariant_of-self : goal.invariant_of-self
invariant_of-self c =
    let p = c.self.inside in
    let f = c.args.flow.now in
    let here : place_in f p.flows.items ≡ Some c.args.place = subst (λ (os : List (Option Flow)). place_in f os ≡ Some c.args.place) (sym c.self.view_is) c.requires in
    let gone : c.swap_remove.result ≡ Some c.args.place = c.swap_remove.ensures.value ∙ c.self.invariant.found f ∙ here in
    let long : length c.swap_remove.new.self.entries + 1 ≡ length p.index.entries = ap (λ (o : Option ℕ). length c.swap_remove.new.self.entries + (if is_some o then 1 else 0)) (sym gone) ∙ c.swap_remove.ensures.len in
    leave_indexed p.index.entries p.flows.items c.self.invariant f c.swap_remove.new.self.entries c.args.place here (λ q. c.swap_remove.ensures.updates.0 q) long
