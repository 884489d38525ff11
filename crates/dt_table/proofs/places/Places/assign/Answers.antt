use Rattle.std.proofs.Common.{ℕ, ◌≡◌, ◌+◌, ◌<◌, Option, None, List, length, subst, sym, ap, ◌∙◌}
use Rattle.std.specs.Prelude.{is_some, if◌then◌else◌}
use Rattle.dt_units.specs.declared.endpoints.Flow.{Flow}
use Rattle.dt_table.specs.Places.{place_in, slot}
use Rattle.dt_table.proofs.Standing.{take_indexed}
use Rattle.dt_table.proofs.places.Places.assign.Goals as goal

pub invariant_of-self-2 : goal.invariant_of-self-2
invariant_of-self-2 c =
    let p = c.self.inside in
    let f = c.args.flow.now in
    let flows = p.flows.items in
    let within = subst (λ (os : List (Option Flow)). c.args.place < length os) (sym c.self.view_is) c.requires.within in
    let empty : slot flows c.args.place ≡ None = subst (λ (os : List (Option Flow)). slot os c.args.place ≡ None) (sym c.self.view_is) c.requires.empty in
    let absent : place_in f flows ≡ None = subst (λ (os : List (Option Flow)). place_in f os ≡ None) (sym c.self.view_is) c.requires.new in
    let old : c.in_ok-insert.field-0 ≡ None = c.in_ok-insert.ensures.old ∙ c.self.invariant.found f ∙ absent in
    let long : length c.insert.new.self.entries ≡ length p.index.entries + 1 = c.in_ok-insert.ensures.len ∙ ap (λ (o : Option ℕ). length p.index.entries + (if is_some o then 0 else 1)) old in
    take_indexed p.index.entries flows c.self.invariant f c.insert.new.self.entries c.args.place (λ q. c.in_ok-insert.ensures.updates.0 q) long within empty absent
