use Rattle.std.proofs.Common.{◌≡◌, ℕ, Bool, nat_le, Option, option_map, Some, None, refl, ◌∙◌}
use Rattle.dt_units.specs.Numbers.{relation_of}
use Rattle.dt_flow_model.specs.ReceiveRecord.{action_of}
use Rattle.dt_recv.specs.Keys.{data_action}
use Rattle.dt_recv.proofs.cases.action.Goals as goal

by_relation : (expected : Option ℕ) (drf : Bool) (number length free : ℕ) → data_action (option_map (λ e. relation_of number e) expected) drf (nat_le length free) ≡ action_of expected drf number length free
by_relation None drf number length free = refl
by_relation (Some e) drf number length free = refl

pub returns : goal.returns
returns c =
    let row = c.action_at.ensures.data _ _ _ c.data_key.ensures.value in
    row ∙ rw c.relation_to-relation.ensures (by_relation c.args.expected c.args.drf c.args.number c.args.length c.args.free)
