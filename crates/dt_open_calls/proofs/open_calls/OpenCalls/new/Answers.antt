use Rattle.std.proofs.Common.{ℕ, ◌≡◌, ◌≤◌, zero, List, [], Some, None, sym, subst, ◌∙◌, arith, refl}
use Rattle.dt_table.specs.Places.{slot}
use Rattle.dt_open_calls.specs.Slots.{AreKept, Slot}
use Rattle.dt_open_calls.proofs.open_calls.OpenCalls.new.Goals as goal

pub invariant_of-result : goal.invariant_of-result
invariant_of-result c =
    let n = c.new-2.result in
    subst (λ (xs : List Slot). AreKept 0 n.first n.dues.items n.numbers.entries n.flows.entries xs) (sym c.new.ensures.items)
    (record { counted = refl; within = omega (arith, c.new-2.ensures); found = λ i call h. absurd cc })
