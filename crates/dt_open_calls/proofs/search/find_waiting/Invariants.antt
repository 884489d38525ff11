use Rattle.std.proofs.Common.{ℕ, ◌≡◌, ◌<◌, ◌≤◌, false}
use Rattle.std.specs.Prelude.{◌&&◌}
use Rattle.dt_table.specs.Places.{slot}
use Rattle.dt_service_model.specs.declared.calls.OpenCall.{OpenCall}
use Rattle.dt_service_model.specs.Names.{same_number}
use Rattle.dt_service_model.specs.Whole.{is_waiting_call}
use Rattle.dt_open_calls.specs.Slots.{slot_is}
use Rattle.dt_open_calls.proofs.search.find_waiting.Given as goal

abbrev pub invariant-loop-place : goal.invariant-loop-place
invariant-loop-place l = (i : ℕ) → l.fn.span.first ≤ i → i < l.place → slot_is (is_waiting_call l.flow l.number) (slot l.slots.items i) ≡ false
