use Rattle.std.proofs.Common.{ap, ◌∙◌, List, ◌==◌}
use Rattle.std.specs.Prelude.{◌&&◌}
use Rattle.std.specs.List.{list_any}
use Rattle.dt_service_model.specs.declared.calls.OpenCall.{OpenCall}
use Rattle.dt_open_calls.specs.Slots.{Slot, slot_is}
use Rattle.dt_open_calls.proofs.Present.{any_present}
use Rattle.dt_open_calls.proofs.open_calls.OpenCalls.is_life_in_use.Goals as goal

pub returns : goal.returns
returns c =
    c.waits_with.ensures
    ∙ ap (λ (xs : List Slot). list_any (slot_is (λ (call : OpenCall). call.waits && (call.number.life == c.args.life))) xs) c.deref.ensures.value
    ∙ any_present (λ (call : OpenCall). call.waits && (call.number.life == c.args.life)) c.self.inside.slots.items
    ∙ ap (λ (calls : List OpenCall). list_any (λ (call : OpenCall). call.waits && (call.number.life == c.args.life)) calls) c.self.view_is
