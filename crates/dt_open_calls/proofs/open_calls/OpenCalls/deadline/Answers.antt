use Rattle.std.proofs.Common.{ap, ◌∙◌, List}
use Rattle.dt_world_model.specs.Tables.{earliest}
use Rattle.dt_service_model.specs.declared.calls.OpenCall.{OpenCall}
use Rattle.dt_service_model.specs.Turns.{deadline_of}
use Rattle.dt_open_calls.specs.Slots.{Slot, deadline_slot}
use Rattle.dt_open_calls.proofs.Present.{earliest_present}
use Rattle.dt_open_calls.proofs.open_calls.OpenCalls.deadline.Goals as goal

pub returns : goal.returns
returns c = c.deadline.ensures ∙ ap (λ (xs : List Slot). earliest deadline_slot xs) c.deref-2.ensures.value ∙ earliest_present c.self.inside.slots.items ∙ ap (λ (calls : List OpenCall). earliest deadline_of calls) c.self.view_is
