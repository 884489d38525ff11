use Rattle.std.proofs.Common.{ap, ◌∙◌, List}
use Rattle.std.specs.Prelude.{count_by}
use Rattle.dt_service_model.specs.declared.calls.OpenCall.{OpenCall}
use Rattle.dt_open_calls.proofs.Present.{counted_present}
use Rattle.dt_open_calls.proofs.open_calls.OpenCalls.waiting.Goals as goal

pub returns : goal.returns
returns c = c.self.invariant.counted ∙ counted_present c.self.inside.slots.items ∙ ap (λ (calls : List OpenCall). count_by (λ (call : OpenCall). call.waits) calls) c.self.view_is
