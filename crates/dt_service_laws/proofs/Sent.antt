-- What is sent at what is done.
use Rattle.std.proofs.Common.{List, ◌++◌}
use Rattle.dt_units.specs.declared.endpoints.Flow.{Flow}
use Rattle.dt_calls_model.specs.Messages.{reversed}
use Rattle.dt_service_model.specs.Turns.{Node}
use Rattle.dt_service_laws.specs.Histories.{Message, call_by, reply_by}
use Rattle.dt_service_laws.specs.Services.{Deed}

-- ALL THAT IS SENT on a flow: calls of it, and replies to the requests of its reverse
abbrev pub sent_on : Flow → Deed → Node → List Message
sent_on f deed x = call_by f deed x ++ reply_by (reversed f) deed x
