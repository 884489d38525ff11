use Rattle.dt_calls_laws.proofs.Stepping.{payload_after, payload_made}
use Rattle.dt_calls_laws.proofs.promise.payload_of_a_call_is_what_was_handed_in.Goals as goal

pub returns-clause-made : goal.returns-clause-made
returns-clause-made c = payload_made

pub returns-clause-stays : goal.returns-clause-stays
returns-clause-stays c = payload_after
