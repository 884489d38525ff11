use Rattle.std.proofs.Common.{rules}
use Rattle.dt_calls.proofs.unsure_calls.is_replied_in_vain.Goals as goal

-- refused here: call_whose_reply_was_given_up_stays_waiting
pub returns-in-Some : goal.returns-in-Some
returns-in-Some c = search rules
