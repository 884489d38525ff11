use Rattle.std.proofs.Common.{rules}
use Rattle.dt_call_parts.proofs.handlers.ReversingHandler.serve.Goals as goal

-- refused here: answer_is_the_payload
pub returns : goal.returns
returns c = search rules
