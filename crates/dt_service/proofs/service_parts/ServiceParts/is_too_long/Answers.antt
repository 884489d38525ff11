use Rattle.std.proofs.Common.{rules}
use Rattle.dt_service.proofs.service_parts.ServiceParts.is_too_long.Goals as goal

-- refused here: number_of_a_message_takes_no_room
pub returns : goal.returns
returns c = search rules
