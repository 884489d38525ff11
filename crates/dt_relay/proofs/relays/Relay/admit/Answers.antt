use Rattle.std.proofs.Common.{rules}
use Rattle.dt_relay.proofs.relays.Relay.admit.Goals as goal

-- refused here: in_link_charge_is_left_out
pub returns-clause-admitted : goal.returns-clause-admitted
returns-clause-admitted g c = search rules
