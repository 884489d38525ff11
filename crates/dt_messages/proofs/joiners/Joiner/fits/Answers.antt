use Rattle.std.proofs.Common.{rules}
use Rattle.dt_messages.proofs.joiners.Joiner.fits.Goals as goal

-- refused here: longest_message_is_dropped
pub returns-in-Some : goal.returns-in-Some
returns-in-Some c = search rules
