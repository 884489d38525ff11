use Rattle.std.proofs.Common.{rules}
use Rattle.dt_layout.proofs.headers.Header.packet.Goals as goal

-- refused here: begin_is_read_as_end
pub returns-in-Data : goal.returns-in-Data
returns-in-Data c = search rules
