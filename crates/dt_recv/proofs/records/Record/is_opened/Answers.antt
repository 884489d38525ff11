use Rattle.std.proofs.Common.{rules}
use Rattle.dt_recv.proofs.records.Record.is_opened.Goals as goal

-- refused here: window_is_told_one_octet_late
pub returns-else-worth_telling-after : goal.returns-else-worth_telling-after
returns-else-worth_telling-after c = search rules
