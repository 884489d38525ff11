use Rattle.std.proofs.Common.{sym}
use Rattle.dt_layout.proofs.GramLemmas.{has_fields}
use Rattle.dt_layout.proofs.deltagrams.read.Goals as goal

pub fields_in-requires : goal.fields_in-requires
fields_in-requires c = has_fields c.args.bytes.now (sym c.in_ok-check.ensures)
