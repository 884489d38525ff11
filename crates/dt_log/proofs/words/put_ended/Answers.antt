use Rattle.dt_edges.proofs.Puts.{two_parts}
use Rattle.std.proofs.Common.{arith}
use Rattle.dt_log.proofs.words.put_ended.Goals as goal

-- refused here: no_line_feed
pub returns : goal.returns
returns g c = grind (arith, two_parts)
