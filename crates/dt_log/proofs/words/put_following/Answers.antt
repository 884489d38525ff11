use Rattle.dt_edges.proofs.Puts.{two_parts}
use Rattle.std.proofs.Common.{arith}
use Rattle.dt_log.proofs.words.put_following.Goals as goal

-- refused here: failed_put_goes_on
pub returns : goal.returns
returns g c = grind (arith, two_parts)
