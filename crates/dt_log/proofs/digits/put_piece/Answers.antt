use Rattle.std.proofs.Common.{sym, ◌∙◌}
use Rattle.dt_log.proofs.Hexes.{encode_lower_is}
use Rattle.dt_log.proofs.Parts.{puts_as}
use Rattle.dt_log.proofs.digits.put_piece.Goals as goal

pub returns : goal.returns
returns g c = puts_as _ _ _ _ _ _ (sym (c.in-Ok.ensures.written ∙ encode_lower_is c.args.octets.now c.type_inv.octets)) c.put_all.ensures.puts
