use Rattle.std.proofs.Common.{◌++◌}
use Rattle.dt_log.specs.Words.{octet_text}
use Rattle.dt_log.proofs.Parts.{takes_more, cut_further, text_in_parts, puts_failed_between}
use Rattle.dt_log.proofs.digits.put_hex.Goals as goal

pub returns-in_err-put_piece : goal.returns-in_err-put_piece
returns-in_err-put_piece g c =
    let i = c.loop-rest.invariant in
    let cut = cut_further c.args.octets.now i.0 c.loop-rest.rest.now c.split_at.result.0.now c.split_at.result.1.now _ i.1 c.split_at.ensures.front c.split_at.ensures.back in
    puts_failed_between _ _ _ _ _ _ _ _ _ (text_in_parts octet_text _ i.0 _ _ cut) i.2 c.in_err-put_piece.ensures c.from_residual.ensures.0

pub loop-rest-preserved : goal.loop-rest-preserved
loop-rest-preserved g c =
    let i = c.loop-rest.invariant in (
      i.0 ++ c.split_at.result.0.now,
      cut_further c.args.octets.now i.0 c.loop-rest.rest.now c.split_at.result.0.now c.split_at.result.1.now _ i.1 c.split_at.ensures.front c.split_at.ensures.back,
      takes_more octet_text i.0 c.split_at.result.0.now _ _ _ i.2 c.in_ok-put_piece.ensures,
    )
