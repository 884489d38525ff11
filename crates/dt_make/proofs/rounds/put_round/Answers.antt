use Rattle.std.proofs.Common.{◌++◌, codes, flat_map}
use Rattle.dt_edges.proofs.Puts.{puts_then, puts_failed}
use Rattle.dt_log.proofs.Parts.{puts_as}
use Rattle.dt_make.specs.Lines.{line_text}
use Rattle.dt_make.specs.Kinds.{lines_of}
use Rattle.dt_make.specs.Rounds.{message, send_text}
use Rattle.dt_make.proofs.Drawing.{round_parts}
use Rattle.dt_make.proofs.rounds.put_round.Goals as goal

pub returns-in_err-put_send : goal.returns-in_err-put_send
returns-in_err-put_send g c =
    puts_as _ _ _ _ _ _ (round_parts c.args.number c.args.draw.0 c.args.first c.length-length.result c.kind-kind.result c.length-length.ensures c.kind-kind.ensures)
    (puts_failed _ (send_text (message c.args.number c.length-length.result)) (flat_map line_text (lines_of c.kind-kind.result c.args.first) ++ codes "read 1:10>2:20 65536\n") _ _ _ c.in_err-put_send.ensures c.from_residual.ensures.0)

pub returns : goal.returns
returns g c =
    puts_as _ _ _ _ _ _ (round_parts c.args.number c.args.draw.0 c.args.first c.length-length.result c.kind-kind.result c.length-length.ensures c.kind-kind.ensures)
    (puts_then _ (send_text (message c.args.number c.length-length.result)) (flat_map line_text (lines_of c.kind-kind.result c.args.first) ++ codes "read 1:10>2:20 65536\n") _ _ _ _ c.in_ok-put_send.ensures c.put_rest.ensures)
