use Rattle.std.proofs.Common.{◌++◌, codes}
use Rattle.dt_edges.proofs.Puts.{puts_then, puts_failed}
use Rattle.dt_log.specs.Words.{hex_text}
use Rattle.dt_make.specs.Rounds.{message}
use Rattle.dt_make.proofs.rounds.put_send.Goals as goal

pub returns-in_err-put_all : goal.returns-in_err-put_all
returns-in_err-put_all g c = puts_failed _ (codes "send 1:10>2:20 be ") (hex_text (message c.args.number c.args.length) ++ codes "\n") _ _ _ c.in_err-put_all.ensures.puts c.from_residual.ensures.0

pub returns : goal.returns
returns g c = puts_then _ (codes "send 1:10>2:20 be ") (hex_text (message c.args.number c.args.length) ++ codes "\n") _ _ _ _ c.in_ok-put_all.ensures.puts c.put_ended_message.ensures
