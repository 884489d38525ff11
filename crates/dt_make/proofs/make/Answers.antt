use Rattle.std.proofs.Common.{flat_map}
use Rattle.std.specs.List.{range_with_len}
use Rattle.dt_edges.proofs.Puts.{puts_then, puts_failed}
use Rattle.dt_make.specs.Schedules.{setup_text, round_text}
use Rattle.dt_make.proofs.make.Goals as goal

pub returns-in_err-put_all : goal.returns-in_err-put_all
returns-in_err-put_all g c = puts_failed _ setup_text (flat_map round_text (range_with_len 0 c.args.n)) _ _ _ c.in_err-put_all.ensures.puts c.from_residual.ensures.0

pub returns : goal.returns
returns g c = puts_then _ setup_text (flat_map round_text (range_with_len 0 c.args.n)) _ _ _ _ c.in_ok-put_all.ensures.puts c.put_rounds.ensures
