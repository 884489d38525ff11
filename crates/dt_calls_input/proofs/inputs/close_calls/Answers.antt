use Rattle.dt_calls_input.proofs.CallClosing.{closed_failed, closed_put}
use Rattle.dt_calls_input.proofs.inputs.close_calls.Goals as goal

pub returns-in_err-put_totals : goal.returns-in_err-put_totals
returns-in_err-put_totals g c =
    closed_failed g.K.Sink.sight c.args.calls.now.calls c.totals.result c.from_residual.result c.args.out.now c.put_totals.new.out c.totals.ensures c.in_err-put_totals.ensures c.from_residual.ensures.0

pub returns : goal.returns
returns g c =
    closed_put g.K.Sink.sight c.args.calls.now.calls c.totals.result c.now.result c.write_line.result c.args.out.now c.put_totals.new.out c.write_line.new.out c.totals.ensures c.now.ensures c.in_ok-put_totals.ensures c.write_line.ensures
