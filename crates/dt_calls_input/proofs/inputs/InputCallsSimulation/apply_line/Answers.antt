use Rattle.std.proofs.lemmas.Result.{err_from_is_err_and}
use Rattle.dt_edges.proofs.Puts.{takes_nothing}
use Rattle.dt_calls_input.proofs.inputs.InputCallsSimulation.apply_line.Goals as goal

-- no line was told yet
pub returns-in_err-decode_hex-in-Call : goal.returns-in_err-decode_hex-in-Call
returns-in_err-decode_hex-in-Call g c =
    let p = err_from_is_err_and c.from_residual.result c.from_residual.ensures.1 in
    rw (p.1, p.2) (0, takes_nothing _)
