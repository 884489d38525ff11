use Rattle.dt_trace.proofs.TraceLaws.{trace_read}
use Rattle.dt_trace.proofs.laws.traces_are_read_back.Goals as goal

pub returns : goal.returns
returns c inputs h = trace_read inputs h
