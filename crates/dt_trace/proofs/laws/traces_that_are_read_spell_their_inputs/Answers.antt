use Rattle.dt_trace.proofs.OnlyLaws.{trace_only}
use Rattle.dt_trace.proofs.laws.traces_that_are_read_spell_their_inputs.Goals as goal

pub returns : goal.returns
returns c octets trace h = trace_only octets trace h
