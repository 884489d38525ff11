use Rattle.std.proofs.Common.{arith}
use Rattle.dt_node.proofs.Rerunning.{number_fits}
use Rattle.dt_node.proofs.retracing.retrace.Goals as goal

pub overflow_add-parts : goal.overflow_add-parts
overflow_add-parts g c = rw c.in-Err-Line.field-0-is (omega (arith, number_fits c.args.input.now c.in-Ok.parts c.in-Err-Line.line c.in-Err-Line.fault c.in-Ok.ensures (rw c.in-Err-Line.field-0-is at c.in-Err-Line.ensures)))
