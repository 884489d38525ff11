use Rattle.std.proofs.Common.{length}
use Rattle.dt_node.proofs.Cutting.{Passed}
use Rattle.dt_node.proofs.cut_inputs.cut_input.Given as goal

abbrev pub invariant-loop-rest : goal.invariant-loop-rest
invariant-loop-rest l = Passed l.input l.rest l.lines

abbrev pub decreases-loop-rest : goal.decreases-loop-rest
decreases-loop-rest l = length l.rest
