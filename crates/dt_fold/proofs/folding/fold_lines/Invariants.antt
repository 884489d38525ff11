use Rattle.std.proofs.Common.{◌+◌, ◌≤◌, length}
use Rattle.dt_text.specs.InputLines.{lines_of}
use Rattle.dt_fold.specs.Folds.{fold_from, fold_input}
use Rattle.dt_fold.proofs.Lines.{GoesOn}
use Rattle.dt_fold.proofs.folding.fold_lines.Given as goal

-- what was logged, with the text of the lines that are left, is the text of all
abbrev pub invariant-loop-rest : goal.invariant-loop-rest
invariant-loop-rest g l = record {
  on : GoesOn (fold_input g.T.LineTurns.turns (g.T.LineTurns.state l.fn.lines) l.bytes) (fold_from g.T.LineTurns.turns l.number (g.T.LineTurns.state l.lines) (lines_of l.rest)) (g.K.Sink.sight l.fn.out) (g.K.Sink.sight l.out);
  few : l.number + length l.rest ≤ length l.bytes + 1;
}

abbrev pub decreases-loop-rest : goal.decreases-loop-rest
decreases-loop-rest g l = length l.rest
