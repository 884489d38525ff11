use Rattle.dt_log.proofs.Parts.{takes_next, text_around, puts_failed_between}
use Rattle.dt_make.specs.Lines.{line_text}
use Rattle.dt_make.proofs.round_lines.put_lines.Goals as goal

pub returns-in_err-put_line : goal.returns-in_err-put_line
returns-in_err-put_line g c =
    puts_failed_between _ _ _ _ _ _ _ _ _ (text_around line_text c.args.lines.now c.loop-line.line-index _ c.loop-line-test.true) c.loop-line.invariant c.in_err-put_line.ensures c.from_residual.ensures.0

pub loop-line-preserved : goal.loop-line-preserved
loop-line-preserved g c = takes_next line_text c.args.lines.now c.loop-line.line-index _ _ _ _ c.loop-line-test.true c.loop-line.invariant c.in_ok-put_line.ensures
