use Rattle.std.proofs.Common.{take, flat_map}
use Rattle.dt_edges.specs.Sinks.{Takes}
use Rattle.dt_make.specs.Lines.{line_text}
use Rattle.dt_make.proofs.round_lines.put_lines.Given as goal

-- the lines before this one were put
abbrev pub invariant-loop-line : goal.invariant-loop-line
invariant-loop-line g l = Takes (flat_map line_text (take l.line-index l.lines)) (g.K.Sink.sight l.fn.out) (g.K.Sink.sight l.out)
