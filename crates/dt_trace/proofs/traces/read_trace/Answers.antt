use Rattle.std.proofs.Common.{◌≡◌, ◌+◌, [], length, List, ℕ, Ok, sym, ap, ◌∙◌, arith}
use Rattle.std.proofs.lemmas.Bool.{eqb-true}
use Rattle.dt_text.specs.InputLines.{lines_of}
use Rattle.dt_trace.specs.Traces.{read_from, trace_of}
use Rattle.dt_trace.proofs.Folding.{noted_on, read_empty, refused_at}
use Rattle.dt_trace.proofs.traces.read_trace.Goals as goal

pub returns-in-Err-Line : goal.returns-in-Err-Line
returns-in-Err-Line c = rw c.in-Err-Line.field-0-is (refused_at c.loop-rest.number c.loop-rest.trace c.in-Err-Line.fault c.split_line.result.0.now (lines_of c.loop-rest.rest.now) (lines_of c.split_line.result.1.now) (trace_of c.args.bytes.now) c.split_line.ensures.lines c.loop-rest.invariant.on (rw c.in-Err-Line.field-0-is at c.in-Err-Line.ensures))

pub loop-rest-preserved : goal.loop-rest-preserved
loop-rest-preserved c = record {
  on = noted_on c.loop-rest.number c.loop-rest.trace c.add_line.new.self c.split_line.result.0.now (lines_of c.loop-rest.rest.now) (lines_of c.split_line.result.1.now) (trace_of c.args.bytes.now) c.split_line.ensures.lines c.loop-rest.invariant.on c.in-Ok.ensures;
  few = omega (arith, c.loop-rest.invariant.few, c.split_line.ensures.fewer);
}

pub returns : goal.returns
returns c = read_empty c.loop-rest.number c.loop-rest.trace c.loop-rest.rest.now (trace_of c.args.bytes.now) (omega (arith, eqb-true _ _ (sym c.is_empty.ensures ∙ c.loop-rest-test.false))) c.loop-rest.invariant.on
