use Rattle.std.proofs.Common.{refl}
use Rattle.dt_trace.specs.Written.{input_written}
use Rattle.dt_node.proofs.Gathered.{noted_put, noted_unput}
use Rattle.dt_node.proofs.recorders.Recorder.note.Goals as goal

pub returns-in_err-gather-in-Trace-clause-notes : goal.returns-in_err-gather-in-Trace-clause-notes
returns-in_err-gather-in-Trace-clause-notes g c =
    let part = c.in_err-gather-in-Trace.ensures in
    noted_unput c.args.self.now.writer.form (input_written c.args.input.now) (g.K.Sink.sight c.args.out.now) (g.K.Sink.sight c.gather.new.out) c.gather.new.buffer c.args.self.now.buffer c.in-Trace.is c.requires part.1 c.from_residual.result part.0.0 c.from_residual.ensures.0 part.0.1 part.2

pub returns-in_ok-gather-in-Trace-clause-notes : goal.returns-in_ok-gather-in-Trace-clause-notes
returns-in_ok-gather-in-Trace-clause-notes g c =
    let took = c.in_ok-gather-in-Trace.ensures in
    noted_put c.args.self.now.writer.form (input_written c.args.input.now) (g.K.Sink.sight c.args.out.now) (g.K.Sink.sight c.gather.new.out) c.gather.new.buffer c.args.self.now.buffer c.in-Trace.is c.requires took.1 g.K.Sink.sight c.gather.new.out c.pass_on.new.out c.pass_on.result refl took.0 took.2 c.pass_on.ensures.puts
