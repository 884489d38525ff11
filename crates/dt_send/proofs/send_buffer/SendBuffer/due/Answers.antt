use Rattle.dt_send.specs.SendBuffer.{record_of}
use Rattle.dt_send.proofs.Choices.{chosen_first, none_first}
use Rattle.dt_send.proofs.send_buffer.SendBuffer.due.Goals as goal

pub returns-in-Some-clause-chosen : goal.returns-in-Some-clause-chosen
returns-in-Some-clause-chosen c =
    let o = c.args.context.now in
    chosen_first o.rules.now o.at (record_of c.args.self.now) c.moments-moments.result c.due_first.result c.moments-moments.ensures c.due_first.ensures c.in-Some.kind c.in-Some.field-0-1 c.in-Some.is

pub returns-in-None-clause-none : goal.returns-in-None-clause-none
returns-in-None-clause-none c =
    let o = c.args.context.now in
    none_first o.rules.now o.at (record_of c.args.self.now) c.moments-moments.result c.due_first.result c.moments-moments.ensures c.due_first.ensures c.in-None.is
