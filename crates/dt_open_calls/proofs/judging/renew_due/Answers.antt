use Rattle.std.proofs.Common.{arith}
use Rattle.dt_open_calls.proofs.Found.{due_renewed}
use Rattle.dt_open_calls.proofs.judging.renew_due.Goals as goal

pub returns : goal.returns
returns c = due_renewed c.args.block c.least_due.result c.args.dues.now.items c.args.slots.now (omega arith) c.requires.due c.least_due.ensures
