use Rattle.std.proofs.Common.{true}
use Rattle.dt_service.proofs.Events.{is_unsent, sends_cut}
use Rattle.dt_service.proofs.sending.send_message.Goals as goal

pub returns-in-NoMemory : goal.returns-in-NoMemory
returns-in-NoMemory c = record { refused = tt; after = tt; cut = sends_cut c.send.result c.args.now c.args.flow c.args.message.now true true c.args.endpoint.now c.send.new.self (is_unsent c.send.result c.in-NoMemory.is) c.send.ensures }
