use Rattle.dt_inbox.specs.FlowInboxes.{PassesOn}
use Rattle.dt_inbox.proofs.flow_inboxes.FlowInboxes.take_next.Given as goal

abbrev pub invariant-loop : goal.invariant-loop
invariant-loop l = record { passes : PassesOn l.fn.now l.fn.self l.fn.endpoint l.counter l.self l.endpoint }
