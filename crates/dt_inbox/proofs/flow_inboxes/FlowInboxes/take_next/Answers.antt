use Rattle.std.proofs.Common.{rules}
use Rattle.dt_units.specs.declared.endpoints.Flow.{Flow}
use Rattle.dt_inbox.specs.FlowInboxes.{no_pass, one_more}
use Rattle.dt_inbox.specs.declared.inboxes.TakenMessage.{TakenMessage}
use Rattle.dt_inbox.proofs.flow_inboxes.FlowInboxes.take_next.Goals as goal

pub loop-init : goal.loop-init
loop-init c = record { passes = no_pass }

pub loop-preserved : goal.loop-preserved
loop-preserved c =
    let answer : Flow × TakenMessage = (c.in_ok-flow.flow, c.in_ok-flow.taken) in
    record { passes = one_more answer c.loop.invariant.passes (search rules) (search rules) }
