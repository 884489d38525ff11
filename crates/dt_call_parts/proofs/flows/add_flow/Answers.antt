use Rattle.std.proofs.Common.{sym, ◌∙◌}
use Rattle.dt_call_parts.proofs.FlowTables.{flow_added, flow_there, key_found}
use Rattle.dt_call_parts.proofs.flows.add_flow.Goals as goal

pub returns-then-contains_key-clause-added : goal.returns-then-contains_key-clause-added
returns-then-contains_key-clause-added c =
    let f = c.args.flow in
    let es = c.args.flows.now.entries in
    flow_there f es (key_found f es ∙ sym c.contains_key.ensures ∙ c.if-contains_key.true)

pub returns-clause-added : goal.returns-clause-added
returns-clause-added c =
    let f = c.args.flow in
    let es = c.args.flows.now.entries in
    flow_added f c.new.result es c.insert.new.self.entries (key_found f es ∙ sym c.contains_key.ensures ∙ c.if-contains_key.false) c.new.ensures c.in_ok-insert.ensures.entries
