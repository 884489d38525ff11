use Rattle.std.proofs.Common.{sym}
use Rattle.dt_call_parts.proofs.FlowTables.{restarted_at}
use Rattle.dt_call_parts.proofs.flows.restart_at.Goals as goal

pub returns : goal.returns
returns c =
    restarted_at c.args.station.0 c.args.flows.now.entries c.args.place c.in-Some.flow.now c.in-Some.field-0-1.now c.in-Some-get_index_mut.sides.now c.drop_at.new.self (sym c.in-Some.ensures.entry) (sym c.in-Some-get_index_mut.ensures.value) c.drop_at.ensures
