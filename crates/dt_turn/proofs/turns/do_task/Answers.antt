use Rattle.std.proofs.Common.{ℕ, ◌*◌, List, arith, length, subst, sym}
use Rattle.dt_flow_model.specs.Keeping.{octets_below}
use Rattle.dt_station.specs.Events.{MaySend}
use Rattle.dt_text.specs.Tasks.{most_octets}
use Rattle.dt_script.specs.Codes.{most_commands}
use Rattle.dt_world_laws.proofs.Counting.{settled_counts}
use Rattle.dt_turn.proofs.Readying.{ok_more}
use Rattle.dt_turn.proofs.turns.do_task.Goals as goal

pub do_event-requires-clause-may : goal.do_event-requires-clause-may
do_event-requires-clause-may g c =
    let s = c.args.station.now in
    let can = rw c.in-Send.is at c.requires.can in
    let octets = c.in-Send.octets.items in
    let may : MaySend s.rules c.args.now s.state c.in-Send.flow (length octets) = record {
      from = can.0;
      to = can.1;
      some = can.2;
      counted = settled_counts s.rules c.args.now (most_commands * most_octets) c.in-Send.flow (length octets) octets_below s.state c.requires.few (omega (arith, can.3));
    } in
    subst (λ (xs : List ℕ). MaySend s.rules c.args.now s.state c.in-Send.flow (length xs)) (sym c.deref.ensures.value) may

pub returns-in-Send-clause-on : goal.returns-in-Send-clause-on
returns-in-Send-clause-on g c =
    let can = rw c.in-Send.is at c.requires.can in
    ok_more c.args.now (length c.in-Send.octets.items) most_octets c.args.station.now c.do_event.new.station c.do_event.result can.3 (rw c.deref.ensures.value at c.do_event.ensures.on)

pub returns-in-Read-clause-on : goal.returns-in-Read-clause-on
returns-in-Read-clause-on g c = ok_more c.args.now 0 most_octets c.args.station.now c.do_event-in-Read.new.station c.do_event-in-Read.result (omega arith) c.do_event-in-Read.ensures.on
