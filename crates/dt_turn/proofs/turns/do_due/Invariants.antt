use Rattle.std.proofs.Common.{◌≡◌, ◌-◌, vec_len}
use Rattle.dt_station.proofs.Playing.{Leads}
use Rattle.dt_turn.specs.Codes.{IsReady, left_of}
use Rattle.dt_turn.specs.Turns.{do_due}
use Rattle.dt_turn.proofs.turns.do_due.Given as goal

abbrev pub invariant-due : goal.invariant-due
invariant-due g l =
    let v = g.V.Visitor in
    let rules = l.orders.setup.rules in
    record {
      leads : Leads v.tells (v.tags l.now) v.hands v.fails (do_due rules l.now l.fn.node.shelf (left_of l.orders l.fn.node.next) l.fn.node.io.station.state) l.fn.visitor (do_due rules l.now l.fn.node.shelf (left_of l.orders l.node.next) l.node.io.station.state) l.visitor;
      ready : IsReady l.orders l.now l.node;
      shelf : l.node.shelf ≡ l.fn.node.shelf;
    }

abbrev pub decreases-due : goal.decreases-due
decreases-due g l = vec_len l.orders.commands - l.node.next
