use Rattle.std.proofs.Common.{◌≡◌, ◌∷◌, ◌+◌, ◌*◌, ◌<◌, ◌≤◌, ℕ, length, sym, subst, arith}
use Rattle.std.proofs.lemmas.List.{length-map}
use Rattle.std.proofs.lemmas.Result.{err_from_is_err_and}
use Rattle.dt_text.specs.Tasks.{most_octets}
use Rattle.dt_script.specs.Codes.{IsTaskOf, command_seen, most_commands}
use Rattle.dt_turn.specs.Codes.{left_of}
use Rattle.dt_turn.specs.Turns.{do_due}
use Rattle.dt_world_laws.proofs.Counting.{taken_more}
use Rattle.dt_turn.proofs.Readying.{ready_on}
use Rattle.dt_turn.proofs.Turning.{due_ends, due_goes, due_stops, left_next, task_at}
use Rattle.dt_turn.proofs.turns.do_due.Given.{Over}
use Rattle.dt_turn.proofs.turns.do_due.Goals.{After-from}
use Rattle.dt_turn.proofs.turns.do_due.Goals as goal

-- the command that the loop has come to is the first of those that are left
module _ (g : Over) (c : After-from g) where
  here : c.due.node.next < length c.args.orders.now.commands.items
  here = omega (arith, c.args.orders.now.commands.ok.0, c.due-test.true, c.len.ensures)

  is_next : left_of c.args.orders.now c.due.node.next ≡ command_seen c.index-command.result.now ∷ left_of c.args.orders.now (c.due.node.next + 1)
  is_next = left_next c.args.orders.now.commands.items c.due.node.next c.index-command.result.now here c.index-command.ensures

pub do_task-requires-clause-can : goal.do_task-requires-clause-can
do_task-requires-clause-can g c =
    let below = here g (goal.at.do_task-requires-clause-can g c).After-from in
    subst (λ (me : ℕ). IsTaskOf me (command_seen c.index-command.result.now).task) (sym c.due.invariant.ready.me) (task_at c.args.orders.now.setup.me.0 c.args.orders.now.commands.items c.due.node.next c.index-command.result.now below c.index-command.ensures c.requires.may.good.tasks)

pub do_task-requires-clause-few : goal.do_task-requires-clause-few
do_task-requires-clause-few g c =
    let i = c.due.invariant in
    let o = c.args.orders.now in
    let below : c.due.node.next ≤ most_commands = omega (arith, i.ready.next, o.commands.ok.0, length-map o.commands.items command_seen, c.requires.may.good.few) in
    taken_more c.due.node.io.station.state.host (c.due.node.next * most_octets) (most_commands * most_octets) (omega (arith, below)) i.ready.taken

pub returns-then-from-now-clause-ends : goal.returns-then-from-now-clause-ends
returns-then-from-now-clause-ends g c =
    let left = is_next g (goal.at.returns-then-from-now-clause-ends g c).After-from in
    let v = g.V.Visitor in
    let o = c.args.orders.now in
    let now = c.args.now in
    let i = c.due.invariant in
    let whole = do_due o.setup.rules now c.args.node.now.shelf (left_of o c.args.node.now.next) c.args.node.now.io.station.state in
    let late : now < c.index-command.result.now.at = omega (arith, c.if-from-now.true, c.from.ensures) in
    rw i.shelf (due_ends v.tells (v.tags now) v.hands v.fails whole c.args.visitor.now c.due.visitor o.setup.rules c.due.node.io.station.rules now c.args.node.now.shelf (left_of o c.due.node.next) (command_seen c.index-command.result.now) (left_of o (c.due.node.next + 1)) c.due.node.io.station.state i.ready.rules left i.leads late)

pub returns-in_err-do_task-clause-ends : goal.returns-in_err-do_task-clause-ends
returns-in_err-do_task-clause-ends g c =
    let p = err_from_is_err_and c.from_residual.result c.from_residual.ensures.1 in
    let left = is_next g (goal.at.returns-in_err-do_task-clause-ends g c).After-from in
    let v = g.V.Visitor in
    let o = c.args.orders.now in
    let now = c.args.now in
    let whole = do_due o.setup.rules now c.args.node.now.shelf (left_of o c.args.node.now.next) c.args.node.now.io.station.state in
    let due : c.index-command.result.now.at ≤ now = omega (arith, c.if-from-now.false, c.from.ensures) in
    rw (p.1) (due_stops v.tells (v.tags now) v.hands v.fails whole c.args.visitor.now c.due.visitor o.setup.rules c.due.node.io.station.rules now c.args.node.now.shelf (left_of o c.due.node.next) (command_seen c.index-command.result.now) (left_of o (c.due.node.next + 1)) c.due.node.io.station.state c.due.invariant.ready.rules left c.due.invariant.leads c.do_task.new.visitor due c.in_err-do_task.ensures.ends)

pub due-preserved : goal.due-preserved
due-preserved g c =
    let k = (goal.at.due-preserved g c).After-from in
    let v = g.V.Visitor in
    let o = c.args.orders.now in
    let now = c.args.now in
    let i = c.due.invariant in
    let whole = do_due o.setup.rules now c.args.node.now.shelf (left_of o c.args.node.now.next) c.args.node.now.io.station.state in
    let due : c.index-command.result.now.at ≤ now = omega (arith, c.if-from-now.false, c.from.ensures) in
    record {
      leads = due_goes v.tells (v.tags now) v.hands v.fails whole c.args.visitor.now c.due.visitor o.setup.rules c.due.node.io.station.rules now c.args.node.now.shelf (left_of o c.due.node.next) (command_seen c.index-command.result.now) (left_of o (c.due.node.next + 1)) c.due.node.io.station.state i.ready.rules (is_next g k) i.leads c.do_task.new.visitor c.do_task.new.station.state due c.in_ok-do_task.ensures.ends;
      ready = ready_on o now most_octets c.due.node _ i.ready c.in_ok-do_task.ensures.on (omega arith) c.in_ok-do_task.ensures.room (omega (arith, here g k, o.commands.ok.0));
      shelf = i.shelf;
    }
