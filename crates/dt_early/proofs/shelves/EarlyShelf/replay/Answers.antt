use Rattle.std.proofs.Common.{rules, ◌≡◌, Some, sym, subst}
use Rattle.dt_endpoint.specs.Calls as calls
use Rattle.dt_early.specs.Early.{Early, host_of, ready, waited_by}
use Rattle.dt_early.proofs.Replaying.{broke, goes_on, handed_by, stops}
use Rattle.dt_early.proofs.shelves.EarlyShelf.replay.Goals as goal

pub returns-in-NoMemory : goal.returns-in-NoMemory
returns-in-NoMemory c =
    let view : Early = record { link = c.held.inside.link; flow = c.held.inside.flow; number = c.held.inside.number; octets = c.held.inside.octets.items; life = c.held.inside.life; waited = c.held.inside.waited; since = c.held.inside.since } in
    broke host_of calls.Arrives c.args.now c.args.flow.now c.args.first c.args.self.now c.replays.self c.take.new.self c.args.endpoint.now c.replays.endpoint c.arrive-got.new.self c.in-Some.held c.replays.invariant c.in-Some.ensures.taken c.in-Some.ensures.left
    (handed_by host_of calls.Arrives c.args.now c.args.flow.now c.args.first view c.in-Some.held c.as_slice.result.now c.waited_by-waited.result _ c.replays.endpoint c.arrive-got.new.self c.held.view_is c.as_slice.ensures.value c.waited_by-waited.ensures (rw c.in-NoMemory.is at c.arrive-got.ensures))

pub replays-preserved : goal.replays-preserved
replays-preserved c =
    let view : Early = record { link = c.held.inside.link; flow = c.held.inside.flow; number = c.held.inside.number; octets = c.held.inside.octets.items; life = c.held.inside.life; waited = c.held.inside.waited; since = c.held.inside.since } in
    goes_on host_of calls.Arrives c.args.now c.args.flow.now c.args.first c.args.self.now c.replays.self c.take.new.self c.args.endpoint.now c.replays.endpoint c.arrive-got.new.self c.in-Some.held c.arrive-got.result c.replays.invariant c.in-Some.ensures.taken c.in-Some.ensures.left
    (handed_by host_of calls.Arrives c.args.now c.args.flow.now c.args.first view c.in-Some.held c.as_slice.result.now c.waited_by-waited.result c.arrive-got.result c.replays.endpoint c.arrive-got.new.self c.held.view_is c.as_slice.ensures.value c.waited_by-waited.ensures c.arrive-got.ensures)

pub returns : goal.returns
returns c = stops host_of calls.Arrives c.args.now c.args.flow.now c.args.first c.args.self.now c.replays.self c.take.new.self c.args.endpoint.now c.replays.endpoint c.replays.invariant c.in_default.ensures.taken c.in_default.ensures.left
