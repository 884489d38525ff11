use Rattle.std.proofs.Common.{ℕ, List, subst}
use Rattle.dt_world.proofs.Beginning.{Begun, at_last, one_more}
use Rattle.dt_world.proofs.starts.first_stations.Goals as goal

pub loop-node-preserved : goal.loop-node-preserved
loop-node-preserved c =
    let s = c.args.setup.now in
    let before = subst (λ (left : List (ℕ × ℕ)). Begun s.params s c.loop-node.stations.entries left s.stations) c.in-Some.ensures.steps c.loop-node.invariant in
    one_more s.params s c.loop-node.stations.entries c.insert.new.self.entries c.in-Some.node.now c.in-Some.zero.now c.next.new.self s.stations c.in_ok-placed.placed before c.in_ok-placed.ensures.seen c.in_ok-placed.ensures.station c.in_ok-insert.ensures.entries

pub loop-node-preserved-in_ok-insert : goal.loop-node-preserved-in_ok-insert
loop-node-preserved-in_ok-insert c =
    let s = c.args.setup.now in
    let before = subst (λ (left : List (ℕ × ℕ)). Begun s.params s c.loop-node.stations.entries left s.stations) c.in-Some.ensures.steps c.loop-node.invariant in
    one_more s.params s c.loop-node.stations.entries c.insert.new.self.entries c.in-Some.node.now c.in-Some.zero.now c.next.new.self s.stations c.in_ok-placed.placed before c.in_ok-placed.ensures.seen c.in_ok-placed.ensures.station c.in_ok-insert.ensures.entries

pub returns-clause-seen : goal.returns-clause-seen
returns-clause-seen c =
    let s = c.args.setup.now in
    at_last s.params s c.loop-node.stations.entries s.stations (subst (λ (left : List (ℕ × ℕ)). Begun s.params s c.loop-node.stations.entries left s.stations) c.in-None.ensures.steps.0 c.loop-node.invariant)

pub returns-clause-all : goal.returns-clause-all
returns-clause-all c = c.loop-node.invariant.placed
