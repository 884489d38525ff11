-- Where a packet to a node goes, and what a relay answers to it.
use Rattle.std.specs.Prelude.{◌≡◌, ℕ, ◌==◌, nat_lt, List, [], ◌∷◌, ◌++◌, length, Option, Some, None, option_and_then, if◌then◌else◌}
use Rattle.dt_world_model.specs.declared.links.Entered.{Entered}
use Rattle.dt_world_model.specs.declared.links.Entered.TheVariants.{Queued, NoRoute, Full}
use Rattle.dt_world_model.specs.declared.links.Route.{Route}
use Rattle.dt_world_model.specs.Relay.{Out, Relay, most_on_link, route_to}

-- the queue of a link, the first that has its number
abbrev pub queue_of : {T : Type 0} → ℕ → List (Out T) → Option (Out T)
queue_of link [] = None
queue_of link (out ∷ outs) = if out.link == link then Some out else queue_of link outs

-- the queue that a packet to this node goes to: none where no route names the node, and none where the route's link isn't among the out links
abbrev pub way_to : {T : Type 0} → ℕ → Relay T → Option (Out T)
way_to to relay = option_and_then (λ link. queue_of link relay.outs) (route_to to relay.routes)

-- the answer to it
abbrev pub entered_by : {T : Type 0} → ℕ → Option (Out T) → Entered
entered_by to None = NoRoute to
entered_by to (Some out) = if nat_lt (length out.waits) most_on_link then Queued out.link else Full out.link

-- a packet that isn't queued leaves the relay as it was
abbrev pub StaysUnlessQueued : {T : Type 0} → Entered → Relay T → Relay T → Type 0
StaysUnlessQueued (Queued link) old new = Unit {0}
StaysUnlessQueued (NoRoute to) old new = new ≡ old
StaysUnlessQueued (Full link) old new = new ≡ old

-- one route more, after the others
abbrev pub with_route : {T : Type 0} → Route → Relay T → Relay T
with_route route relay = record relay { routes = relay.routes ++ route ∷ [] }
