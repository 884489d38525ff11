-- The duties of the callers: what a program must keep, so that its network is a world.
use Rattle.std.specs.Prelude.{◌≡◌, ◌==◌, ℕ, ◌+◌, ◌-◌, ◌≤◌, List, [], ◌∷◌, Contains, Option, Some, None}
use Rattle.dt_flow_model.specs.Keeping.{most_moment}
use Rattle.dt_world_model.specs.Relay.{charge_of}
use Rattle.dt_world_model.specs.Tables.{look}
use Rattle.dt_endpoint.specs.Calls.{arrive_refusal}
use Rattle.dt_endpoint.specs.Endpoints.{EndpointValue}
use Rattle.dt_network.specs.Network.{Flight, Network, Setup, clock_of}
use Rattle.dt_network.specs.Steps.{AddRoute, Call, CallArrive, CallRead, CallSend, CallTick, Calls, Follow, OpenAgain, Pass, PullFrame, PullReport, Step, network_after}

-- CLOCKS ARE ALIKE: each goes as the network's moment does, from a zero of its own, over restarts too
pub record KeepsTime (setup : Setup) (net : Network) (n now : ℕ) : Type 0 where
  pub clock : now ≡ net.now + clock_of setup n
  pub most : now ≤ most_moment

-- LINKS ARE IN TIME: the octets are those of a frame that left some node, on whichever link, and it was under way no longer than the charge of the link on which it comes and what the datagram is said to have waited
pub record IsInTime (net : Network) (e : EndpointValue) (link : ℕ) (datagram : List ℕ) (waited : ℕ) : Type 0 where
  pub flight : Flight
  pub left : Contains net.left flight
  pub octets : flight.frame.octets ≡ datagram
  pub in_time : net.now - flight.put ≤ charge_of link e.state.relay.ins + waited

-- A NODE THAT STARTS AGAIN says so, at the moment of its clock
pub record StartsAgain (setup : Setup) (net : Network) (n : ℕ) (again : Option ℕ) : Type 0 where
  pub now : ℕ
  pub told : again ≡ Some now
  pub time : KeepsTime setup net n now

-- The duties of one call. A datagram that is refused, as one that no longer reads, may be any octets. Nothing is asked of memory: a call that found none may stand anywhere
abbrev pub KeepsCall : Setup → Network → ℕ → Call → EndpointValue → Type 0
KeepsCall setup net n (CallTick now answer) e = KeepsTime setup net n now
KeepsCall setup net n (CallSend now flow octets begin end answer) e = KeepsTime setup net n now
KeepsCall setup net n (CallRead now flow room buf answer) e = KeepsTime setup net n now
KeepsCall setup net n (CallArrive now link datagram waited answer) e = KeepsTime setup net n now × (arrive_refusal link datagram waited e ≡ None → IsInTime net e link datagram waited)
KeepsCall setup net n PullFrame e = Unit {0}
KeepsCall setup net n PullReport e = Unit {0}
KeepsCall setup net n (AddRoute route answer) e = Unit {0}
KeepsCall setup net n (Follow flow done) e = Unit {0}
KeepsCall setup net n (OpenAgain again options) e = StartsAgain setup net n again

abbrev pub KeepsFrom : Setup → Network → ℕ → Call → Option EndpointValue → Type 0
KeepsFrom setup net n call None = ⊥
KeepsFrom setup net n call (Some e) = KeepsCall setup net n call e

abbrev pub Keeps : Setup → Step → Network → Type 0
Keeps setup (Pass by) net = Unit {0}
Keeps setup (Calls n call f) net = KeepsFrom setup net n call (look ◌==◌ n net.endpoints)

-- THE DUTIES ARE KEPT along a list of steps
abbrev pub KeepsDuties : Setup → List Step → Network → Type 0
KeepsDuties setup [] net = Unit {0}
KeepsDuties setup (s ∷ steps) net = Keeps setup s net × KeepsDuties setup steps (network_after s net)
