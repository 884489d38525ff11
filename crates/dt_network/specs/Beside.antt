-- A world beside a network.
use Rattle.std.specs.Prelude.{◌≡◌, ◌==◌, ℕ, ◌+◌, ◌-◌, ◌<◌, ◌≤◌, ◌⊎◌, ◌++◌, false, List, [], ◌∷◌, All, Contains, Some}
use Rattle.dt_units.specs.declared.endpoints.Flow.{Flow}
use Rattle.dt_layout.specs.Carried.{life_of}
use Rattle.dt_reports.specs.Entries.{Entry}
use Rattle.dt_flow_model.specs.Facts.{KeepsFates}
use Rattle.dt_world_model.specs.Relay.{charge_of}
use Rattle.dt_world_model.specs.declared.links.Route.{Route}
use Rattle.dt_world_model.specs.Tables.{look}
use Rattle.dt_world_model.specs.Tags.{bare_station}
use Rattle.dt_world_model.specs.World.{Copy, Placed, World, view}
use Rattle.dt_world_model.specs.WorldFacts.{CanHappen, SafeWorld, WorldFacts}
use Rattle.dt_world_model.specs.WorldStep.{Stepped, WorldEvent, event_at, restart_at, restarted, world_step}
use Rattle.dt_endpoint.specs.Endpoints.{EndpointValue}
use Rattle.dt_endpoint.specs.Networks.{frame_of, late_event}
use Rattle.dt_network.specs.Network.{Flight, Network, Options, Setup, clock_of}
use Rattle.dt_network.specs.Stations.{relink, reroute}
use Rattle.dt_network.specs.Steps.{AddRoute, Call, Calls, OpenAgain, Pass, Step, network_after}

-- a copy as it comes to a station, on a link of that
abbrev pub on_link : ℕ → Copy → Copy
on_link link c = record { link = link; parcel = c.parcel; put = c.put; lost = c.lost }

-- A COPY OF THE WORLD comes to any station, on any link there, with its life less by what it waited there: it was under way no longer than that link's charge and that together
pub record IsLate (w : World) (n : ℕ) (at : Placed) (link : ℕ) (c : Copy) (waited : ℕ) : Type 0 where
  pub there : look ◌==◌ n w.stations ≡ Some at
  pub copy : Contains w.copies c
  pub below : waited < life_of c.parcel.octets
  pub in_time : w.now - c.put ≤ charge_of link at.station.relay.ins + waited

-- A WORLD GOES ON to another by its steps, and by copies that come so
pub data Onward : World → World → Type 0 where
  stays : {w : World} → Onward w w
  by_event : {w after v : World} (e : WorldEvent) (lines : List Entry) → CanHappen e → world_step w e ≡ Stepped lines after → Onward after v → Onward w v
  by_late : {w v : World} (n : ℕ) (at : Placed) (link : ℕ) (c : Copy) (waited : ℕ) → IsLate w n at link c waited → Onward (event_at w n (late_event (on_link link c) waited) (Some at)).1 v → Onward w v

pub record IsRerouted (n : ℕ) (change : List Route → List Route) (w v : World) : Type 0 where
  pub at : Placed
  pub there : look ◌==◌ n w.stations ≡ Some at
  pub is : v ≡ reroute w n at (change at.station.relay.routes)

-- A NODE OPENS AGAIN: its station starts again, as in the world's own step, and has the links and routes that it is handed
pub record IsReopened (n : ℕ) (options : Options) (w v : World) : Type 0 where
  pub at : Placed
  pub there : look ◌==◌ n w.stations ≡ Some at
  pub is : v ≡ relink (restart_at w n (Some at)).1 n (restarted w.params w.now at) options

-- FROM CALL TO CALL a world goes on by its steps. They change no links and no routes: where a call adds a route, its station has one more, and a node that opens again has those that it is handed
abbrev pub GoesOnBy : Call → ℕ → World → World → Type 0
GoesOnBy (AddRoute route answer) n w v = (v ≡ w) ⊎ IsRerouted n (λ routes. routes ++ route ∷ []) w v
GoesOnBy (OpenAgain again options) n w v = IsReopened n options w v
GoesOnBy other n w v = Onward w v

abbrev pub GoesOn : Step → World → World → Type 0
GoesOn (Pass by) w v = Onward w v
GoesOn (Calls n call f) w v = GoesOnBy call n w v

-- AN ENDPOINT IS A STATION of the world, without tags. Of one that found no memory only the station's clock is told: it does nothing until its node opens again
pub record IsStationOf (setup : Setup) (w : World) (n : ℕ) (e : EndpointValue) : Type 0 where
  pub at : Placed
  pub there : look ◌==◌ n w.stations ≡ Some at
  pub clock : at.zero ≡ clock_of setup n
  pub rules : e.rules ≡ w.params
  pub past : e.latest ≤ w.now + at.zero
  pub state : e.spent ≡ false → e.state ≡ bare_station at.station

-- a frame that left is a copy, put on its link at that moment
pub record IsUnderWay (copies : List Copy) (g : Flight) : Type 0 where
  pub copy : Copy
  pub there : Contains copies copy
  pub frame : frame_of copy ≡ g.frame
  pub put : copy.put ≡ g.put

pub record IsBeside (setup : Setup) (net : Network) (w : World) : Type 0 where
  pub params : w.params ≡ setup.params
  pub now : w.now ≡ net.now
  pub endpoints : (n : ℕ) (e : EndpointValue) → look ◌==◌ n net.endpoints ≡ Some e → IsStationOf setup w n e
  pub left : All (IsUnderWay w.copies) net.left
  pub facts : WorldFacts w

-- from one world to a later one no fate changes that isn't open, in no flow
abbrev pub KeepsAllFates : World → World → Type 0
KeepsAllFates w v = (f : Flow) → KeepsFates (view w f).taken (view v f).taken

-- BESIDE A NETWORK GOES A WORLD: it stands beside it before the steps and after each of them, it is safe there, and each time it has gone on from the one before as the call in between says
abbrev pub GoesBeside : Setup → List Step → Network → World → Type 0
GoesBeside setup [] net w = IsBeside setup net w × SafeWorld w
GoesBeside setup (s ∷ steps) net w = IsBeside setup net w × SafeWorld w × ((v : World) × GoesOn s w v × KeepsAllFates w v × GoesBeside setup steps (network_after s net) v)
