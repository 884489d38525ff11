-- The setup of a world: its stations, links and routes, in the order of their adding, each call with its refusals, and the world that a setup makes.
use Rattle.std.specs.Prelude.{ℕ, ◌==◌, Bool, not, ◌||◌, List, [], ◌∷◌, ◌++◌, cond, filter_map, is_some, map, Option, Some, None, Result, Ok, Err}
use Rattle.dt_units.specs.declared.parameters.Params.{Params}
use Rattle.dt_reports.specs.declared.faults.SetupFault.{SetupFault}
use Rattle.dt_reports.specs.declared.faults.SetupFault.TheVariants as fault
use Rattle.dt_flow_model.specs.Frames.{Mark}
use Rattle.dt_world_model.specs.declared.links.Link.{Link}
use Rattle.dt_world_model.specs.declared.links.OutLink.{OutLink}
use Rattle.dt_world_model.specs.declared.links.InLink.{InLink}
use Rattle.dt_world_model.specs.declared.links.Route.{Route}
use Rattle.dt_world_model.specs.Tables.{has_key}
use Rattle.dt_world_model.specs.Host.{first_host}
use Rattle.dt_world_model.specs.Relay.{Relay, new_relay, route_to}
use Rattle.dt_world_model.specs.Station.{station_with}
use Rattle.dt_world_model.specs.World.{Placed, World}
use Rattle.dt_world_model.specs.WorldStep.{first_refusal, link_in, numbered}

pub record Setup : Type 0 where
  pub params : Params
  -- each station's number and its clock's zero
  pub stations : List (ℕ × ℕ)
  pub links : List Link
  -- each route with the station that has it
  pub routes : List (ℕ × Route)

abbrev pub new_setup : Params → Setup
new_setup p = record { params = p; stations = []; links = []; routes = [] }

-- the links that leave a station, those that come to it, and its routes
abbrev pub outs_of : ℕ → List Link → List OutLink
outs_of n links = filter_map (λ l. cond (l.from == n) (Some (record { link = l.link; pace = l.pace })) None) links

abbrev pub ins_of : ℕ → List Link → List InLink
ins_of n links = filter_map (λ l. cond (l.to == n) (Some (record { link = l.link; charge = l.charge })) None) links

abbrev pub routes_of : ℕ → List (ℕ × Route) → List Route
routes_of n routes = filter_map (λ r. cond (r.0 == n) (Some r.1) None) routes

-- THE CALLS, each with its refusals in order
pub data SetupCall : Type 0 where
  AddStation : (n ahead : ℕ) → SetupCall
  AddLink : (link : Link) → SetupCall
  AddRoute : (at : ℕ) → (route : Route) → SetupCall

abbrev pub is_unknown : Setup → ℕ → Bool × SetupFault
is_unknown s n = (not (has_key ◌==◌ n s.stations), fault.Unknown n)

abbrev pub has_link : Setup → ℕ → Bool
has_link s n = has_key ◌==◌ n (numbered s.links)

-- a link leads from one station to another. A route is one of a station that is there, over a link that leaves it, to another node, which need not be a station
abbrev pub setup_refusals : Setup → SetupCall → List (Bool × SetupFault)
setup_refusals s (AddStation n ahead) = (has_key ◌==◌ n s.stations, fault.Twice n) ∷ []
setup_refusals s (AddLink l) = (has_link s l.link, fault.Twice l.link) ∷ is_unknown s l.from ∷ is_unknown s l.to ∷ (l.from == l.to, fault.Stray l.link) ∷ []
setup_refusals s (AddRoute at r) =
    is_unknown s at
    ∷ (not (has_link s r.link), fault.Unknown r.link)
    ∷ (not ((link_in r.link s.links).from == at) || (r.to == at), fault.Stray r.link)
    ∷ (is_some (route_to r.to (routes_of at s.routes)), fault.Twice r.to)
    ∷ []

abbrev pub added : Setup → SetupCall → Setup
added s (AddStation n ahead) = record s { stations = s.stations ++ (n, ahead) ∷ [] }
added s (AddLink l) = record s { links = s.links ++ l ∷ [] }
added s (AddRoute at r) = record s { routes = s.routes ++ (at, r) ∷ [] }

abbrev pub setup_unless : Option SetupFault → Setup → Result Setup SetupFault
setup_unless None s = Ok s
setup_unless (Some fault) s = Err fault

abbrev pub setup_call : Setup → SetupCall → Result Setup SetupFault
setup_call s call = setup_unless (first_refusal (setup_refusals s call)) (added s call)

-- the calls in order, up to the first that is refused
abbrev pub setup_then : (Setup → Result Setup SetupFault) → Result Setup SetupFault → Result Setup SetupFault
setup_then rest (Ok s) = rest s
setup_then rest (Err fault) = Err fault

abbrev pub setup_by : List SetupCall → Setup → Result Setup SetupFault
setup_by [] s = Ok s
setup_by (call ∷ calls) s = setup_then (setup_by calls) (setup_call s call)

-- THE WORLD OF A SETUP. All stations start for the first time. Their links stand in the order of the setup.
abbrev pub relay_at : Setup → ℕ → Relay Mark
relay_at s n = new_relay (outs_of n s.links) (ins_of n s.links) (routes_of n s.routes)

abbrev pub placed_first : Setup → ℕ → ℕ → Placed
placed_first s n ahead = record { zero = ahead; life = 0; station = station_with (first_host n) (relay_at s n) }

abbrev pub new_world : Setup → World
new_world s =
    record {
      params = s.params;
      now = 0;
      stations = map (λ e. (e.0, placed_first s e.0 e.1)) s.stations;
      links = s.links;
      copies = [];
      ledgers = record { rows = []; runs = [] };
    }
