-- A network that begins beside its world, and a node that opens again beside its station that starts again.
use Rattle.std.proofs.Common.{◌≡◌, ◌∙◌, ◌==◌, ◌+◌, ℕ, true, false, List, [], ◌∷◌, ◌++◌, length, map, min, Option, Some, None, refl, sym, ap, subst, arith, inl, inr}
use Rattle.std.specs.Prelude.{All, if◌then◌else◌, option_map, unwrap_or}
use Rattle.std.proofs.Math.Seq.{drop-nil}
use Rattle.std.proofs.lemmas.Bool.{cases_Bool}
use Rattle.std.proofs.lemmas.List.{append-nil}
use Rattle.std.proofs.lemmas.List.Elements.{All-nil}
use Rattle.dt_units.specs.declared.endpoints.Flow.{Flow}
use Rattle.dt_flow_model.specs.Facts.{Facts}
use Rattle.dt_flow_model.specs.Flow.{FlowState, new_flow}
use Rattle.dt_flow_laws.proofs.Reached.{start_facts}
use Rattle.dt_flow_model.specs.Frames.{Mark}
use Rattle.dt_flow_model.specs.Keeping.{most_moment}
use Rattle.dt_world_laws.proofs.Books.{Book, flow_state, no_placed}
use Rattle.dt_world_model.proofs.Tables.{look_write, nat_is, nat_self}
use Rattle.dt_world_model.specs.declared.links.OutLink.{OutLink}
use Rattle.dt_world_model.specs.Host.{Host, no_receiver, restarted_host}
use Rattle.dt_world_model.specs.Relay.{Out, Relay, empty_out}
use Rattle.dt_world_model.specs.Station.{Station, station_with}
use Rattle.dt_world_model.specs.Tables.{AllEntries, look}
use Rattle.dt_world_model.specs.Tags.{bare_out, bare_relay, bare_station}
use Rattle.dt_world_model.specs.World.{Placed, ReceiverSide, SenderSide, World, placed, receiver_side, sender_side, view}
use Rattle.dt_world_model.specs.WorldFacts.{IsCopy, IsPlaced, IsWaiting, WorldFacts}
use Rattle.dt_world_model.specs.WorldStep.{restart_at, restarted}
use Rattle.dt_endpoint.specs.Acts.{OutFrameValue}
use Rattle.dt_endpoint.specs.Endpoints.{EndpointValue}
use Rattle.dt_network.proofs.Events.{called, stations_after, stays_station}
use Rattle.dt_network.proofs.Tabled.{links_charge, nothing_waits}
use Rattle.dt_network.specs.Beside.{IsBeside, IsStationOf, IsUnderWay}
use Rattle.dt_network.specs.Duties.{KeepsTime}
use Rattle.dt_network.specs.Network.{Flight, Network, NodeSetup, Options, Setup, flights, new_network, opened_first, opened_with}
use Rattle.dt_network.specs.Stations.{first_placed, first_world, relay_with, relink, relinked}

-- RELAYS
bare_outs : (outs : List OutLink) → map bare_out (map (λ (o : OutLink). let q : Out Mark = empty_out o.link o.pace in q) outs) ≡ map (λ (o : OutLink). let q : Out (Unit {0}) = empty_out o.link o.pace in q) outs
bare_outs [] = refl
bare_outs (o ∷ outs) = ap (λ (rest : List (Out (Unit {0}))). empty_out o.link o.pace ∷ rest) (bare_outs outs)

abbrev marked_relay : Options → Relay Mark
marked_relay options = relay_with options

abbrev plain_relay : Options → Relay (Unit {0})
plain_relay options = relay_with options

bare_new : (options : Options) → bare_relay (marked_relay options) ≡ plain_relay options
bare_new options = ap (λ (outs : List (Out (Unit {0}))). let r : Relay (Unit {0}) = record { outs = outs; ins = options.ins; routes = options.routes } in r) (bare_outs options.outs)

-- A FIRST WORLD has the facts
abbrev no_book : Book
no_book = record { taken = []; given = []; reads = []; run = None; crossings = [] }

abbrev ahead_in : List (ℕ × NodeSetup) → ℕ → ℕ
ahead_in [] n = 0
ahead_in (s ∷ ss) n = if s.0 == n then s.1.ahead else ahead_in ss n

pub first_sender : (ss : List (ℕ × NodeSetup)) (n : ℕ) (f : Flow) → sender_side (unwrap_or (look ◌==◌ n (map first_placed ss)) (no_placed n)) f ≡ record { zero = ahead_in ss n; life = 0; until = 0; sender = None }
first_sender [] n f = refl
first_sender (s ∷ ss) n f = elim (cases_Bool (s.0 == n)) [ inl y ↦ rw y refl | inr o ↦ rw o (first_sender ss n f) ]

first_receiver : (ss : List (ℕ × NodeSetup)) (n : ℕ) (f : Flow) → receiver_side (unwrap_or (look ◌==◌ n (map first_placed ss)) (no_placed n)) f ≡ record { zero = ahead_in ss n; life = 0; until = 0; receiver = no_receiver }
first_receiver [] n f = refl
first_receiver (s ∷ ss) n f = elim (cases_Bool (s.0 == n)) [ inl y ↦ rw y refl | inr o ↦ rw o (first_receiver ss n f) ]

first_view : (setup : Setup) (f : Flow) → view (first_world setup) f ≡ new_flow (ahead_in setup.nodes f.from.0) (ahead_in setup.nodes f.to.0)
first_view setup f =
    ap (λ (x : SenderSide). flow_state 0 x (receiver_side (placed (first_world setup) f.to.0) f) no_book) (first_sender setup.nodes f.from.0 f)
    ∙ ap (λ (y : ReceiverSide). flow_state 0 (record { zero = ahead_in setup.nodes f.from.0; life = 0; until = 0; sender = None }) y no_book) (first_receiver setup.nodes f.to.0 f)

first_stations : (setup : Setup) (views : Flow → FlowState) (ss : List (ℕ × NodeSetup)) → AllEntries (IsPlaced setup.params 0 views) (map first_placed ss)
first_stations setup views [] = tt
first_stations setup views (s ∷ ss) =
    (record { me = refl; host = record { one_sender = tt; one_receiver = tt; senders = tt; receivers = tt }; waiting = nothing_waits (IsWaiting setup.params 0 s.1.ahead views) s.1.options.outs; transmitted = tt }, first_stations setup views ss)

first_facts : (setup : Setup) → WorldFacts (first_world setup)
first_facts setup = record {
  flows = λ f. subst (λ (s : FlowState). Facts setup.params s) (sym (first_view setup f)) (start_facts setup.params (ahead_in setup.nodes f.from.0) (ahead_in setup.nodes f.to.0));
  copies = All-nil (IsCopy setup.params 0 (view (first_world setup)));
  stations = first_stations setup (view (first_world setup)) setup.nodes;
  charges = links_charge (map first_placed setup.nodes);
}

-- THE BEGINNING
pub record Begun (setup : Setup) (ss : List (ℕ × NodeSetup)) (n : ℕ) (e : EndpointValue) : Type 0 where
  pub node : NodeSetup
  clock : look ◌==◌ n ss ≡ Some node
  there : look ◌==◌ n (map first_placed ss) ≡ Some (first_placed (n, node)).1
  pub is : opened_with setup n None node.options ≡ e

pub begun : (setup : Setup) (ss : List (ℕ × NodeSetup)) (n : ℕ) (e : EndpointValue) → look ◌==◌ n (map (opened_first setup) ss) ≡ Some e → Begun setup ss n e
begun setup [] n e found = absurd cc
begun setup (s ∷ ss) n e found =
    elim (cases_Bool (s.0 == n)) [
      | inl y ↦
          let one : Some (opened_first setup s).1 ≡ Some e = rw y at found in
          let same : s.0 ≡ n = nat_is s.0 n y in
          let first : (opened_first setup s).1 ≡ e = cc in
          record {
            node = s.1;
            clock = rw y refl;
            there = rw y (ap (λ (k : ℕ). Some (first_placed (k, s.1)).1) same);
            is = ap (λ (k : ℕ). opened_with setup k None s.1.options) (sym same) ∙ first;
          }
      | inr o ↦
          let more : look ◌==◌ n (map (opened_first setup) ss) ≡ Some e = rw o at found in
          let rest = begun setup ss n e more in
          record { node = rest.node; clock = rw o rest.clock; there = rw o rest.there; is = rest.is }
    ]

first_station : (setup : Setup) (n : ℕ) (e : EndpointValue) → Begun setup setup.nodes n e → IsStationOf setup (first_world setup) n e
first_station setup n e b =
    subst (λ (x : EndpointValue). IsStationOf setup (first_world setup) n x) b.is
    (record {
      at = (first_placed (n, b.node)).1;
      there = b.there;
      clock = sym (ap (λ (o : Option NodeSetup). unwrap_or (option_map (λ (s : NodeSetup). s.ahead) o) 0) b.clock);
      rules = refl;
      past = omega arith;
      state = λ unspent. ap (λ (r : Relay (Unit {0})). let st : Station (Unit {0}) = station_with (first_placed (n, b.node)).1.station.host r in st) (sym (bare_new b.node.options));
    })

pub network_begins : (setup : Setup) → IsBeside setup (new_network setup) (first_world setup)
network_begins setup = record {
  params = refl;
  now = refl;
  endpoints = λ n e found. first_station setup n e (begun setup setup.nodes n e found);
  left = All-nil (IsUnderWay []);
  facts = first_facts setup;
}

-- A NODE OPENS AGAIN
module _ (setup : Setup) (net : Network) (w : World) (h : IsBeside setup net w) (n : ℕ) (e : EndpointValue) (s : IsStationOf setup w n e) (named : s.at.station.host.me ≡ n) (now : ℕ) (time : KeepsTime setup net n now) (options : Options) where
  -- its station starts again first
  abbrev between : World
  between = (restart_at w n (Some s.at)).1

  abbrev silent : Placed
  silent = restarted w.params w.now s.at

  abbrev anew : World
  anew = relink between n silent options

  reading : min now most_moment ≡ w.now + s.at.zero
  reading = omega (arith, time.clock, time.most, s.clock, h.now)

  host_again : restarted_host setup.params n (min now most_moment) ≡ silent.station.host
  host_again =
      ap (λ (m : ℕ). restarted_host setup.params n m) reading
      ∙ ap (λ (m : ℕ). restarted_host setup.params m (w.now + s.at.zero)) (sym named)
      ∙ ap (λ p. restarted_host p s.at.station.host.me (w.now + s.at.zero)) (sym h.params)

  state_again : (opened_with setup n (Some now) options).state ≡ bare_station (relinked options silent).station
  state_again =
      ap (λ (host : Host). let st : Station (Unit {0}) = station_with host (plain_relay options) in st) host_again
      ∙ ap (λ (r : Relay (Unit {0})). let st : Station (Unit {0}) = station_with silent.station.host r in st) (sym (bare_new options))

  opened_again : IsStationOf setup anew n (opened_with setup n (Some now) options)
  opened_again = record {
    at = relinked options silent;
    there = look_write ℕ Placed ◌==◌ nat_self nat_is n (relinked options silent) between.stations;
    clock = s.clock;
    rules = sym h.params;
    past = omega (arith, reading);
    state = λ unspent. state_again;
  }

  pub again_beside : (f : EndpointValue) → f ≡ opened_with setup n (Some now) options → WorldFacts anew → IsBeside setup (called net n e f) anew
  again_beside f is facts = record {
    params = h.params;
    now = h.now;
    endpoints = stations_after setup net.endpoints anew n f (subst (λ (x : EndpointValue). IsStationOf setup anew n x) (sym is) opened_again) (λ m g other found. stays_station setup between anew n m (relinked options silent) g refl refl refl other (stays_station setup w between n m silent g refl refl refl other (h.endpoints m g found)));
    left = subst (λ (fs : List Flight). All (IsUnderWay w.copies) (net.left ++ fs)) (sym nothing_left) (subst (λ (fs : List Flight). All (IsUnderWay w.copies) fs) (sym (append-nil net.left)) h.left);
    facts = facts;
  }
    where
      nothing_left : flights net.now (Some e) f ≡ []
      nothing_left = ap (λ (x : EndpointValue). flights net.now (Some e) x) is ∙ ap (λ (fs : List OutFrameValue). map (λ (g : OutFrameValue). let t : Flight = record { frame = g; put = net.now } in t) fs) (drop-nil (length e.frames))
