-- Networks that a setup's own comes to by steps: beside each goes a world, as the laws of networks say.
use Rattle.std.proofs.Common.{ℕ, ◌≡◌, ◌⊎◌, ◌==◌, true, false, List, [], ◌∷◌, ◌++◌, map, Some, None, refl, ap, sym, subst, ◌∙◌, inl, inr}
use Rattle.std.specs.Prelude.{All, Contains}
use Rattle.std.proofs.lemmas.Bool.{cases_Bool}
use Rattle.std.proofs.lemmas.List.Elements.{All-contains, All-nil}
use Rattle.dt_units.specs.Flows.{IsFlow}
use Rattle.dt_world_model.proofs.Tables.{all_look, nat_is, nat_self}
use Rattle.dt_world_model.specs.Station.{Station}
use Rattle.dt_world_model.specs.Tables.{look}
use Rattle.dt_world_model.specs.World.{Placed, World, view}
use Rattle.dt_world_model.specs.WorldFacts.{IsCopy, IsPlaced}
use Rattle.dt_endpoint.specs.Acts.{OutFrameValue}
use Rattle.dt_endpoint.specs.Endpoints.{EndpointValue}
use Rattle.dt_network.specs.Beside.{GoesBeside, IsBeside, IsUnderWay}
use Rattle.dt_network.specs.Duties.{KeepsDuties}
use Rattle.dt_network.specs.Network.{Flight, Network, NodeSetup, Options, Setup, new_network, opened_first, opened_with}
use Rattle.dt_network.specs.Stations.{first_world}
use Rattle.dt_network.specs.Steps.{AreSteps, Step, network_after, network_by}
use Rattle.dt_service_model.specs.declared.ports.Most.{Most}
use Rattle.dt_service_laws.specs.Services.{new_services, node_with}
use Rattle.dt_service_laws.proofs.Elsewhere.{IsLawful}
use Rattle.dt_service_laws.proofs.Flows.{IsParcel, IsReading, TellsFlow}
use Rattle.dt_service_laws.proofs.Runs.{IsAt, by_append, duties_append, steps_append}

-- a network that a setup's own comes to
pub record IsReached (setup : Setup) (net : Network) : Type 0 where
  pub steps : List Step
  pub are : AreSteps setup steps (new_network setup)
  pub keep : KeepsDuties setup steps (new_network setup)
  pub is : network_by steps (new_network setup) ≡ net

last_beside : (setup : Setup) (steps : List Step) (net : Network) (w : World) → GoesBeside setup steps net w → (v : World) × IsBeside setup (network_by steps net) v
last_beside setup [] net w h = (w, h.0)
last_beside setup (s ∷ steps) net w h = last_beside setup steps (network_after s net) h.2.0 h.2.3

beside_named : (setup : Setup) (net : Network) (w : World) → IsBeside setup net w → (n : ℕ) (e : EndpointValue) → IsAt n net e → e.spent ≡ false → e.state.host.me ≡ n
beside_named setup net w beside n e there unspent =
    let s = beside.endpoints n e there in
    ap (λ (st : Station (Unit {0})). st.host.me) (s.state unspent) ∙ (all_look ℕ Placed ◌==◌ nat_self nat_is (IsPlaced w.params w.now (view w)) n s.at w.stations s.there beside.facts.stations).me

-- each frame that left is a copy of a packet of the world
beside_packet : (setup : Setup) (net : Network) (w : World) → IsBeside setup net w → (g : Flight) → Contains net.left g → IsParcel g.frame.octets
beside_packet setup net w beside g there =
    let under = All-contains (IsUnderWay w.copies) net.left g beside.left there in
    let copy = All-contains (IsCopy w.params w.now (view w)) w.copies under.copy beside.facts.copies under.there in
    let octets : under.copy.parcel.octets ≡ g.frame.octets = ap (λ (o : OutFrameValue). o.octets) under.frame in
    subst IsParcel octets (record { gram = copy.packet.gram; carries = copy.packet.carries })

pub new_there : (setup : Setup) → IsReached setup (new_network setup)
new_there setup = record { steps = []; are = tt; keep = tt; is = refl }

-- what holds of each endpoint as it opens
new_at : (P : EndpointValue → Type 0) (setup : Setup) → ((n : ℕ) (options : Options) → P (opened_with setup n None options)) → (k : ℕ) (e : EndpointValue) → IsAt k (new_network setup) e → P e
new_at P setup opens k e there = first setup.nodes there
  where
    first : (nodes : List (ℕ × NodeSetup)) → look ◌==◌ k (map (opened_first setup) nodes) ≡ Some e → P e
    first [] h = absurd cc
    first (s ∷ nodes) h =
        elim (cases_Bool (s.0 == k)) [
          | inl y ↦ (let one : Some (opened_first setup s).1 ≡ Some e = rw y at h in let same : (opened_first setup s).1 ≡ e = cc in subst P same (opens s.0 s.1.options))
          | inr o ↦ (let more : look ◌==◌ k (map (opened_first setup) nodes) ≡ Some e = rw o at h in first nodes more)
        ]

-- each node that opened for the first time goes on
new_unspent : (setup : Setup) (k : ℕ) (e : EndpointValue) → IsAt k (new_network setup) e → e.spent ≡ false
new_unspent setup = new_at (λ (x : EndpointValue). x.spent ≡ false) setup (λ n options. refl)

pub new_on : (setup : Setup) (most : ℕ → Most) (life : ℕ → ℕ) (k : ℕ) (e : EndpointValue) → IsAt k (new_services setup most life).network e → (e.spent ≡ false) ⊎ (((new_services setup most life).book k).closed ≡ true)
new_on setup most life k e there = inl (new_unspent setup k e there)

pub new_reading : (setup : Setup) (most : ℕ → Most) (life : ℕ → ℕ) (k : ℕ) (e : EndpointValue) → IsAt k (new_network setup) e → IsReading (node_with k (new_services setup most life) e)
new_reading setup most life k e there = record { unread = All-nil IsFlow; waiting = new_at (λ (x : EndpointValue). All TellsFlow x.reports) setup (λ n options. All-nil TellsFlow) k e there }

module _ (setup : Setup) (world : (steps : List Step) → AreSteps setup steps (new_network setup) → KeepsDuties setup steps (new_network setup) → GoesBeside setup steps (new_network setup) (first_world setup)) where
  pub lawful : IsLawful setup (IsReached setup)
  lawful = record {
    on = λ m steps h are keep. record {
      steps = h.steps ++ steps;
      are = steps_append setup h.steps steps (new_network setup) h.are (subst (AreSteps setup steps) (sym h.is) are);
      keep = duties_append setup h.steps steps (new_network setup) h.keep (subst (KeepsDuties setup steps) (sym h.is) keep);
      is = by_append h.steps steps (new_network setup) ∙ ap (network_by steps) h.is;
    };
    named = λ m n e h there unspent.
        let b = last_beside setup h.steps (new_network setup) (first_world setup) (world h.steps h.are h.keep) in
        beside_named setup (network_by h.steps (new_network setup)) b.0 b.1 n e (subst (λ (net : Network). IsAt n net e) (sym h.is) there) unspent;
    packets = λ m g h there.
        let b = last_beside setup h.steps (new_network setup) (first_world setup) (world h.steps h.are h.keep) in
        beside_packet setup (network_by h.steps (new_network setup)) b.0 b.1 g (subst (λ (net : Network). Contains net.left g) (sym h.is) there);
  }
