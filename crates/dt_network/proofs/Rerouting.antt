-- A station whose links or routes are others: no flow is seen otherwise, and all facts stand.
use Rattle.std.proofs.Common.{◌≡◌, ◌∙◌, ◌==◌, ◌-◌, ℕ, List, [], ◌∷◌, Option, Some, length, take, refl, sym, ap, subst, inl, inr}
use Rattle.std.specs.Prelude.{unwrap_or}
use Rattle.std.proofs.lemmas.Bool.{cases_Bool}
use Rattle.std.proofs.lemmas.List.Elements.{All-weaker}
use Rattle.dt_units.specs.declared.endpoints.Flow.{Flow}
use Rattle.dt_flow_model.specs.Facts.{Facts}
use Rattle.dt_flow_model.specs.Flow.{FlowState}
use Rattle.dt_flow_model.specs.Steps.{HasTransmitted}
use Rattle.dt_world_laws.proofs.Books.{no_placed}
use Rattle.dt_world_laws.proofs.Good.{Onward, all_outs_weaker, copy_on, waiting_on}
use Rattle.dt_world_laws.proofs.Worlds.{same_on}
use Rattle.dt_world_model.proofs.Tables.{all_look, all_write, look_write, look_write_other, nat_is, nat_self}
use Rattle.dt_world_model.specs.declared.links.Link.{Link}
use Rattle.dt_world_model.specs.declared.links.Route.{Route}
use Rattle.dt_world_model.specs.Ledgers.{ledger_of, run_of}
use Rattle.dt_world_model.specs.Host.{Host, IsHost, receiver_at, sender_at}
use Rattle.dt_world_model.specs.Relay.{charge_of}
use Rattle.dt_world_model.specs.Tables.{AllEntries, look, write}
use Rattle.dt_world_model.specs.World.{Placed, ReceiverSide, SenderSide, World, flow_state, placed, receiver_side, sender_side, view}
use Rattle.dt_world_model.specs.WorldFacts.{AllOuts, IsCopy, IsPlaced, IsWaiting, WorldFacts}
use Rattle.dt_world_model.specs.WorldStep.{link_in}
use Rattle.dt_calls_laws.specs.Calm.{Calm}
use Rattle.dt_network.proofs.Booked.{Booked}
use Rattle.dt_network.proofs.Tabled.{links_charge, nothing_waits}
use Rattle.dt_network.specs.Network.{Options}
use Rattle.dt_network.specs.Stations.{links_of, relink, relinked, reroute, rerouted}
use Rattle.dt_network.specs.Books.{Book}

pub all_entries_weaker : (P Q : ℕ → Placed → Type 0) → ((k : ℕ) (a : Placed) → P k a → Q k a) → (es : List (ℕ × Placed)) → AllEntries P es → AllEntries Q es
all_entries_weaker P Q on [] h = tt
all_entries_weaker P Q on (e ∷ es) h = (on e.0 e.1 h.0, all_entries_weaker P Q on es h.1)

-- a station by what flows see of it, and by what it charges
pub record IsSeen (a b : Placed) : Type 0 where
  pub zero : b.zero ≡ a.zero
  pub life : b.life ≡ a.life
  pub host : b.station.host ≡ a.station.host

abbrev sender_of : ℕ → ℕ → Host → Flow → SenderSide
sender_of ahead life host f = record { zero = ahead; life = life; until = host.until; sender = sender_at host f }

abbrev receiver_of : ℕ → ℕ → Host → Flow → ReceiverSide
receiver_of ahead life host f = record { zero = ahead; life = life; until = host.until; receiver = receiver_at host f }

sender_same : (a b : Placed) (f : Flow) → IsSeen a b → sender_side b f ≡ sender_side a f
sender_same a b f h =
    ap (λ (k : ℕ). sender_of k b.life b.station.host f) h.zero
    ∙ ap (λ (k : ℕ). sender_of a.zero k b.station.host f) h.life
    ∙ ap (λ (host : Host). sender_of a.zero a.life host f) h.host

receiver_same : (a b : Placed) (f : Flow) → IsSeen a b → receiver_side b f ≡ receiver_side a f
receiver_same a b f h =
    ap (λ (k : ℕ). receiver_of k b.life b.station.host f) h.zero
    ∙ ap (λ (k : ℕ). receiver_of a.zero k b.station.host f) h.life
    ∙ ap (λ (host : Host). receiver_of a.zero a.life host f) h.host

-- ANOTHER STATION in the place of one, which flows see as that, and other links
module _ (w : World) (n : ℕ) (at : Placed) (there : look ◌==◌ n w.stations ≡ Some at) (moved : Placed) (as_before : IsSeen at moved) (links : List Link) where
  abbrev pub anew : World
  anew = record { params = w.params; now = w.now; stations = write ◌==◌ n moved w.stations; links = links; copies = w.copies; ledgers = w.ledgers }

  pub moved_there : look ◌==◌ n anew.stations ≡ Some moved
  moved_there = look_write ℕ Placed ◌==◌ nat_self nat_is n moved w.stations

  seen_here : IsSeen (placed w n) (placed anew n)
  seen_here =
      let was : placed w n ≡ at = ap (λ (o : Option Placed). unwrap_or o (no_placed n)) there in
      let is : placed anew n ≡ moved = ap (λ (o : Option Placed). unwrap_or o (no_placed n)) moved_there in
      subst (λ (p : Placed). IsSeen p (placed anew n)) (sym was) (subst (λ (p : Placed). IsSeen at p) (sym is) as_before)

  seen : (m : ℕ) → IsSeen (placed w m) (placed anew m)
  seen m =
      elim (cases_Bool (n == m)) [
        | inl y ↦ subst (λ (k : ℕ). IsSeen (placed w k) (placed anew k)) (nat_is n m y) seen_here
        | inr o ↦
            let same : placed anew m ≡ placed w m = ap (λ (x : Option Placed). unwrap_or x (no_placed m)) (look_write_other ℕ Placed ◌==◌ nat_self nat_is m n moved w.stations o) in
            subst (λ (p : Placed). IsSeen (placed w m) p) (sym same) (record { zero = refl; life = refl; host = refl })
      ]

  pub same_life : (m : ℕ) → (placed anew m).life ≡ (placed w m).life
  same_life m = (seen m).life

  pub same_view : (f : Flow) → view anew f ≡ view w f
  same_view f =
      let ledger = ledger_of w.ledgers f in
      let run = run_of w.ledgers f in
      ap (λ (x : SenderSide). flow_state w.now x (receiver_side (placed anew f.to.0) f) ledger run) (sender_same (placed w f.from.0) (placed anew f.from.0) f (seen f.from.0))
      ∙ ap (λ (y : ReceiverSide). flow_state w.now (sender_side (placed w f.from.0) f) y ledger run) (receiver_same (placed w f.to.0) (placed anew f.to.0) f (seen f.to.0))

  on_same : Onward w.params (view w) (view anew)
  on_same = same_on w.params (view w) (view anew) (λ f. sym (same_view f))

  placed_still : (m : ℕ) (a : Placed) → IsPlaced w.params w.now (view w) m a → IsPlaced w.params w.now (view anew) m a
  placed_still m a h = record { me = h.me; host = h.host; waiting = all_outs_weaker (IsWaiting w.params w.now a.zero (view w)) (IsWaiting w.params w.now a.zero (view anew)) (λ x k. waiting_on w.params w.now a.zero (view w) (view anew) x on_same k) a.station.relay.outs h.waiting; transmitted = h.transmitted }

  -- its packets that wait, and what each station charges
  abbrev Waits : Type 0
  Waits = AllOuts (IsWaiting w.params w.now moved.zero (view anew)) moved.station.relay.outs

  abbrev Charged : Type 0
  Charged = (link : ℕ) (a : Placed) → look ◌==◌ (link_in link links).to anew.stations ≡ Some a → charge_of link a.station.relay.ins ≡ (link_in link links).charge

  placed_here : Waits → IsPlaced w.params w.now (view w) n at → IsPlaced w.params w.now (view anew) n moved
  placed_here waits h = record {
    me = ap (λ (host : Host). host.me) as_before.host ∙ h.me;
    host = subst (λ (host : Host). IsHost w.params host) (sym as_before.host) h.host;
    waiting = waits;
    transmitted = subst (λ (host : Host). AllEntries (λ f x. HasTransmitted (Some x)) host.senders) (sym as_before.host) h.transmitted;
  }

  facts_stand : Waits → Charged → WorldFacts w → WorldFacts anew
  facts_stand waits charged facts =
      let old = all_look ℕ Placed ◌==◌ nat_self nat_is (IsPlaced w.params w.now (view w)) n at w.stations there facts.stations in
      record {
        flows = λ f. subst (λ (s : FlowState). Facts w.params s) (sym (same_view f)) (facts.flows f);
        copies = All-weaker (IsCopy w.params w.now (view w)) (IsCopy w.params w.now (view anew)) (λ c z. copy_on w.params w.now (view w) (view anew) c on_same z) w.copies facts.copies;
        stations = all_write ℕ Placed ◌==◌ nat_self nat_is (IsPlaced w.params w.now (view anew)) n moved w.stations (placed_here waits old)
            (all_entries_weaker (IsPlaced w.params w.now (view w)) (IsPlaced w.params w.now (view anew)) placed_still w.stations facts.stations);
        charges = charged;
      }

  pub calm_stands : (g : Flow) → Calm w anew g
  calm_stands g = record {
    items = refl;
    steady = record {
      gone = ap (λ (s : FlowState). let given = (ledger_of w.ledgers g).given in take (length given - length s.unread) given) (same_view g);
      life = same_life g.to.0;
    };
  }

  pub booked_stands : (g : Flow) (b : Book) → Booked w g b → Booked anew g b
  booked_stands g b k = record { rows = k.rows; given = k.given; lives = λ m. same_life m ∙ k.lives m }

-- OTHER ROUTES, and the packets that wait stay where they are
module _ (w : World) (n : ℕ) (at : Placed) (there : look ◌==◌ n w.stations ≡ Some at) (routes : List Route) (facts : WorldFacts w) where
  abbrev new_routes : Placed
  new_routes = rerouted routes at

  seen_so : IsSeen at new_routes
  seen_so = record { zero = refl; life = refl; host = refl }

  pub reroute_keeps : WorldFacts (reroute w n at routes)
  reroute_keeps =
      let v = reroute w n at routes in
      let old = all_look ℕ Placed ◌==◌ nat_self nat_is (IsPlaced w.params w.now (view w)) n at w.stations there facts.stations in
      facts_stand w n at there new_routes seen_so w.links
      (all_outs_weaker (IsWaiting w.params w.now at.zero (view w)) (IsWaiting w.params w.now at.zero (view v)) (λ x k. waiting_on w.params w.now at.zero (view w) (view v) x (on_same w n at there new_routes seen_so w.links) k) at.station.relay.outs old.waiting)
      (λ link a e.
      let to = (link_in link w.links).to in
      elim (cases_Bool (n == to)) [
        | inl y ↦
            let same : n ≡ to = nat_is n to y in
            let found : look ◌==◌ to (write ◌==◌ n new_routes w.stations) ≡ Some new_routes = subst (λ (k : ℕ). look ◌==◌ k (write ◌==◌ n new_routes w.stations) ≡ Some new_routes) same (moved_there w n at there new_routes seen_so w.links) in
            let one : Some new_routes ≡ Some a = sym found ∙ e in
            let is : new_routes ≡ a = cc in
            sym (ap (λ (x : Placed). charge_of link x.station.relay.ins) is) ∙ facts.charges link at (subst (λ (k : ℕ). look ◌==◌ k w.stations ≡ Some at) same there)
        | inr o ↦ facts.charges link a (sym (look_write_other ℕ Placed ◌==◌ nat_self nat_is to n new_routes w.stations o) ∙ e)
      ])
      facts

-- OTHER LINKS AND ROUTES, and nothing waits
module _ (w : World) (n : ℕ) (at : Placed) (there : look ◌==◌ n w.stations ≡ Some at) (options : Options) (facts : WorldFacts w) where
  pub relink_keeps : WorldFacts (relink w n at options)
  relink_keeps =
      let new = relinked options at in
      let stations = write ◌==◌ n new w.stations in
      facts_stand w n at there new (record { zero = refl; life = refl; host = refl }) (links_of stations stations)
      (nothing_waits (IsWaiting w.params w.now at.zero (view (relink w n at options))) options.outs)
      (links_charge stations)
      facts

-- what goes on calmly from there does so from before
pub calm_through : (w u v : World) (g : Flow) → Calm w u g → Calm u v g → Calm w v g
calm_through w u v g c d = record { items = d.items ∙ c.items; steady = record { gone = d.steady.gone ∙ c.steady.gone; life = d.steady.life ∙ c.steady.life } }
