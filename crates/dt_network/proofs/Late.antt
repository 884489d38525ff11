-- A copy that waited comes to a station: what flows took stays, and what was read of them.
use Rattle.std.proofs.Common.{◌≡◌, ◌∙◌, ◌==◌, ◌+◌, ℕ, Option, Some, sym, ap, subst, inl, inr}
use Rattle.std.proofs.lemmas.Bool.{cases_Bool}
use Rattle.std.specs.Prelude.{unwrap_or}
use Rattle.dt_units.specs.declared.endpoints.Flow.{Flow}
use Rattle.dt_units.specs.declared.parameters.Params.{Params}
use Rattle.dt_flow_model.specs.Frames.{Mark}
use Rattle.dt_world_laws.proofs.Books.{no_placed}
use Rattle.dt_world_laws.proofs.Worlds.{GoesTo}
use Rattle.dt_world_model.proofs.Tables.{look_write, look_write_other, nat_is, nat_self}
use Rattle.dt_world_model.specs.Ledgers.{Occasion, ledger_of}
use Rattle.dt_world_model.specs.Relay.{Parcel, admit}
use Rattle.dt_world_model.specs.Script.{play}
use Rattle.dt_world_model.specs.Station.{Arrive, Event, Station, station_event}
use Rattle.dt_world_model.specs.Tables.{look, write}
use Rattle.dt_world_model.specs.World.{Noted, Placed, World, placed, view, world_handler}
use Rattle.dt_world_model.specs.WorldFacts.{WorldFacts}
use Rattle.dt_world_model.specs.WorldStep.{event_at, noted_at, occasion}
use Rattle.dt_calls_laws.proofs.Gives.{gone_stays, lifted_gives}
use Rattle.dt_calls_laws.proofs.Growing.{admitted_grows, event_grows, play_grows}
use Rattle.dt_calls_laws.specs.Calm.{Calm}
use Rattle.dt_calls_laws.specs.Grown.{GrowsAtEnd}

-- after an arrival the ledger of a flow has grown at its end
arrival_grows : (p : Params) (now link : ℕ) (parcel : Parcel Mark) (st : Station Mark) (o : Occasion) (d : Noted) (g : Flow) → GrowsAtEnd (ledger_of d.ledgers g) (ledger_of (play (world_handler o) (station_event p now (Arrive link parcel) st) d).0.ledgers g)
arrival_grows p now link parcel st o d g = play_grows o (station_event p now (Arrive link parcel) st) d g (event_grows p now (Arrive link parcel) st (λ before. admitted_grows p now link (admit link parcel before.relay) before))

-- AT A STATION no life changes
pub life_stays : (w : World) (n : ℕ) (at : Placed) (e : Event Mark) (m : ℕ) → look ◌==◌ n w.stations ≡ Some at → (placed (event_at w n e (Some at)).1 m).life ≡ (placed w m).life
life_stays w n at e m there =
    let new : Placed = record { zero = at.zero; life = at.life; station = (play (world_handler (occasion w n e)) (station_event w.params (w.now + at.zero) e at.station) (noted_at w)).1 } in
    elim (cases_Bool (n == m)) [
      | inl y ↦
          let same : n ≡ m = nat_is n m y in
          let is : look ◌==◌ m (write ◌==◌ n new w.stations) ≡ Some new = subst (λ (k : ℕ). look ◌==◌ k (write ◌==◌ n new w.stations) ≡ Some new) same (look_write ℕ Placed ◌==◌ nat_self nat_is n new w.stations) in
          let was : look ◌==◌ m w.stations ≡ Some at = subst (λ (k : ℕ). look ◌==◌ k w.stations ≡ Some at) same there in
          ap (λ (o : Option Placed). (unwrap_or o (no_placed m)).life) is ∙ sym (ap (λ (o : Option Placed). (unwrap_or o (no_placed m)).life) was)
      | inr o ↦ ap (λ (x : Option Placed). (unwrap_or x (no_placed m)).life) (look_write_other ℕ Placed ◌==◌ nat_self nat_is m n new w.stations o)
    ]

pub arrival_calm : (w : World) (n : ℕ) (at : Placed) (link : ℕ) (parcel : Parcel Mark) (g : Flow) → look ◌==◌ n w.stations ≡ Some at → WorldFacts w → GoesTo w (event_at w n (Arrive link parcel) (Some at)).1 → Calm w (event_at w n (Arrive link parcel) (Some at)).1 g
arrival_calm w n at link parcel g there facts go =
    let v = (event_at w n (Arrive link parcel) (Some at)).1 in
    let grown = arrival_grows w.params (w.now + at.zero) link parcel at.station (occasion w n (Arrive link parcel)) (noted_at w) g in
    let life = life_stays w n at (Arrive link parcel) g.to.0 there in
    record {
      items = grown.taken;
      steady = record { gone = gone_stays (view w g) (view v g) (lifted_gives w.params (view w g) (view v g) (go.1 g)) (facts.flows g).read_side (go.0.flows g).read_side life grown.reads; life = life };
    }
