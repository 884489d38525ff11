-- A side at which nothing is unread and whose station rests need not be read. What leaves it so.
use Rattle.std.proofs.Common.{ℕ, ◌≡◌, ◌==◌, true, List, [], length, Option, Some, None, refl, ap, sym, subst, ◌∙◌, inl, inr}
use Rattle.std.specs.Prelude.{unwrap_or}
use Rattle.std.proofs.lemmas.Bool.{cases_Bool}
use Rattle.dt_units.specs.declared.endpoints.Flow.{Flow}
use Rattle.dt_units.specs.Flows.{IsFlow}
use Rattle.dt_reports.specs.Entries.{Entry}
use Rattle.dt_reports.specs.declared.faults.StepFault.{StepFault}
use Rattle.dt_world_model.specs.Host.{first_host}
use Rattle.dt_world_model.specs.Relay.{new_relay}
use Rattle.dt_world_model.specs.Station.{Read, station_with}
use Rattle.dt_world_model.specs.Tables.{look, write}
use Rattle.dt_world_model.specs.World.{Placed, World}
use Rattle.dt_world_model.specs.WorldFacts.{CanHappen}
use Rattle.dt_world_model.specs.WorldStep.{Reads, Restarts, Sends, WorldEvent, after_event, event_at, first_refusal, refusals, restart_at, restarted, step_unless, then_step}
use Rattle.dt_world_model.proofs.Tables.{look_write, look_write_other, nat_is, nat_self}
use Rattle.dt_calls_laws.specs.HasRead.{unread_at}
use Rattle.dt_calls_laws.specs.NoPass.{IsNoPass}
use Rattle.dt_calls_laws.proofs.StayingAtRest.{stays_at_rest}
use Rattle.dt_calls_laws.proofs.Unread.{read_changes_nothing}
use Rattle.dt_calls_model.specs.Calls.{Calls, Side, flow_read}
use Rattle.dt_calls_model.specs.CallTold.{CallEntry}
use Rattle.dt_calls_model.specs.Heard.{piece_in}
use Rattle.dt_calls_model.specs.Messages.{Piece}
use Rattle.dt_calls_model.specs.Reads.{happens, in_world, most_read, post, read_side, read_times, take_read}
use Rattle.dt_calls_model.specs.Rests.{RestsIn}
use Rattle.dt_call_parts.specs.Kept.{IsKeptWorld}
use Rattle.dt_call_parts.specs.Resting.{RestsAt}
use Rattle.dt_call_parts.proofs.Courses.{at}
use Rattle.dt_call_parts.proofs.Givings.{AllGiveNone, IsNoRestart, still_unread}
use Rattle.dt_call_parts.proofs.Worlds.{sent_unless, unread_in}

-- A READ THERE changes nothing
module _ (w : World) (g : Flow) (rest : RestsAt w g) where
  record IsNothing (r : List Entry × World) : Type 0 where
    piece : piece_in r.0 ≡ None
    world : r.1 ≡ w

  nothing_at : (o : Option Placed) → look ◌==◌ g.to.0 w.stations ≡ o → IsNothing (event_at w g.to.0 (Read g most_read) o)
  nothing_at None there = record { piece = refl; world = refl }
  nothing_at (Some here) there =
      let host_is : unread_at here.station.host g ≡ [] = ap (λ (o : Option Placed). unread_at (unwrap_or o (record { zero = 0; life = 0; station = station_with (first_host g.to.0) (new_relay [] [] []) })).station.host g) (sym there) ∙ rest.unread in
      let is = ap (λ (o : Option Placed). event_at w g.to.0 (Read g most_read) o) (sym there) ∙ read_changes_nothing w g most_read here there (rest.rests here there) host_is in
      record { piece = ap (λ (r : List Entry × World). piece_in r.0) is; world = ap (λ (r : List Entry × World). r.1) is }

  nothing_unless : (o : Option StepFault) → IsNothing (then_step ([], w) (step_unless o (after_event w (Reads g most_read))))
  nothing_unless None = let h = nothing_at (look ◌==◌ g.to.0 w.stations) refl in record { piece = h.piece; world = h.world }
  nothing_unless (Some fault) = record { piece = refl; world = refl }

  nothing_read : IsNothing (happens (Reads g most_read) w)
  nothing_read = nothing_unless (first_refusal (refusals w (Reads g most_read)))

pub skipped : (answer : List ℕ → List ℕ) (side : Side) (f : Flow) (told : List CallEntry) (c : Calls) → RestsAt c.world (flow_read side f) → read_side answer side (at told c) f ≡ at told c
skipped answer side f told c rest =
    let n = nothing_read c.world (flow_read side f) rest in
    let again = read_times answer (length (unread_in c.world (flow_read side f))) side f in
    ap (λ (p : Option Piece). take_read answer again side f p (at told (in_world (happens (Reads (flow_read side f) most_read) c.world).1 c))) n.piece
    ∙ ap (λ (w : World). at told (in_world w c)) n.world

-- EVENTS in which no time passes leave stations at rest
module _ (w : World) (kept : IsKeptWorld w) where
  rests_unless : (e : WorldEvent) (m : ℕ) → IsNoPass e → CanHappen e → RestsIn w m → (o : Option StepFault) → first_refusal (refusals w e) ≡ o → RestsIn (then_step ([], w) (step_unless o (after_event w e))).1 m
  rests_unless e m still can h None clear = stays_at_rest w kept.limits kept.facts m h e still can clear
  rests_unless e m still can h (Some fault) clear = h

  pub rests_on : (e : WorldEvent) (m : ℕ) → IsNoPass e → CanHappen e → RestsIn w m → RestsIn (happens e w).1 m
  rests_on e m still can h = rests_unless e m still can h (first_refusal (refusals w e)) refl

  pub quiet_rests : (e : WorldEvent) (g : Flow) → IsNoPass e → CanHappen e → IsNoRestart w g e → AllGiveNone g (happens e w).0 → RestsAt w g → RestsAt (happens e w).1 g
  quiet_rests e g still can living none h = record { unread = still_unread w g e kept can living none ∙ h.unread; rests = rests_on e g.to.0 still can h.rests }

  abbrev default : ℕ → Option Placed → Placed
  default n o = unwrap_or o (record { zero = 0; life = 0; station = station_with (first_host n) (new_relay [] [] []) })

  written_unread : (n : ℕ) (old new : Placed) (g : Flow) → look ◌==◌ n w.stations ≡ Some old → (g.to.0 ≡ n → unread_at old.station.host g ≡ [] → unread_at new.station.host g ≡ []) → unread_in w g ≡ []
      → unread_at (default g.to.0 (look ◌==◌ g.to.0 (write ◌==◌ n new w.stations))).station.host g ≡ []
  written_unread n old new g there leaves none =
      elim (cases_Bool (n == g.to.0)) [
        | inl y ↦
            let here : n ≡ g.to.0 = nat_is n g.to.0 y in
            let before : unread_at old.station.host g ≡ [] = ap (λ (o : Option Placed). unread_at (default g.to.0 o).station.host g) (sym (subst (λ (k : ℕ). look ◌==◌ k w.stations ≡ Some old) here there)) ∙ none in
            subst (λ (k : ℕ). unread_at (default g.to.0 (look ◌==◌ g.to.0 (write ◌==◌ k new w.stations))).station.host g ≡ []) (sym here)
            (ap (λ (o : Option Placed). unread_at (default g.to.0 o).station.host g) (look_write ℕ Placed ◌==◌ nat_self nat_is g.to.0 new w.stations) ∙ leaves (sym here) before)
        | inr other ↦ ap (λ (o : Option Placed). unread_at (default g.to.0 o).station.host g) (look_write_other ℕ Placed ◌==◌ nat_self nat_is g.to.0 n new w.stations other) ∙ none
      ]

-- A RESTART leaves nothing unread where nothing was
module _ (w : World) (kept : IsKeptWorld w) (n : ℕ) (g : Flow) where
  restart_unread_at : (o : Option Placed) → look ◌==◌ n w.stations ≡ o → unread_in w g ≡ [] → unread_in (restart_at w n o).1 g ≡ []
  restart_unread_at None there none = none
  restart_unread_at (Some here) there none = written_unread w kept n here (restarted w.params w.now here) g there (λ same before. refl) none

  restart_unless : (o : Option StepFault) → unread_in w g ≡ [] → unread_in (then_step ([], w) (step_unless o (after_event w (Restarts n)))).1 g ≡ []
  restart_unless None none = restart_unread_at (look ◌==◌ n w.stations) refl none
  restart_unless (Some fault) none = none

  pub restart_rests : RestsAt w g → RestsAt (happens (Restarts n) w).1 g
  restart_rests h = record { unread = restart_unless (first_refusal (refusals w (Restarts n))) h.unread; rests = rests_on w kept (Restarts n) g.to.0 tt tt h.rests }

-- A SEND leaves at rest what rests
pub sent_rests : (f : Flow) (octets : List ℕ) (w : World) (g : Flow) → IsFlow f → IsKeptWorld w → RestsAt w g → RestsAt (post f octets w).1 g
sent_rests f octets w g flow kept h = record {
  unread = sent_unless w kept f flow octets true true g (first_refusal (refusals w (Sends f octets true true))) ∙ h.unread;
  rests = rests_on w kept (Sends f octets true true) g.to.0 tt flow h.rests;
}
