-- After it has settled no act of a host is due: each receive record that stands is live.
use Rattle.std.proofs.Common.{ℕ, ◌+◌, ◌<◌, ◌≡◌, false, List, [], ◌∷◌, Option, Some, None, refl, sym, ap, subst, inl, inr, ◌∙◌, arith}
use Rattle.std.specs.Prelude.{nat_le}
use Rattle.std.proofs.lemmas.Bool.{cases_Bool}
use Rattle.std.proofs.lemmas.Bool.Decides.{nat_tests}
use Rattle.dt_units.specs.declared.parameters.Params.{Params}
use Rattle.dt_units.specs.declared.endpoints.Flow.{Flow}
use Rattle.dt_units.specs.Limits.{IsWithinLimits}
use Rattle.dt_units.specs.Times.{receive_time}
use Rattle.dt_flow_model.specs.declared.acts.RecvKind.TheVariants as K
use Rattle.dt_flow_model.specs.SendActs.{Act, act_of}
use Rattle.dt_flow_model.specs.SendRecord.{SendRecord}
use Rattle.dt_flow_model.specs.ReceiveRecord.{IsCurrent, ReceiveRecord, Receiver, recv_due_of}
use Rattle.dt_world_model.specs.Tables.{same_flow, look}
use Rattle.dt_flow_model.specs.Frames.{Mark}
use Rattle.dt_world_model.specs.Host.{Host, next_turn, offers, receiver_at, recv_offer, recv_offers, send_offer, send_offers, no_receiver}
use Rattle.std.specs.Prelude.{unwrap_or}
use Rattle.dt_world_laws.proofs.Lifting.{left_nil, right_nil}
use Rattle.dt_world_laws.proofs.Settles.{Settled, answers_play, no_offer, settle_ends}
use Rattle.dt_world_model.specs.Script.{play}
use Rattle.dt_world_model.specs.Station.{Station, settle_station}
use Rattle.dt_world_laws.proofs.Books.{Cause}
use Rattle.dt_world_model.specs.World.{World, Noted, world_handler}
use Rattle.dt_world_laws.proofs.Good.{Good, reading, stage}

not_le : (m n : ℕ) → nat_le m n ≡ false → n < m
not_le m n h = grind (arith, nat_tests)

current_if : (p : Params) (now : ℕ) (f : Flow) (standing : Option ReceiveRecord) → recv_offer f standing (recv_due_of p now standing) ≡ [] → IsCurrent p now standing
current_if p now f None e = tt
current_if p now f (Some y) e =
    elim (cases_Bool (nat_le (y.touched + receive_time p) now)) [
      | inl t ↦
          let due : recv_due_of p now (Some y) ≡ Some (K.Release, y.touched + receive_time p) = rw t refl in
          let offer : recv_offer f (Some y) (Some (K.Release, y.touched + receive_time p)) ≡ [] = sym (ap (recv_offer f (Some y)) due) ∙ e in absurd cc
      | inr o ↦ not_le _ _ o
    ]

current_in : (p : Params) (now : ℕ) (f : Flow) (es : List (Flow × Receiver)) → recv_offers p now es ≡ [] → IsCurrent p now (unwrap_or (look same_flow f es) no_receiver).standing
current_in p now f [] e = tt
current_in p now f (r ∷ es) e =
    let here = left_nil (recv_offer r.0 r.1.standing (recv_due_of p now r.1.standing)) (recv_offers p now es) e in
    let there = right_nil (recv_offer r.0 r.1.standing (recv_due_of p now r.1.standing)) (recv_offers p now es) e in
    elim (cases_Bool (same_flow r.0 f)) [
      | inl y ↦ rw y (current_if p now r.0 r.1.standing here)
      | inr n ↦ rw n (current_in p now f es there)
    ]

-- where no act is due, each receive record is live
pub receivers_current : (p : Params) (now : ℕ) (host : Host) (f : Flow) → next_turn p now host ≡ None → IsCurrent p now (receiver_at host f).standing
receivers_current p now host f e = current_in p now f host.receivers (right_nil (send_offers p now host.senders) (recv_offers p now host.receivers) (no_offer p now host (offers p now host) e))

idle_if : (p : Params) (f : Flow) (x : SendRecord) (act : Option Act) → send_offer p f x act ≡ [] → act ≡ None
idle_if p f x None e = refl
idle_if p f x (Some act) e = absurd cc

idle_in : (p : Params) (now : ℕ) (f : Flow) (x : SendRecord) (es : List (Flow × SendRecord)) → send_offers p now es ≡ [] → look same_flow f es ≡ Some x → act_of p now x ≡ None
idle_in p now f x [] e there = absurd cc
idle_in p now f x (r ∷ es) e there =
    let here = left_nil (send_offer p r.0 r.1 (act_of p now r.1)) (send_offers p now es) e in
    let rest = right_nil (send_offer p r.0 r.1 (act_of p now r.1)) (send_offers p now es) e in
    elim (cases_Bool (same_flow r.0 f)) [
      | inl y ↦
          let found : Some r.1 ≡ Some x = rw y at there in
          let same : r.1 ≡ x = cc in
          subst (λ (z : SendRecord). act_of p now z ≡ None) same (idle_if p r.0 r.1 (act_of p now r.1) here)
      | inr n ↦ idle_in p now f x es rest (rw n at there)
    ]

-- where no act is due, none of a send record is
pub sender_idle : (p : Params) (now : ℕ) (host : Host) (f : Flow) (x : SendRecord) → next_turn p now host ≡ None → look same_flow f host.senders ≡ Some x → act_of p now x ≡ None
sender_idle p now host f x e there = idle_in p now f x host.senders (left_nil (send_offers p now host.senders) (recv_offers p now host.receivers) (no_offer p now host (offers p now host) e)) there

-- so it is when a station has settled before the world
pub settle_done : (w : World) (n : ℕ) (cause : Cause) → IsWithinLimits w.params → (st : Station Mark) (d : Noted) → Good w n cause st d → next_turn w.params (reading w n cause) (play (world_handler (stage w n cause)) (settle_station w.params (reading w n cause) st) d).1.host ≡ None
settle_done w n cause limits st d good =
    let now = reading w n cause in
    let done = answers_play (world_handler (stage w n cause)) (Settled w.params now limits) (settle_station w.params now st) d (settle_ends w.params now limits st good.host) in
    rw (done.1) refl
