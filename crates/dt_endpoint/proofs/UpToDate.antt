-- A station with no act of its host due and no packet that may leave is up to date.
use Rattle.std.proofs.Common.{ℕ, ◌<◌, ◌≤◌, ◌≡◌, ◌⊎◌, List, [], ◌∷◌, ◌++◌, Option, Some, None, refl, ap, subst, inl, inr, arith}
use Rattle.std.specs.Prelude.{max, min, nat_lt}
use Rattle.std.specs.List.{All}
use Rattle.std.proofs.lemmas.Bool.{cases_Bool, cases_lt}
use Rattle.std.proofs.lemmas.Bool.Decides.{nat_tests}
use Rattle.std.proofs.lemmas.List.Elements.{All-head, All-tail}
use Rattle.dt_units.specs.declared.parameters.Params.{Params}
use Rattle.dt_units.specs.declared.endpoints.Flow.{Flow}
use Rattle.dt_units.specs.Moments.{earlier}
use Rattle.dt_flow_model.specs.declared.acts.RecvKind.{RecvKind}
use Rattle.dt_flow_model.specs.declared.acts.RecvKind.TheVariants as K
use Rattle.dt_flow_model.specs.declared.acts.SendKind.{SendKind}
use Rattle.dt_flow_model.specs.declared.acts.SendKind.TheVariants.{GiveUp, Meet, Release, Resend, Send}
use Rattle.dt_flow_model.specs.ReceiveRecord.{IsRecvDue, ReceiveRecord, Receiver, recv_due_of, recv_moment, recv_moments, recv_wake_of}
use Rattle.dt_flow_model.specs.SendActs.{Act, HoldsMissed, IsBefore, IsDue, act_of, send_moment, send_moments, wake_of}
use Rattle.dt_flow_model.specs.SendRecord.{SendRecord}
use Rattle.dt_flow_laws.proofs.Moments.{moment_is, moment_passed, recv_moment_is}
use Rattle.dt_flow_laws.proofs.Waking.{due_is_chosen, recv_some_due}
use Rattle.dt_world_model.specs.Tables.{earliest}
use Rattle.dt_world_model.specs.Host.{IsCurrentHost, Offer, host_wake, next_turn, recv_offer, recv_offers, send_offer, send_offers}
use Rattle.dt_world_model.specs.Relay.{Out, relay_wake, out_wake}
use Rattle.dt_world_model.specs.Station.{Station}
use Rattle.dt_world_laws.specs.Waking.{due_of}
use Rattle.dt_world_laws.proofs.Wakes.{relay_wake_first}
use Rattle.dt_endpoint.specs.Waking.{IsUpToDate}
use Rattle.dt_endpoint.proofs.Flushed.{IsStill, StationStill}

earlier_is : (a b : Option ℕ) (m : ℕ) → earlier a b ≡ Some m → (a ≡ Some m) ⊎ (b ≡ Some m)
earlier_is None b m e = inr e
earlier_is (Some k) None m e = inl e
earlier_is (Some k) (Some l) m e =
    let same : min k l ≡ m = cc in
    elim (cases_Bool (nat_lt k l)) [
      | inl y ↦ inl (ap (λ (n : ℕ). Some n) (let lt : k < l = grind (arith, nat_tests) in omega (arith, same, lt)))
      | inr o ↦ inr (ap (λ (n : ℕ). Some n) (let le : l ≤ k = grind (arith, nat_tests) in omega (arith, same, le)))
    ]

-- SENDERS
kind_of_wake : (p : Params) (x : SendRecord) (m : ℕ) → wake_of p x ≡ Some m → (kind : SendKind) × (send_moment (send_moments p 0 x) kind ≡ Some m)
kind_of_wake p x m e =
    let all = send_moments p 0 x in
    elim (earlier_is all.give_up (earlier all.release (earlier all.resend (earlier all.send all.meet))) m e) [
      | inl a ↦ (GiveUp, a)
      | inr b ↦ elim (earlier_is all.release (earlier all.resend (earlier all.send all.meet)) m b) [
        | inl a ↦ (Release, a)
        | inr c ↦ elim (earlier_is all.resend (earlier all.send all.meet) m c) [
          | inl a ↦ (Resend, a)
          | inr d ↦ elim (earlier_is all.send all.meet m d) [ inl a ↦ (Send, a) | inr a ↦ (Meet, a) ]
        ]
      ]
    ]

idle_sender : (p : Params) (now m : ℕ) (x : SendRecord) → act_of p now x ≡ None → wake_of p x ≡ Some m → (now < m) ⊎ HoldsMissed p now m x.outstanding
idle_sender p now m x idle e =
    elim (cases_lt now m) [
      | inl lt ↦ inl lt
      | inr ge ↦
          let at = kind_of_wake p x m e in
          elim (moment_passed p 0 now x at.0 m (omega arith) at.1) [
            | inl now_too ↦
                let due = (moment_is p now x at.0).from m now_too in
                let same : max now m ≡ now = omega (arith, ge) in
                let act : IsDue p now x due.0 = subst (λ (t : ℕ). IsDue p t x due.0) same due.2 in
                let chosen = due_is_chosen p now x due.0 act in
                absurd (no_act (act_of p now x) chosen.0 idle chosen.1)
            | inr missed ↦ inr missed
          ]
    ]
  where
    no_act : (o : Option Act) (act : Act) → o ≡ None → o ≡ Some act → ⊥
    no_act None act e k = cc
    no_act (Some a) act e k = cc

nothing_in : (xs ys : List Offer) → xs ++ ys ≡ [] → (xs ≡ []) × (ys ≡ [])
nothing_in [] ys e = (refl, e)
nothing_in (x ∷ xs) ys e = absurd cc

no_offer : (p : Params) (f : Flow) (x : SendRecord) (o : Option Act) → send_offer p f x o ≡ [] → o ≡ None
no_offer p f x None e = refl
no_offer p f x (Some act) e = absurd cc

record MissedIn (p : Params) (now moment : ℕ) (es : List (Flow × SendRecord)) : Type 0 where
  before : List (Flow × SendRecord)
  flow : Flow
  sender : SendRecord
  after : List (Flow × SendRecord)
  split : es ≡ before ++ (flow, sender) ∷ after
  missed : HoldsMissed p now moment sender.outstanding

idle_senders : (p : Params) (now m : ℕ) (es : List (Flow × SendRecord)) → send_offers p now es ≡ [] → earliest (λ (e : Flow × SendRecord). wake_of p e.1) es ≡ Some m → (now < m) ⊎ MissedIn p now m es
idle_senders p now m [] none e = absurd cc
idle_senders p now m ((f, x) ∷ es) none e =
    let parts = nothing_in (send_offer p f x (act_of p now x)) (send_offers p now es) none in
    elim (earlier_is (wake_of p x) (earliest (λ (e : Flow × SendRecord). wake_of p e.1) es) m e) [
      | inl here ↦ elim (idle_sender p now m x (no_offer p f x (act_of p now x) parts.0) here) [
        | inl lt ↦ inl lt
        | inr missed ↦ inr (record { before = []; flow = f; sender = x; after = es; split = refl; missed = missed })
      ]
      | inr there ↦ elim (idle_senders p now m es parts.1 there) [
        | inl lt ↦ inl lt
        | inr h ↦ inr (record { before = (f, x) ∷ h.before; flow = h.flow; sender = h.sender; after = h.after; split = ap (λ (es : List (Flow × SendRecord)). (f, x) ∷ es) h.split; missed = h.missed })
      ]
    ]

-- RECEIVERS
kind_of_recv_wake : (p : Params) (standing : Option ReceiveRecord) (m : ℕ) → recv_wake_of p standing ≡ Some m → (kind : RecvKind) × (recv_moment (recv_moments p standing) kind ≡ Some m)
kind_of_recv_wake p standing m e =
    let all = recv_moments p standing in
    elim (earlier_is all.release all.ack m e) [ inl a ↦ (K.Release, a) | inr a ↦ (K.Ack, a) ]

idle_receiver : (p : Params) (now m : ℕ) (f : Flow) (standing : Option ReceiveRecord) → recv_offer f standing (recv_due_of p now standing) ≡ [] → recv_wake_of p standing ≡ Some m → now < m
idle_receiver p now m f None none e = absurd cc
idle_receiver p now m f (Some y) none e =
    elim (cases_lt now m) [
      | inl lt ↦ lt
      | inr ge ↦
          let at = kind_of_recv_wake p (Some y) m e in
          let same : max now m ≡ now = omega (arith, ge) in
          let due : IsRecvDue p (Some y) at.0 now = subst (λ (t : ℕ). IsRecvDue p (Some y) at.0 t) same ((recv_moment_is p now (Some y) at.0).from m at.1) in
          let some = recv_some_due p now (Some y) at.0 due in
          absurd (offered (recv_due_of p now (Some y)) some.0 none some.1)
    ]
  where
    offered : (o : Option (RecvKind × ℕ)) (a : RecvKind × ℕ) → recv_offer f (Some y) o ≡ [] → o ≡ Some a → ⊥
    offered None a e k = cc
    offered (Some b) a e k = cc

idle_receivers : (p : Params) (now m : ℕ) (es : List (Flow × Receiver)) → recv_offers p now es ≡ [] → earliest (λ (e : Flow × Receiver). recv_wake_of p e.1.standing) es ≡ Some m → now < m
idle_receivers p now m [] none e = absurd cc
idle_receivers p now m ((f, r) ∷ es) none e =
    let parts = nothing_in (recv_offer f r.standing (recv_due_of p now r.standing)) (recv_offers p now es) none in
    elim (earlier_is (recv_wake_of p r.standing) (earliest (λ (e : Flow × Receiver). recv_wake_of p e.1.standing) es) m e) [
      | inl here ↦ idle_receiver p now m f r.standing parts.0 here
      | inr there ↦ idle_receivers p now m es parts.1 there
    ]

-- LINKS
still_wake : (now m : ℕ) (outs : List (Out (Unit {0}))) → All (IsStill now) outs → relay_wake outs ≡ Some m → now < m
still_wake now m [] h e = absurd cc
still_wake now m (out ∷ outs) h e =
    elim (earlier_is (out_wake out out.waits) (relay_wake outs) m e) [
      | inl here ↦ at (out_wake out out.waits) here (All-head (IsStill now) out outs h)
      | inr there ↦ still_wake now m outs (All-tail (IsStill now) out outs h) there
    ]
  where
    at : (o : Option ℕ) → o ≡ Some m → IsBefore now o → now < m
    at None e b = absurd cc
    at (Some k) e b = let same : k ≡ m = cc in omega (arith, b, same)

before_wake : (now : ℕ) (outs : List (Out (Unit {0}))) (o : Option ℕ) → All (IsStill now) outs → relay_wake outs ≡ o → IsBefore now (relay_wake outs)
before_wake now outs None h e = rw e tt
before_wake now outs (Some m) h e = rw e (still_wake now m outs h e)

-- THE STATION
pub up_to_date : (p : Params) (now : ℕ) (st : Station (Unit {0})) → IsCurrentHost p now st.host → StationStill now st → IsUpToDate p now st
up_to_date p now st current still =
    let parts = nothing_in (send_offers p now st.host.senders) (recv_offers p now st.host.receivers) current in
    record {
      nothing_due =
          let no_turn : next_turn p now st.host ≡ None = rw current refl in
          rw no_turn (ap (λ o. due_of None o) ((relay_wake_first st.relay.outs).nothing_before now (before_wake now st.relay.outs (relay_wake st.relay.outs) still.0 refl)));
      later = λ m e. elim (earlier_is (host_wake p st.host) (relay_wake st.relay.outs) m e) [
        | inl host ↦ elim (earlier_is (earliest (λ (e : Flow × SendRecord). wake_of p e.1) st.host.senders) (earliest (λ (e : Flow × Receiver). recv_wake_of p e.1.standing) st.host.receivers) m host) [
          | inl sender ↦ elim (idle_senders p now m st.host.senders parts.0 sender) [
            | inl lt ↦ inl lt
            | inr h ↦ inr (record { before = h.before; flow = h.flow; sender = h.sender; after = h.after; split = h.split; missed = h.missed })
          ]
          | inr receiver ↦ inl (idle_receivers p now m st.host.receivers parts.1 receiver)
        ]
        | inr relay ↦ inl (still_wake now m st.relay.outs still.0 relay)
      ];
    }
