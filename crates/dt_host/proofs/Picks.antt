-- The walks over both tables find the act that the agendas tell.
use Rattle.std.proofs.Common.{ℕ, zero, suc, ◌≡◌, ◌<◌, Bool, true, false, List, [], ◌∷◌, Option, Some, None, refl, sym, ap, subst, ◌∙◌, arith}
use Rattle.std.specs.Prelude.{if◌then◌else◌, slice_get}
use Rattle.dt_units.specs.declared.endpoints.Flow.{Flow}
use Rattle.dt_flow_model.specs.declared.acts.SendKind.{SendKind}
use Rattle.dt_flow_model.specs.declared.acts.RecvKind.{RecvKind}
use Rattle.dt_flow_model.specs.SendActs.{due_of}
use Rattle.dt_flow_model.specs.ReceiveRecord.{recv_due_of}
use Rattle.dt_send.specs.Senders.{SenderValue}
use Rattle.dt_recv.specs.Receivers.{ReceiverValue}
use Rattle.dt_host.specs.declared.dues.DueAct.{DueAct}
use Rattle.dt_host.specs.Dues.{goes_first, or_recv, or_send, sooner_of, soonest_recv, soonest_send}
use Rattle.dt_table.proofs.Somes.{none_some, same_some}

-- ONE ACT against another
abbrev pub Beaten : DueAct → Option DueAct → Type 0
Beaten d None = Unit {0}
Beaten d (Some b) = goes_first d b ≡ true

abbrev pub Stays : DueAct → Option DueAct → Type 0
Stays d None = Unit {0}
Stays d (Some b) = goes_first b d ≡ false

-- the best so far, and one that follows
abbrev or_act : Option DueAct → Option DueAct → Option DueAct
or_act None best = best
or_act (Some act) best = Some (sooner_of best act)

beaten_or : (d : DueAct) (act best : Option DueAct) → Beaten d act → Beaten d best → Beaten d (or_act act best)
beaten_or d None best h k = k
beaten_or d (Some a) None h k = h
beaten_or d (Some a) (Some b) h k = by (goes_first a b)
  where
    by : (t : Bool) → goes_first d (if t then a else b) ≡ true
    by true = h
    by false = k

picks_or : (d : DueAct) (best : Option DueAct) → Beaten d best → or_act (Some d) best ≡ Some d
picks_or d None h = refl
picks_or d (Some b) h = ap (λ (t : Bool). Some (if t then d else b)) h

stays_or : (d : DueAct) (act : Option DueAct) → Stays d act → or_act act (Some d) ≡ Some d
stays_or d None h = refl
stays_or d (Some a) h = ap (λ (t : Bool). Some (if t then a else d)) h

-- THE WALK over entries that each offer an act or none
module _ {A : Type 0} (own : Flow × A → Option DueAct) (walk : Option DueAct → List (Flow × A) → Option DueAct)
    (at_end : (best : Option DueAct) → walk best [] ≡ best) (step : (best : Option DueAct) (e : Flow × A) (es : List (Flow × A)) → walk best (e ∷ es) ≡ walk (or_act (own e) best) es) where
  pub walks_none : (es : List (Flow × A)) (best : Option DueAct) → ((i : ℕ) (e : Flow × A) → slice_get es i ≡ Some e → own e ≡ None) → walk best es ≡ best
  walks_none [] best h = at_end best
  walks_none (e ∷ es) best h = step best e es ∙ ap (λ (o : Option DueAct). walk (or_act o best) es) (h 0 e refl) ∙ walks_none es best (λ i d at. h (suc i) d at)

  module _ (d : DueAct) where
    pub walks_beaten : (es : List (Flow × A)) (best : Option DueAct) → Beaten d best → ((i : ℕ) (e : Flow × A) → slice_get es i ≡ Some e → Beaten d (own e)) → Beaten d (walk best es)
    walks_beaten [] best b h = subst (Beaten d) (sym (at_end best)) b
    walks_beaten (e ∷ es) best b h = subst (Beaten d) (sym (step best e es)) (walks_beaten es (or_act (own e) best) (beaten_or d (own e) best (h 0 e refl) b) (λ i c at. h (suc i) c at))

    pub walks_on : (es : List (Flow × A)) → ((i : ℕ) (e : Flow × A) → slice_get es i ≡ Some e → Stays d (own e)) → walk (Some d) es ≡ Some d
    walks_on [] h = at_end (Some d)
    walks_on (e ∷ es) h = step (Some d) e es ∙ ap (λ (o : Option DueAct). walk o es) (stays_or d (own e) (h 0 e refl)) ∙ walks_on es (λ i c at. h (suc i) c at)

    pub walks_to : (es : List (Flow × A)) (index : ℕ) (best : Option DueAct) (o : Flow × A) → Beaten d best → slice_get es index ≡ Some o → own o ≡ Some d
        → ((i : ℕ) (e : Flow × A) → i < index → slice_get es i ≡ Some e → Beaten d (own e)) → ((i : ℕ) (e : Flow × A) → slice_get es i ≡ Some e → Stays d (own e)) → walk best es ≡ Some d
    walks_to [] index best o b at is before rest = absurd (none_some o at)
    walks_to (e ∷ es) zero best o b at is before rest =
        step best e es
        ∙ ap (λ (c : Flow × A). walk (or_act (own c) best) es) (same_some e o at)
        ∙ ap (λ (a : Option DueAct). walk (or_act a best) es) is
        ∙ ap (λ (a : Option DueAct). walk a es) (picks_or d best b)
        ∙ walks_on es (λ i c at. rest (suc i) c at)
    walks_to (e ∷ es) (suc index) best o b at is before rest =
        step best e es ∙ walks_to es index (or_act (own e) best) o (beaten_or d (own e) best (before 0 e (omega arith) refl) b) at is (λ i c less at. before (suc i) c (omega arith) at) (λ i c at. rest (suc i) c at)

-- A SENDER'S OFFER
abbrev pub sender_own : ℕ → Flow × SenderValue → Option DueAct
sender_own now e = or_send e.0 (due_of e.1.rules now e.1.state) None

abbrev pub receiver_own : ℕ → Flow × ReceiverValue → Option DueAct
receiver_own now e = or_recv e.0 (recv_due_of e.1.rules now e.1.state.standing) None

pub send_end : (now : ℕ) (best : Option DueAct) → soonest_send now best [] ≡ best
send_end now None = refl
send_end now (Some b) = refl

pub recv_end : (now : ℕ) (best : Option DueAct) → soonest_recv now best [] ≡ best
recv_end now None = refl
recv_end now (Some b) = refl

pub send_step : (now : ℕ) (best : Option DueAct) (e : Flow × SenderValue) (es : List (Flow × SenderValue)) → soonest_send now best (e ∷ es) ≡ soonest_send now (or_act (sender_own now e) best) es
send_step now best e es = ap (λ (o : Option DueAct). soonest_send now o es) (by (due_of e.1.rules now e.1.state) best)
  where
    by : (o : Option (SendKind × ℕ)) (best : Option DueAct) → or_send e.0 o best ≡ or_act (or_send e.0 o None) best
    by None best = refl
    by (Some (kind, moment)) best = refl

pub recv_step : (now : ℕ) (best : Option DueAct) (e : Flow × ReceiverValue) (es : List (Flow × ReceiverValue)) → soonest_recv now best (e ∷ es) ≡ soonest_recv now (or_act (receiver_own now e) best) es
recv_step now best e es = ap (λ (o : Option DueAct). soonest_recv now o es) (by (recv_due_of e.1.rules now e.1.state.standing) best)
  where
    by : (o : Option (RecvKind × ℕ)) (best : Option DueAct) → or_recv e.0 o best ≡ or_act (or_recv e.0 o None) best
    by None best = refl
    by (Some (kind, moment)) best = refl
