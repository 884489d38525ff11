-- Each offer stands for a record of the host, and the act at now is one of them.
use Rattle.std.proofs.Common.{ℕ, ◌≡◌, List, [], ◌∷◌, Option, Some, None, refl, subst, inl, inr}
use Rattle.std.specs.List.{All}
use Rattle.std.proofs.lemmas.Bool.{cases_Bool}
use Rattle.std.proofs.lemmas.List.Elements.{All-nil, All-append, All-cons, All-head, All-tail, All-weaker}
use Rattle.dt_units.specs.declared.parameters.Params.{Params}
use Rattle.dt_units.specs.declared.endpoints.Flow.{Flow}
use Rattle.dt_flow_model.specs.declared.acts.RecvKind.{RecvKind}
use Rattle.dt_flow_model.specs.SendActs.{Act, act_of}
use Rattle.dt_flow_model.specs.SendRecord.{SendRecord}
use Rattle.dt_flow_model.specs.ReceiveRecord.{ReceiveRecord, Receiver, recv_due_of}
use Rattle.dt_world_model.specs.Tables.{same_flow, look, Distinct, Lacks}
use Rattle.dt_world_model.specs.Host.{Host, HostAct, send_act, recv_act, Offer, Turn, send_offer, recv_offer, send_offers, recv_offers, offers, goes_before, least, turn_of, next_turn, IsHost, no_receiver}
use Rattle.std.specs.Prelude.{fold, if◌then◌else◌, option_map, unwrap_or}
use Rattle.dt_world_model.proofs.Tables.{flow_self, flow_is}

-- an act of an entry
abbrev pub IsOfSender : Params → ℕ → List (Flow × SendRecord) → HostAct → Type 0
IsOfSender p now es (send_act f x act) = (look same_flow f es ≡ Some x) × (act_of p now x ≡ Some act)
IsOfSender p now es (recv_act f y kind) = ⊥

abbrev pub IsOfReceiver : Params → ℕ → List (Flow × Receiver) → HostAct → Type 0
IsOfReceiver p now es (send_act f x act) = ⊥
IsOfReceiver p now es (recv_act f y kind) = ((unwrap_or (look same_flow f es) no_receiver).standing ≡ Some y) × (moment : ℕ) × (recv_due_of p now (Some y) ≡ Some (kind, moment))

abbrev pub IsOf : Params → ℕ → Host → HostAct → Type 0
IsOf p now host (send_act f x act) = IsOfSender p now host.senders (send_act f x act)
IsOf p now host (recv_act f y kind) = IsOfReceiver p now host.receivers (recv_act f y kind)

-- keys of later entries are apart from the first one's, so they are found after it
found_behind : {A : Type 0} (f g : Flow) (a b : A) (es : List (Flow × A)) → Lacks same_flow f es → look same_flow g es ≡ Some b → look same_flow g ((f, a) ∷ es) ≡ Some b
found_behind f g a b es h e =
    elim (cases_Bool (same_flow f g)) [
      | inl y ↦ let at : f ≡ g = flow_is f g y in let l : Lacks same_flow g es = subst (λ k. Lacks same_flow k es) at h in let none = lacking g es l in absurd cc
      | inr n ↦ rw n e
    ]
  where
    lacking : {A : Type 0} (g : Flow) (es : List (Flow × A)) → Lacks same_flow g es → look same_flow g es ≡ None
    lacking g [] h = refl
    lacking g (e ∷ es) h = rw (h.0) (lacking g es h.1)

abbrev OfS : Params → ℕ → List (Flow × SendRecord) → Offer → Type 0
OfS p now es o = IsOfSender p now es o.act

abbrev OfR : Params → ℕ → List (Flow × Receiver) → Offer → Type 0
OfR p now es o = IsOfReceiver p now es o.act

abbrev pub OfH : Params → ℕ → Host → Offer → Type 0
OfH p now host o = IsOf p now host o.act

abbrev SendOffers : Params → ℕ → List (Flow × SendRecord) → List Offer → Type 0
SendOffers p now es os = All (OfS p now es) os

abbrev RecvOffers : Params → ℕ → List (Flow × Receiver) → List Offer → Type 0
RecvOffers p now es os = All (OfR p now es) os

one_send : (p : Params) (now : ℕ) (es : List (Flow × SendRecord)) (f : Flow) (x : SendRecord) (act : Option Act) → look same_flow f es ≡ Some x → act_of p now x ≡ act → SendOffers p now es (send_offer p f x act)
one_send p now es f x None there e = All-nil (OfS p now es)
one_send p now es f x (Some act) there e = All-cons (OfS p now es) _ [] (there, e) (All-nil (OfS p now es))

behind_send : (p : Params) (now : ℕ) (f : Flow) (x : SendRecord) (es : List (Flow × SendRecord)) → Lacks same_flow f es → (a : HostAct) → IsOfSender p now es a → IsOfSender p now ((f, x) ∷ es) a
behind_send p now f x es h (send_act g y act) k = (found_behind f g x y es h k.0, k.1)
behind_send p now f x es h (recv_act g y kind) k = k

pub send_offers_are : (p : Params) (now : ℕ) (es : List (Flow × SendRecord)) → Distinct same_flow es → SendOffers p now es (send_offers p now es)
send_offers_are p now [] h = All-nil (OfS p now [])
send_offers_are p now ((f, x) ∷ es) h =
    All-append (OfS p now ((f, x) ∷ es)) (send_offer p f x (act_of p now x)) (send_offers p now es)
    (one_send p now ((f, x) ∷ es) f x (act_of p now x) (rw (flow_self f) refl) refl)
    (All-weaker (OfS p now es) (OfS p now ((f, x) ∷ es)) (λ o k. behind_send p now f x es h.0 o.act k) (send_offers p now es) (send_offers_are p now es h.1))

one_recv : (p : Params) (now : ℕ) (es : List (Flow × Receiver)) (f : Flow) (standing : Option ReceiveRecord) (due : Option (RecvKind × ℕ)) → (unwrap_or (look same_flow f es) no_receiver).standing ≡ standing → recv_due_of p now standing ≡ due → RecvOffers p now es (recv_offer f standing due)
one_recv p now es f None due there e = All-nil (OfR p now es)
one_recv p now es f (Some y) None there e = All-nil (OfR p now es)
one_recv p now es f (Some y) (Some (kind, moment)) there e = All-cons (OfR p now es) _ [] (there, moment, e) (All-nil (OfR p now es))

-- a standing record is one of an entry
behind_recv_look : (f g : Flow) (r : Receiver) (es : List (Flow × Receiver)) (y : ReceiveRecord) → Lacks same_flow f es → (unwrap_or (look same_flow g es) no_receiver).standing ≡ Some y → (unwrap_or (look same_flow g ((f, r) ∷ es)) no_receiver).standing ≡ Some y
behind_recv_look f g r es y h e = by (look same_flow g es) refl e
  where
    by : (o : Option Receiver) → look same_flow g es ≡ o → (unwrap_or o no_receiver).standing ≡ Some y → (unwrap_or (look same_flow g ((f, r) ∷ es)) no_receiver).standing ≡ Some y
    by None is e = absurd cc
    by (Some s) is e = rw (found_behind f g r s es h is) e

behind_recv : (p : Params) (now : ℕ) (f : Flow) (r : Receiver) (es : List (Flow × Receiver)) → Lacks same_flow f es → (a : HostAct) → IsOfReceiver p now es a → IsOfReceiver p now ((f, r) ∷ es) a
behind_recv p now f r es h (send_act g y act) k = k
behind_recv p now f r es h (recv_act g y kind) k = (behind_recv_look f g r es y h k.0, k.1, k.2)

pub recv_offers_are : (p : Params) (now : ℕ) (es : List (Flow × Receiver)) → Distinct same_flow es → RecvOffers p now es (recv_offers p now es)
recv_offers_are p now [] h = All-nil (OfR p now [])
recv_offers_are p now ((f, r) ∷ es) h =
    All-append (OfR p now ((f, r) ∷ es)) (recv_offer f r.standing (recv_due_of p now r.standing)) (recv_offers p now es)
    (one_recv p now ((f, r) ∷ es) f r.standing (recv_due_of p now r.standing) (rw (flow_self f) refl) refl)
    (All-weaker (OfR p now es) (OfR p now ((f, r) ∷ es)) (λ o k. behind_recv p now f r es h.0 o.act k) (recv_offers p now es) (recv_offers_are p now es h.1))

by_sender : (p : Params) (now : ℕ) (host : Host) (a : HostAct) → IsOfSender p now host.senders a → IsOf p now host a
by_sender p now host (send_act f x act) h = h
by_sender p now host (recv_act f y kind) h = elim h [ ]

by_receiver : (p : Params) (now : ℕ) (host : Host) (a : HostAct) → IsOfReceiver p now host.receivers a → IsOf p now host a
by_receiver p now host (send_act f x act) h = elim h [ ]
by_receiver p now host (recv_act f y kind) h = h

-- each offer stands for a record, where each flow has one of a kind
pub offers_are_of : (p : Params) (now : ℕ) (host : Host) → Distinct same_flow host.senders → Distinct same_flow host.receivers → All (OfH p now host) (offers p now host)
offers_are_of p now host one_sender one_receiver =
    All-append (OfH p now host) (send_offers p now host.senders) (recv_offers p now host.receivers)
    (All-weaker (OfS p now host.senders) (OfH p now host) (λ o k. by_sender p now host o.act k) (send_offers p now host.senders) (send_offers_are p now host.senders one_sender))
    (All-weaker (OfR p now host.receivers) (OfH p now host) (λ o k. by_receiver p now host o.act k) (recv_offers p now host.receivers) (recv_offers_are p now host.receivers one_receiver))

abbrev least_from : Offer → List Offer → Offer
least_from o rest = fold (λ best other. if goes_before other best then other else best) o rest

abbrev pub turn_if : Params → ℕ → Host → Option Offer → Option Turn
turn_if p now host o = option_map (λ (k : Offer). turn_of p now host k.act) o

least_from_is : (P : Offer → Type 0) (o : Offer) (rest : List Offer) → P o → All P rest → P (least_from o rest)
least_from_is P o [] h all = h
least_from_is P o (other ∷ rest) h all =
    elim (cases_Bool (goes_before other o)) [
      | inl y ↦ rw y (least_from_is P other rest (All-head P other rest all) (All-tail P other rest all))
      | inr n ↦ rw n (least_from_is P o rest h (All-tail P other rest all))
    ]

-- what holds of all offers holds of the least, and only no offers have none
pub least_has : (P : Offer → Type 0) (os : List Offer) (o : Offer) → All P os → least os ≡ Some o → P o
least_has P [] o all e = absurd cc
least_has P (k ∷ rest) o all e =
    let same : least_from k rest ≡ o = cc in
    subst (λ (m : Offer). P m) same (least_from_is P k rest (All-head P k rest all) (All-tail P k rest all))

pub none_is_least : (os : List Offer) → least os ≡ None → os ≡ []
none_is_least [] e = refl
none_is_least (o ∷ rest) e = absurd cc

turn_is : (p : Params) (now : ℕ) (host : Host) (turn : Turn) → All (OfH p now host) (offers p now host) → (o : Option Offer) → least (offers p now host) ≡ o → turn_if p now host o ≡ Some turn → (a : HostAct) × IsOf p now host a × (turn_of p now host a ≡ turn)
turn_is p now host turn all None is e = absurd cc
turn_is p now host turn all (Some o) is e = (o.act, least_has (OfH p now host) (offers p now host) o all is, cc)

-- a host's turn is an act of one of its records
pub next_turn_is : (p : Params) (now : ℕ) (host : Host) (turn : Turn) → IsHost p host → next_turn p now host ≡ Some turn → (a : HostAct) × IsOf p now host a × (turn_of p now host a ≡ turn)
next_turn_is p now host turn h e = turn_is p now host turn (offers_are_of p now host h.one_sender h.one_receiver) (least (offers p now host)) refl e
