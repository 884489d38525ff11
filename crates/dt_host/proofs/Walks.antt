-- The walk over a host's tables finds the act that the model does next.
use Rattle.std.proofs.Common.{ℕ, ◌≡◌, Bool, true, false, List, [], ◌∷◌, ◌++◌, Option, Some, None, refl, sym, ap, ◌∙◌}
use Rattle.std.specs.Prelude.{fold, if◌then◌else◌, option_map}
use Rattle.dt_units.specs.declared.parameters.Params.{Params}
use Rattle.dt_units.specs.declared.endpoints.Flow.{Flow}
use Rattle.dt_flow_model.specs.declared.acts.RecvKind.{RecvKind}
use Rattle.dt_flow_model.specs.SendActs.{Act, act_of, due_of, kind_and_moment, kind_of}
use Rattle.dt_flow_model.specs.SendRecord.{SendRecord}
use Rattle.dt_flow_model.specs.ReceiveRecord.{ReceiveRecord, Receiver, recv_due_of}
use Rattle.dt_send.specs.Senders.{SenderValue}
use Rattle.dt_recv.specs.Receivers.{ReceiverValue}
use Rattle.dt_world_model.specs.Host.{Host, HostAct, send_act, recv_act, Offer, send_offer, recv_offer, send_offers, recv_offers, offers, goes_before, least}
use Rattle.dt_host.specs.declared.dues.DueAct.{DueAct}
use Rattle.dt_host.specs.declared.dues.DueKind.{DueKind}
use Rattle.dt_host.specs.declared.dues.DueKind.TheVariants as due
use Rattle.dt_host.specs.Dues.{class_of, goes_first, or_recv, or_send, sooner_of, soonest_recv, soonest_send}
use Rattle.dt_host.specs.Hosts.{AreReceiveEntries, AreSendEntries, receivers_of, send_records}

-- an offer of the model as the walk has it
abbrev pub kind_in : HostAct → DueKind
kind_in (send_act f x act) = due.Send (kind_of act)
kind_in (recv_act f y kind) = due.Recv kind

abbrev pub flow_in_act : HostAct → Flow
flow_in_act (send_act f x act) = f
flow_in_act (recv_act f y kind) = f

abbrev pub brief : Offer → DueAct
brief o = record { kind = kind_in o.act; moment = o.moment; flow = flow_in_act o.act }

-- its class is that of its kind
abbrev pub IsRanked : Offer → Type 0
IsRanked o = o.class ≡ class_of (kind_in o.act)

abbrev pub AllRanked : List Offer → Type 0
AllRanked [] = Unit {0}
AllRanked (o ∷ os) = IsRanked o × AllRanked os

ranked_append : (os ps : List Offer) → AllRanked os → AllRanked ps → AllRanked (os ++ ps)
ranked_append [] ps h k = k
ranked_append (o ∷ os) ps h k = (h.0, ranked_append os ps h.1 k)

-- the best of an offer and those that follow
abbrev pub best_from : Offer → List Offer → Offer
best_from o [] = o
best_from o (other ∷ os) = best_from (if goes_before other o then other else o) os

abbrev pub best_of : Option Offer → List Offer → Option Offer
best_of None [] = None
best_of None (o ∷ os) = Some (best_from o os)
best_of (Some best) os = Some (best_from best os)

fold_is : (o : Offer) (os : List Offer) → fold (λ best other. if goes_before other best then other else best) o os ≡ best_from o os
fold_is o [] = refl
fold_is o (other ∷ os) = fold_is (if goes_before other o then other else o) os

least_is : (os : List Offer) → least os ≡ best_of None os
least_is [] = refl
least_is (o ∷ os) = ap (λ (b : Offer). Some b) (fold_is o os)

-- the walk over briefs
abbrev pub brief_from : DueAct → List Offer → DueAct
brief_from b [] = b
brief_from b (o ∷ os) = brief_from (sooner_of (Some b) (brief o)) os

abbrev pub brief_of : Option DueAct → List Offer → Option DueAct
brief_of None [] = None
brief_of None (o ∷ os) = Some (brief_from (brief o) os)
brief_of (Some b) os = Some (brief_from b os)

same_choice : (o b : Offer) → IsRanked o → IsRanked b → goes_first (brief o) (brief b) ≡ goes_before o b
same_choice o b h k = rw (h, k) refl

brief_step : (o b : Offer) → IsRanked o → IsRanked b → sooner_of (Some (brief b)) (brief o) ≡ brief (if goes_before o b then o else b)
brief_step o b h k =
    ap (λ (t : Bool). if t then brief o else brief b) (same_choice o b h k) ∙ by (goes_before o b)
  where
    by : (t : Bool) → (if t then brief o else brief b) ≡ brief (if t then o else b)
    by true = refl
    by false = refl

ranked_step : (o b : Offer) → IsRanked o → IsRanked b → IsRanked (if goes_before o b then o else b)
ranked_step o b h k = by (goes_before o b)
  where
    by : (t : Bool) → IsRanked (if t then o else b)
    by true = h
    by false = k

brief_from_is : (b : Offer) (os : List Offer) → IsRanked b → AllRanked os → brief_from (brief b) os ≡ brief (best_from b os)
brief_from_is b [] h all = refl
brief_from_is b (o ∷ os) h all =
    ap (λ (d : DueAct). brief_from d os) (brief_step o b all.0 h) ∙ brief_from_is (if goes_before o b then o else b) os (ranked_step o b all.0 h) all.1

brief_of_is : (os : List Offer) → AllRanked os → brief_of None os ≡ option_map brief (best_of None os)
brief_of_is [] all = refl
brief_of_is (o ∷ os) all = ap (λ (d : DueAct). Some d) (brief_from_is o os all.0 all.1)

from_append : (b : DueAct) (os ps : List Offer) → brief_from b (os ++ ps) ≡ brief_from (brief_from b os) ps
from_append b [] ps = refl
from_append b (o ∷ os) ps = from_append (sooner_of (Some b) (brief o)) os ps

of_append : (best : Option DueAct) (os ps : List Offer) → brief_of best (os ++ ps) ≡ brief_of (brief_of best os) ps
of_append None [] ps = refl
of_append None (o ∷ os) ps = ap (λ (d : DueAct). Some d) (from_append (brief o) os ps)
of_append (Some b) os ps = ap (λ (d : DueAct). Some d) (from_append b os ps)

-- ONE RECORD'S OFFER
send_one : (p : Params) (f : Flow) (x : SendRecord) (act : Option Act) (best : Option DueAct) → or_send f (kind_and_moment p x act) best ≡ brief_of best (send_offer p f x act)
send_one p f x None None = refl
send_one p f x None (Some b) = refl
send_one p f x (Some act) None = refl
send_one p f x (Some act) (Some b) = refl

recv_one : (p : Params) (now : ℕ) (f : Flow) (standing : Option ReceiveRecord) (best : Option DueAct) → or_recv f (recv_due_of p now standing) best ≡ brief_of best (recv_offer f standing (recv_due_of p now standing))
recv_one p now f None None = refl
recv_one p now f None (Some b) = refl
recv_one p now f (Some y) best = by (recv_due_of p now (Some y)) best
  where
    by : (d : Option (RecvKind × ℕ)) (best : Option DueAct) → or_recv f d best ≡ brief_of best (recv_offer f (Some y) d)
    by None None = refl
    by None (Some b) = refl
    by (Some (kind, moment)) None = refl
    by (Some (kind, moment)) (Some b) = refl

-- THE WALKS
pub send_walk : (p : Params) (now : ℕ) (best : Option DueAct) (es : List (Flow × SenderValue)) → AreSendEntries p es → soonest_send now best es ≡ brief_of best (send_offers p now (send_records es))
send_walk p now None [] all = refl
send_walk p now (Some b) [] all = refl
send_walk p now best (e ∷ es) all =
    let rules : due_of e.1.rules now e.1.state ≡ due_of p now e.1.state = ap (λ (q : Params). due_of q now e.1.state) all.0.rules in
    let here = send_one p e.0 e.1.state (act_of p now e.1.state) best in
    ap (λ (d : Option DueAct). soonest_send now d es) (ap (λ d. or_send e.0 d best) rules ∙ here)
    ∙ send_walk p now (brief_of best (send_offer p e.0 e.1.state (act_of p now e.1.state))) es all.1
    ∙ sym (of_append best (send_offer p e.0 e.1.state (act_of p now e.1.state)) (send_offers p now (send_records es)))

pub recv_walk : (p : Params) (now : ℕ) (best : Option DueAct) (es : List (Flow × ReceiverValue)) → AreReceiveEntries p es → soonest_recv now best es ≡ brief_of best (recv_offers p now (receivers_of es))
recv_walk p now None [] all = refl
recv_walk p now (Some b) [] all = refl
recv_walk p now best (e ∷ es) all =
    let y = e.1.state.standing in
    let rules : recv_due_of e.1.rules now y ≡ recv_due_of p now y = ap (λ (q : Params). recv_due_of q now y) all.0.rules in
    let here = recv_one p now e.0 y best in
    ap (λ (d : Option DueAct). soonest_recv now d es) (ap (λ d. or_recv e.0 d best) rules ∙ here)
    ∙ recv_walk p now (brief_of best (recv_offer e.0 y (recv_due_of p now y))) es all.1
    ∙ sym (of_append best (recv_offer e.0 y (recv_due_of p now y)) (recv_offers p now (receivers_of es)))

-- THE CLASSES
send_ranked : (p : Params) (now : ℕ) (es : List (Flow × SendRecord)) → AllRanked (send_offers p now es)
send_ranked p now [] = tt
send_ranked p now (e ∷ es) = ranked_append (send_offer p e.0 e.1 (act_of p now e.1)) (send_offers p now es) (one (act_of p now e.1)) (send_ranked p now es)
  where
    one : (act : Option Act) → AllRanked (send_offer p e.0 e.1 act)
    one None = tt
    one (Some act) = (refl, tt)

recv_ranked : (p : Params) (now : ℕ) (es : List (Flow × Receiver)) → AllRanked (recv_offers p now es)
recv_ranked p now [] = tt
recv_ranked p now (e ∷ es) = ranked_append (recv_offer e.0 e.1.standing (recv_due_of p now e.1.standing)) (recv_offers p now es) (one e.1.standing (recv_due_of p now e.1.standing)) (recv_ranked p now es)
  where
    one : (standing : Option ReceiveRecord) (d : Option (RecvKind × ℕ)) → AllRanked (recv_offer e.0 standing d)
    one None d = tt
    one (Some y) None = tt
    one (Some y) (Some (kind, moment)) = (refl, tt)

-- what both walks find
pub walk_is : (p : Params) (now : ℕ) (host : Host) (ss : List (Flow × SenderValue)) (rs : List (Flow × ReceiverValue)) → AreSendEntries p ss → AreReceiveEntries p rs
    → host.senders ≡ send_records ss → host.receivers ≡ receivers_of rs
    → soonest_recv now (soonest_send now None ss) rs ≡ option_map brief (least (offers p now host))
walk_is p now host ss rs hs hr es er =
    let os = send_offers p now (send_records ss) in
    let ps = recv_offers p now (receivers_of rs) in
    let all = ranked_append os ps (send_ranked p now (send_records ss)) (recv_ranked p now (receivers_of rs)) in
    let there : offers p now host ≡ os ++ ps = rw (es, er) refl in
    recv_walk p now (soonest_send now None ss) rs hr
    ∙ ap (λ (d : Option DueAct). brief_of d ps) (send_walk p now None ss hs)
    ∙ sym (of_append None os ps)
    ∙ brief_of_is (os ++ ps) all
    ∙ ap (λ (o : Option Offer). option_map brief o) (sym (least_is (os ++ ps)) ∙ ap least (sym there))
