-- After a station has settled no packet may leave it, whatever tags were answered.
use Rattle.std.proofs.Common.{ℕ, zero, suc, ◌≤◌, ◌≡◌, ◌==◌, Bool, true, false, if◌then◌else◌, List, [], ◌∷◌, ◌++◌, length, map, MatchBool, Option, Some, None, refl, sym, ap, subst, inl, inr, ◌⊎◌, ◌∙◌, arith}
use Rattle.std.specs.Prelude.{nat_lt}
use Rattle.std.proofs.lemmas.Bool.{eqb-true}
use Rattle.dt_units.specs.declared.parameters.Params.{Params}
use Rattle.dt_world_model.specs.declared.links.Entered.{Entered}
use Rattle.dt_world_model.specs.declared.links.Entered.TheVariants.{Queued, NoRoute, Full}
use Rattle.dt_world_model.specs.Host.{Host, Turn, next_turn, work}
use Rattle.dt_world_model.specs.Relay.{Expired, Goes, Left, Out, Parcel, Relay, Waiting, enter_by, last_out, leave, leave_first, left_of, may_leave_from, most_on_link, on_link, push, route_to, with_outs, with_waits}
use Rattle.dt_world_model.specs.Script.{Script, Done, Tell, Ask, Hand, ◌>>=◌, Answers}
use Rattle.dt_world_model.specs.Station.{Event, Station, do_turns, flush, flush_at, flush_entered, flush_links, flush_on, flush_turns, go_on, happen, pass_on, send_off, settle_station, station_event, station_with}
use Rattle.dt_layout.specs.Carried.{to_of}
use Rattle.dt_world_laws.proofs.Plays.{do_turn, link_of}
use Rattle.dt_world_laws.proofs.Settles.{answers_then, any_answer}
use Rattle.dt_calls_model.specs.Rests.{LinkRests, LinksRest}
use Rattle.dt_calls_laws.proofs.Resting.{paced_by}

here_rests : (b : Bool) (P Q R : Type 0) → Q → MatchBool b P R → MatchBool b Q R
here_rests true P Q R q h = q
here_rests false P Q R q h = h

there_rests : (b : Bool) (P Q R : Type 0) → (Q → R) → MatchBool b P Q → MatchBool b P R
there_rests true P Q R on h = h
there_rests false P Q R on h = on h

abbrev IsIn : ℕ → List ℕ → Type 0
IsIn k [] = ⊥
IsIn k (link ∷ links) = (link ≡ k) ⊎ IsIn k links

either : {A B C : Type 0} → A ⊎ B → (A → C) → (B → C) → C
either (inl a) f g = f a
either (inr b) f g = g b

module _ {T : Type 0} where
  answers_as : {A : Type 0} (P Q : A → Type 0) (s : Script T A) → ((a : A) → P a → Q a) → Answers P s → Answers Q s
  answers_as P Q (Done a) on h = on a h
  answers_as P Q (Tell r s) on h = answers_as P Q s on h
  answers_as P Q (Ask host octets s) on h = λ t. answers_as P Q (s t) on (h t)
  answers_as P Q (Hand link parcel s) on h = answers_as P Q s on h

  module _ (now : ℕ) where
    -- ONE LINK is flushed until nothing leaves it.
    abbrev IsFlushed : ℕ → Out T → Type 0
    IsFlushed link after = ((leave now after).0 ≡ None) × (after.link ≡ link)

    left_on : (link : ℕ) (again : Out T → Script T (Out T)) (left : Left T) (out : Out T) → Answers (IsFlushed link) (again out) → Answers (IsFlushed link) (flush_on again (Some left, out))
    left_on link again Expired out h = h
    left_on link again (Goes parcel) out h = h

    paced_on : (early : Bool) (again : Out T → Script T (Out T)) (left : Left T) (out later : Out T) → nat_lt now (may_leave_from out.pace out.last) ≡ early → (early ≡ true → (leave now out).0 ≡ None) → Answers (IsFlushed out.link) (again later)
        → Answers (IsFlushed out.link) (flush_on again (paced_by early left out later))
    paced_on true again left out later e quiet h = (quiet refl, refl)
    paced_on false again left out later e quiet h = left_on out.link again left later h

    turn_flushed : (most : ℕ) (out : Out T) (ws : List (Waiting T)) → out.waits ≡ ws → length ws ≤ suc most → ((other : Out T) → length other.waits ≤ most → Answers (IsFlushed other.link) (flush_turns most now other))
        → Answers (IsFlushed out.link) (flush_on (flush_turns most now) (leave_first now out ws))
    turn_flushed most out [] e few again = (ap (λ (ws : List (Waiting T)). (leave_first now out ws).0) e, refl)
    turn_flushed most out (w ∷ ws) e few again =
        let later = with_waits out ws (last_out now out.last (left_of now w)) in
        paced_on (nat_lt now (may_leave_from out.pace out.last)) (flush_turns most now) (left_of now w) out later refl
        (λ early. ap (λ (ws : List (Waiting T)). (leave_first now out ws).0) e ∙ ap (λ (b : Bool). (paced_by b (left_of now w) out later).0) early)
        (again later (omega arith))

    none_left : (out : Out T) (ws : List (Waiting T)) → length ws ≤ zero → (leave_first now out ws).0 ≡ None
    none_left out [] few = refl
    none_left out (w ∷ ws) few = absurd (omega arith)

    turns_flushed : (most : ℕ) (out : Out T) → length out.waits ≤ most → Answers (IsFlushed out.link) (flush_turns most now out)
    turns_flushed zero out few = (none_left out out.waits few, refl)
    turns_flushed (suc most) out few = turn_flushed most out out.waits refl few (turns_flushed most)

    -- THE LINKS: the flushed one rests, and those that rested do.
    abbrev HasFlushed : ℕ → List (Out T) → List (Out T) → Type 0
    HasFlushed link outs after = LinkRests now link after × ((other : ℕ) → LinkRests now other outs → LinkRests now other after)

    at_flushed_case : (here : Bool) (link : ℕ) (out : Out T) (outs : List (Out T)) → (out.link == link) ≡ here → Answers (HasFlushed link outs) (flush_at link now outs)
        → Answers (HasFlushed link (out ∷ outs)) (if here then (flush now out >>= λ after. Done (after ∷ outs)) else (flush_at link now outs >>= λ rest. Done (out ∷ rest)))
    at_flushed_case true link out outs e again =
        answers_then (IsFlushed out.link) (HasFlushed link (out ∷ outs)) (flush now out) (λ after. Done (after ∷ outs)) (turns_flushed (length out.waits) out (omega arith)) (λ after h.
        let is : (after.link == link) ≡ true = ap (λ (n : ℕ). n == link) h.1 ∙ e in (
          subst (λ (b : Bool). MatchBool b ((leave now after).0 ≡ None) (LinkRests now link outs)) (sym is) h.0,
          λ other rests. subst (λ (n : ℕ). MatchBool (n == other) ((leave now after).0 ≡ None) (LinkRests now other outs)) (sym h.1) (here_rests (out.link == other) ((leave now out).0 ≡ None) ((leave now after).0 ≡ None) (LinkRests now other outs) h.0 rests),
        ))
    at_flushed_case false link out outs e again =
        answers_then (HasFlushed link outs) (HasFlushed link (out ∷ outs)) (flush_at link now outs) (λ rest. Done (out ∷ rest)) again (λ rest h. (
          subst (λ (b : Bool). MatchBool b ((leave now out).0 ≡ None) (LinkRests now link rest)) (sym e) h.0,
          λ other rests. there_rests (out.link == other) ((leave now out).0 ≡ None) (LinkRests now other outs) (LinkRests now other rest) (h.1 other) rests,
        ))

    at_flushed : (link : ℕ) (outs : List (Out T)) → Answers (HasFlushed link outs) (flush_at link now outs)
    at_flushed link [] = (tt, λ other h. h)
    at_flushed link (out ∷ outs) = at_flushed_case (out.link == link) link out outs refl (at_flushed link outs)

    abbrev HasFlushedAll : List ℕ → List (Out T) → List (Out T) → Type 0
    HasFlushedAll links outs after = ((link : ℕ) → IsIn link links → LinkRests now link after) × ((other : ℕ) → LinkRests now other outs → LinkRests now other after)

    links_flushed : (links : List ℕ) (outs : List (Out T)) → Answers (HasFlushedAll links outs) (flush_links now links outs)
    links_flushed [] outs = (λ link h. absurd h, λ other h. h)
    links_flushed (link ∷ links) outs =
        answers_then (HasFlushed link outs) (HasFlushedAll (link ∷ links) outs) (flush_at link now outs) (λ rest. flush_links now links rest) (at_flushed link outs) (λ rest h.
        answers_as (HasFlushedAll links rest) (HasFlushedAll (link ∷ links) outs) (flush_links now links rest)
        (λ after more. (λ k in_links. either in_links (λ same. more.1 k (subst (λ (n : ℕ). LinkRests now n rest) same h.0)) (λ there. more.0 k there), λ other rests. more.1 other (h.1 other rests)))
        (links_flushed links rest))

    -- a link is among those of the queues, or there is none of its number
    listed_case : (b : Bool) (k : ℕ) (out : Out T) (outs : List (Out T)) → (out.link == k) ≡ b → (IsIn k (map link_of outs) ⊎ LinkRests now k outs) → IsIn k (map link_of (out ∷ outs)) ⊎ MatchBool b ((leave now out).0 ≡ None) (LinkRests now k outs)
    listed_case true k out outs e rest = inl (inl (eqb-true out.link k e))
    listed_case false k out outs e (inl there) = inl (inr there)
    listed_case false k out outs e (inr rests) = inr rests

    listed : (k : ℕ) (outs : List (Out T)) → IsIn k (map link_of outs) ⊎ LinkRests now k outs
    listed k [] = inr tt
    listed k (out ∷ outs) = listed_case (out.link == k) k out outs refl (listed k outs)

    all_flushed : (outs : List (Out T)) → Answers (LinksRest now) (flush_links now (map link_of outs) outs)
    all_flushed outs =
        answers_as (HasFlushedAll (map link_of outs) outs) (LinksRest now) (flush_links now (map link_of outs) outs) (λ after h. λ k. either (listed k outs) (h.0 k) (h.1 k)) (links_flushed (map link_of outs) outs)

    -- A PACKET THAT ENTERS the queue of one link leaves all others at rest.
    abbrev Enters : ℕ → Entered → List (Out T) → Type 0
    Enters k (Queued link) after = (link ≡ k) ⊎ LinkRests now k after
    Enters k (NoRoute to) after = LinkRests now k after
    Enters k (Full link) after = LinkRests now k after

    queued_case : (b : Bool) (k : ℕ) (out later : Out T) (outs : List (Out T)) → (out.link == k) ≡ b → later.link ≡ out.link → MatchBool b ((leave now out).0 ≡ None) (LinkRests now k outs) → (out.link ≡ k) ⊎ LinkRests now k (later ∷ outs)
    queued_case true k out later outs e same h = inl (eqb-true out.link k e)
    queued_case false k out later outs e same h =
        let is : (later.link == k) ≡ false = ap (λ (n : ℕ). n == k) same ∙ e in
        inr (subst (λ (b : Bool). MatchBool b ((leave now later).0 ≡ None) (LinkRests now k outs)) (sym is) h)

    abbrev pushed_by : Bool → Out T → Out T → Entered × Out T
    pushed_by room out later = if room then (Queued out.link, later) else (Full out.link, out)

    push_case : (room : Bool) (k : ℕ) (out later : Out T) (outs : List (Out T)) → later.link ≡ out.link → LinkRests now k (out ∷ outs)
        → let r = pushed_by room out later in Enters k r.0 (r.1 ∷ outs)
    push_case true k out later outs same h = queued_case (out.link == k) k out later outs refl same h
    push_case false k out later outs same h = h

    later_enters : (b : Bool) (k : ℕ) (entered : Entered) (out : Out T) (outs after : List (Out T)) → (out.link == k) ≡ b → MatchBool b ((leave now out).0 ≡ None) (LinkRests now k outs) → (LinkRests now k outs → Enters k entered after) → Enters k entered (out ∷ after)
    later_enters true k (Queued link) out outs after e h on = inr (subst (λ (b : Bool). MatchBool b ((leave now out).0 ≡ None) (LinkRests now k after)) (sym e) h)
    later_enters true k (NoRoute to) out outs after e h on = subst (λ (b : Bool). MatchBool b ((leave now out).0 ≡ None) (LinkRests now k after)) (sym e) h
    later_enters true k (Full link) out outs after e h on = subst (λ (b : Bool). MatchBool b ((leave now out).0 ≡ None) (LinkRests now k after)) (sym e) h
    later_enters false k (Queued link) out outs after e h on =
        either (on h) inl (λ rests. inr (subst (λ (b : Bool). MatchBool b ((leave now out).0 ≡ None) (LinkRests now k after)) (sym e) rests))
    later_enters false k (NoRoute to) out outs after e h on = subst (λ (b : Bool). MatchBool b ((leave now out).0 ≡ None) (LinkRests now k after)) (sym e) (on h)
    later_enters false k (Full link) out outs after e h on = subst (λ (b : Bool). MatchBool b ((leave now out).0 ≡ None) (LinkRests now k after)) (sym e) (on h)

    abbrev on_link_by : Bool → Entered × Out T → Entered × List (Out T) → Out T → List (Out T) → Entered × List (Out T)
    on_link_by here changed later out outs = if here then (changed.0, changed.1 ∷ outs) else (later.0, out ∷ later.1)

    enters_case : (here : Bool) (link k : ℕ) (parcel : Parcel T) (out : Out T) (outs : List (Out T)) → LinkRests now k (out ∷ outs) → (LinkRests now k outs → let r = on_link link (NoRoute (to_of parcel.octets)) (push parcel now) outs in Enters k r.0 r.1)
        → let r = on_link_by here (push parcel now out) (on_link link (NoRoute (to_of parcel.octets)) (push parcel now) outs) out outs in Enters k r.0 r.1
    enters_case true link k parcel out outs h again = push_case (nat_lt (length out.waits) most_on_link) k out (with_waits out (out.waits ++ (record { parcel = parcel; since = now }) ∷ []) out.last) outs refl h
    enters_case false link k parcel out outs h again = let r = on_link link (NoRoute (to_of parcel.octets)) (push parcel now) outs in later_enters (out.link == k) k r.0 out outs r.1 refl h again

    enters : (link k : ℕ) (parcel : Parcel T) (outs : List (Out T)) → LinkRests now k outs → let r = on_link link (NoRoute (to_of parcel.octets)) (push parcel now) outs in Enters k r.0 r.1
    enters link k parcel [] h = tt
    enters link k parcel (out ∷ outs) h = enters_case (out.link == link) link k parcel out outs h (enters link k parcel outs)

    entered_flushed : (entered : Entered) (relay : Relay T) → ((k : ℕ) → Enters k entered relay.outs) → Answers (λ (after : Relay T). LinksRest now after.outs) (flush_entered now (entered, relay))
    entered_flushed (Queued link) relay h =
        answers_then (HasFlushed link relay.outs) (λ (after : Relay T). LinksRest now after.outs) (flush_at link now relay.outs) (λ outs. Done (with_outs relay outs)) (at_flushed link relay.outs) (λ outs flushed.
        λ k. either (h k) (λ same. subst (λ (n : ℕ). LinkRests now n outs) same flushed.0) (flushed.1 k))
    entered_flushed (NoRoute to) relay h = h
    entered_flushed (Full link) relay h = h

    passed_by : (route : Option ℕ) (parcel : Parcel T) (relay : Relay T) → LinksRest now relay.outs → Answers (λ (after : Relay T). LinksRest now after.outs) (flush_entered now (enter_by route parcel now relay))
    passed_by None parcel relay h = h
    passed_by (Some link) parcel relay h =
        let r = on_link link (NoRoute (to_of parcel.octets)) (push parcel now) relay.outs in
        entered_flushed r.0 (with_outs relay r.1) (λ k. enters link k parcel relay.outs (h k))

    passed : (parcel : Parcel T) (relay : Relay T) → LinksRest now relay.outs → Answers (λ (after : Relay T). LinksRest now after.outs) (pass_on parcel now relay)
    passed parcel relay h = passed_by (route_to (to_of parcel.octets) relay.routes) parcel relay h

    -- THE HOST'S ACTS leave the links at rest.
    abbrev StationRests : Station T → Type 0
    StationRests station = LinksRest now station.relay.outs

    sent_off : (host : Host) (frame : Option (List ℕ)) (relay : Relay T) → LinksRest now relay.outs → Answers StationRests (send_off now host frame relay)
    sent_off host None relay h = h
    sent_off host (Some octets) relay h =
        λ t. answers_then (λ (after : Relay T). LinksRest now after.outs) StationRests (pass_on (record { octets = octets; tag = t }) now relay) (λ after. Done (station_with host after)) (passed (record { octets = octets; tag = t }) relay h) (λ after rests. rests)

    turn_on : (most : ℕ) (p : Params) (turn : Option Turn) (st : Station T) → LinksRest now st.relay.outs → ((other : Station T) → LinksRest now other.relay.outs → Answers StationRests (do_turns most p now other)) → Answers StationRests (go_on (do_turns most p now) now turn st)
    turn_on most p None st h again = h
    turn_on most p (Some turn) st h again = answers_then StationRests StationRests (do_turn now turn st.relay) (do_turns most p now) (sent_off turn.host turn.frame st.relay h) again

    turns_on : (most : ℕ) (p : Params) (st : Station T) → LinksRest now st.relay.outs → Answers StationRests (do_turns most p now st)
    turns_on zero p st h = h
    turns_on (suc most) p st h = turn_on most p (next_turn p now st.host) st h (turns_on most p)

    settled_rests : (p : Params) (st : Station T) → Answers StationRests (settle_station p now st)
    settled_rests p st =
        answers_then (LinksRest now) StationRests (flush_links now (map link_of st.relay.outs) st.relay.outs) (λ outs. do_turns (work p now st.host) p now (station_with st.host (with_outs st.relay outs))) (all_flushed st.relay.outs)
        (λ outs rests. turns_on (work p now st.host) p (station_with st.host (with_outs st.relay outs)) rests)

    -- after an event no packet may leave
    pub links_rest_after : (p : Params) (e : Event T) (st : Station T) → Answers (λ (after : Station T). LinksRest now after.relay.outs) (station_event p now e st)
    links_rest_after p e st =
        answers_then (λ (a : Station T). Unit {0}) StationRests (settle_station p now st) (λ before. happen p now e before >>= λ after. settle_station p now after) (any_answer (settle_station p now st)) (λ before h.
        answers_then (λ (a : Station T). Unit {0}) StationRests (happen p now e before) (λ after. settle_station p now after) (any_answer (happen p now e before)) (λ after h. settled_rests p after))
