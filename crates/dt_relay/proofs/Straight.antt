-- A packet that goes straight on: what its passage means, in the words of entering and leaving.
use Rattle.std.proofs.Common.{◌≡◌, ℕ, ◌+◌, ◌-◌, ◌<◌, ◌≤◌, List, [], ◌∷◌, Bool, true, false, cond, Option, Some, None, get_or, length, nat_lt, nat_le, option_and_then, refl, sym, subst, slice_set, ◌∙◌, ap, arith}
use Rattle.std.proofs.lemmas.List.{get_or-set_same, length-set, set-get_or, set-set}
use Rattle.std.proofs.lemmas.Bool.Decides.{nat_tests}
use Rattle.dt_layout.specs.Carried.{life_of, to_of}
use Rattle.dt_world_model.specs.declared.links.Entered.{Entered}
use Rattle.dt_world_model.specs.declared.links.Entered.TheVariants as entered
use Rattle.dt_world_model.specs.Relay.{Expired, Goes, Left, Out, Parcel, Relay, Waiting, enter, leave, left_of, lower_parcel, may_leave_from, most_on_link, on_link, push, route_to, with_outs, with_waits}
use Rattle.dt_relay.specs.declared.passages.Passage.{Passage}
use Rattle.dt_relay.specs.declared.passages.Passage.TheVariants as passage
use Rattle.dt_relay.specs.Passages.{GoesStraight, IsTurnedAway, Passes, WouldWait, passage_on, passed_on}
use Rattle.dt_relay.specs.Places.{link_of, place_of}
use Rattle.dt_relay.specs.Ways.{queue_of, way_to}
use Rattle.dt_relay.proofs.Links.{enter_nowhere, enter_there, on_link_at, push_link, put_at, put_in}
use Rattle.dt_relay.proofs.Lookups.{found_key, place_set, value_at, value_by, value_nowhere}

none_before : {T : Type 0} (ws : List (Waiting T)) → nat_lt 0 (length ws) ≡ false → ws ≡ []
none_before [] h = refl
none_before (w ∷ ws) h = let none : length (w ∷ ws) ≤ 0 = grind (arith, nat_tests) in absurd (omega arith)

at_once : (now : ℕ) → now - now + 1 ≡ 1
at_once now = omega arith

module _ {T : Type 0} (parcel : Parcel T) (now life : ℕ) (same : life_of parcel.octets ≡ life) where
  -- at a queue: to enter and then to leave comes to this
  pub record At (link : ℕ) (left : Left T) (out passed : Out T) : Type 0 where
    pub here : link ≡ out.link
    pub enters : (push parcel now out).0 ≡ entered.Queued link
    pub leaves : leave now (push parcel now out).1 ≡ (Some left, passed)
    pub ends : leave now passed ≡ (None, passed)

  left_now : (b : Bool) → nat_le life 1 ≡ b → left_of now (record { parcel = parcel; since = now }) ≡ cond b Expired (Goes (lower_parcel 1 parcel))
  left_now b h = rw (at_once now, same, h) refl

  expires : (link pace : ℕ) (last : Option ℕ) → nat_lt now (may_leave_from pace last) ≡ false → nat_le life 1 ≡ true →
      let out : Out T = record { link = link; pace = pace; waits = []; last = last } in At link Expired out out
  expires link pace last free short = record { here = refl; enters = refl; leaves = rw (free, left_now true short) refl; ends = refl }

  goes : (link pace : ℕ) (last : Option ℕ) → nat_lt now (may_leave_from pace last) ≡ false → nat_le life 1 ≡ false →
      let out : Out T = record { link = link; pace = pace; waits = []; last = last } in At link (Goes (lower_parcel 1 parcel)) out (with_waits out [] (Some now))
  goes link pace last free short = record { here = refl; enters = refl; leaves = rw (free, left_now false short) refl; ends = refl }

  -- what an answer means at the queue that gave it
  abbrev Meant : Passage → Out T → Type 0
  Meant (passage.Leaves link) out = At link (Goes (lower_parcel 1 parcel)) out (with_waits out out.waits (Some now))
  Meant (passage.Expired link) out = At link Expired out out
  Meant (passage.Waits link) out = (push parcel now out).0 ≡ entered.Queued link
  Meant (passage.NoRoute to) out = ⊥
  Meant (passage.Full link) out = push parcel now out ≡ (entered.Full link, out)

  meant : (room waits keeps short : Bool) (out : Out T) → nat_lt (length out.waits) most_on_link ≡ room → nat_lt 0 (length out.waits) ≡ waits → nat_lt now (may_leave_from out.pace out.last) ≡ keeps → nat_le life 1 ≡ short →
      Meant (cond room (cond waits (passage.Waits out.link) (cond keeps (passage.Waits out.link) (cond short (passage.Expired out.link) (passage.Leaves out.link)))) (passage.Full out.link)) out
  meant false waits keeps short out r w k s = rw r refl
  meant true true keeps short out r w k s = rw r refl
  meant true false true short out r w k s = rw r refl
  meant true false false true out r w k s =
      let none : out.waits ≡ [] = none_before out.waits w in
      let is : out ≡ record { link = out.link; pace = out.pace; waits = []; last = out.last } = ap (λ (ws : List (Waiting T)). with_waits out ws out.last) none in
      subst (λ (o : Out T). At out.link Expired o o) (sym is) (expires out.link out.pace out.last k s)
  meant true false false false out r w k s =
      let none : out.waits ≡ [] = none_before out.waits w in
      let is : out ≡ record { link = out.link; pace = out.pace; waits = []; last = out.last } = ap (λ (ws : List (Waiting T)). with_waits out ws out.last) none in
      subst (λ (o : Out T). At out.link (Goes (lower_parcel 1 parcel)) o (with_waits o o.waits (Some now))) (sym is) (goes out.link out.pace out.last k s)

  pub passage_meant : (out : Out T) → Meant (passage_on life now out) out
  passage_meant out = meant (nat_lt (length out.waits) most_on_link) (nat_lt 0 (length out.waits)) (nat_lt now (may_leave_from out.pace out.last)) (nat_le life 1) out refl refl refl refl

  -- at the relay
  module _ (to link k : ℕ) (relay : Relay T) (out : Out T) (names : to ≡ to_of parcel.octets) (way : Some link ≡ route_to to relay.routes) (stands : Some k ≡ place_of link_of link relay.outs) (small : k < length relay.outs) (is : out ≡ get_or relay.outs k out) where
    entered_there : enter parcel now relay ≡ put_in relay (put_at relay.outs k (push parcel now out))
    entered_there = enter_there parcel to now link k relay out names way stands small is

    -- a queue in its place is the queue of the link
    on_set : (new : Out T) → link_of new ≡ link_of out → on_link link None (leave now) (slice_set relay.outs k new) ≡ put_at (slice_set relay.outs k new) k (leave now new)
    on_set new keeps =
        on_link_at link None (leave now) (slice_set relay.outs k new) new k (stands ∙ sym (place_set link_of 0 link k relay.outs out new is keeps))
        (rw (length-set relay.outs k new) small) (sym (get_or-set_same relay.outs k new new small))

    straight : (l : ℕ) (left : Left T) (passed : Out T) → At l left out passed → link_of passed ≡ link_of out → GoesStraight parcel now l left relay (with_outs relay (slice_set relay.outs k passed))
    straight l left passed a keeps =
        let there : l ≡ link = a.here ∙ found_key link_of link k relay.outs out stands is in
        let pushed : Out T = (push parcel now out).1 in
        subst (λ (m : ℕ). GoesStraight parcel now m left relay (with_outs relay (slice_set relay.outs k passed))) (sym there) record {
          enters = ap (λ (r : Entered × Relay T). r.0) entered_there ∙ a.enters ∙ ap entered.Queued there;
          leaves = ap (λ (r : Entered × Relay T). on_link link None (leave now) r.1.outs) entered_there
              ∙ on_set pushed (push_link parcel now out)
              ∙ ap (put_at (slice_set relay.outs k pushed) k) a.leaves
              ∙ ap (λ (outs : List (Out T)). (Some left, outs)) (set-set relay.outs k pushed passed);
          ends = on_set passed keeps ∙ ap (put_at (slice_set relay.outs k passed) k) a.ends ∙ ap (λ (outs : List (Out T)). (None, outs)) (set-set relay.outs k passed passed);
          others = refl;
        }

    put_back : with_outs relay (slice_set relay.outs k out) ≡ relay
    put_back = ap (with_outs relay) (ap (slice_set relay.outs k) is ∙ set-get_or relay.outs k out)

    waits : (l : ℕ) (new : Relay T) → (push parcel now out).0 ≡ entered.Queued l → new ≡ with_outs relay (slice_set relay.outs k out) → WouldWait parcel now l relay new
    waits l new h e = record { same = e ∙ put_back; queued = ap (λ (r : Entered × Relay T). r.0) entered_there ∙ h }

    turned_away : (answer : Entered) (new : Relay T) → push parcel now out ≡ (answer, out) → new ≡ with_outs relay (slice_set relay.outs k out) → IsTurnedAway parcel now answer relay new
    turned_away answer new h e = record {
      same = e ∙ put_back;
      answered = entered_there ∙ ap (λ (r : Entered × Out T). put_in relay (put_at relay.outs k r)) h ∙ ap (λ (r : Relay T). (answer, r)) (sym e);
    }

    by_answer : (answer : Passage) (new : Relay T) → Meant answer out → new ≡ with_outs relay (slice_set relay.outs k (passed_on answer now out)) → Passes parcel now answer relay new
    by_answer (passage.Leaves l) new m e = subst (λ (r : Relay T). GoesStraight parcel now l (Goes (lower_parcel 1 parcel)) relay r) (sym e) (straight l (Goes (lower_parcel 1 parcel)) (with_waits out out.waits (Some now)) m refl)
    by_answer (passage.Expired l) new m e = subst (λ (r : Relay T). GoesStraight parcel now l Expired relay r) (sym e) (straight l Expired out m refl)
    by_answer (passage.Waits l) new m e = waits l new m e
    by_answer (passage.NoRoute t) new m e = absurd m
    by_answer (passage.Full l) new m e = turned_away (entered.Full l) new m e

    -- a queue's answer is that of the relay
    pub passes_there : (answer : Passage) (queue : Out T) (new : Relay T) → answer ≡ passage_on life now out → queue ≡ passed_on answer now out → new ≡ with_outs relay (slice_set relay.outs k queue) → Passes parcel now answer relay new
    passes_there answer queue new a q e =
        by_answer answer new (subst (λ (p : Passage). Meant p out) (sym a) (passage_meant out)) (e ∙ ap (λ (o : Out T). with_outs relay (slice_set relay.outs k o)) q)

  pub passes_nowhere : (to link : ℕ) (relay : Relay T) → to ≡ to_of parcel.octets → Some link ≡ route_to to relay.routes → None ≡ place_of link_of link relay.outs → Passes parcel now (passage.NoRoute to) relay relay
  passes_nowhere to link relay names way none = record {
    same = refl;
    answered = enter_nowhere parcel to now link relay names way none ∙ ap (λ (t : ℕ). (entered.NoRoute t, relay)) (sym names);
  }

-- which answer comes
module _ {T : Type 0} where
  queue_by : (link : ℕ) (outs : List (Out T)) → queue_of link outs ≡ value_by link_of (λ (o : Out T). Some o) None link outs
  queue_by link [] = refl
  queue_by link (o ∷ outs) = rw (queue_by link outs) refl

  pub way_there : (to link k : ℕ) (relay : Relay T) (out : Out T) → Some link ≡ route_to to relay.routes → Some k ≡ place_of link_of link relay.outs → out ≡ get_or relay.outs k out → way_to to relay ≡ Some out
  way_there to link k relay out way stands is =
      ap (option_and_then (λ link. queue_of link relay.outs)) (sym way) ∙ queue_by link relay.outs ∙ value_at link_of (λ (o : Out T). Some o) None link k relay.outs out stands is

  pub way_nowhere : (to link : ℕ) (relay : Relay T) → Some link ≡ route_to to relay.routes → None ≡ place_of link_of link relay.outs → way_to to relay ≡ None
  way_nowhere to link relay way none =
      ap (option_and_then (λ link. queue_of link relay.outs)) (sym way) ∙ queue_by link relay.outs ∙ value_nowhere link_of (λ (o : Out T). Some o) None link relay.outs none

  pub passed_link : (answer : Passage) (now : ℕ) (out : Out T) → link_of (passed_on answer now out) ≡ link_of out
  passed_link (passage.Leaves link) now out = refl
  passed_link (passage.Expired link) now out = refl
  passed_link (passage.Waits link) now out = refl
  passed_link (passage.NoRoute to) now out = refl
  passed_link (passage.Full link) now out = refl
