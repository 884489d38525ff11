-- Calls and notes of a client that is in order, whatever is held of the commits that it goes by and of its fates.
use Rattle.std.proofs.Common.{◌≡◌, ◌≢◌, ◌+◌, ◌∙◌, ℕ, List, ◌∷◌, true, false, inr, ap, sym, subst, arith, refl}
use Rattle.std.specs.Prelude.{Option, Some, None}
use Rattle.std.proofs.lemmas.Bool.Decides.{nat_tests}
use Rattle.dt_orders_model.specs.declared.knowledge.Known.{Known}
use Rattle.dt_orders_model.specs.declared.lanes.Called.{Called}
use Rattle.dt_orders_model.specs.declared.lanes.Lane.{Lane}
use Rattle.dt_orders_model.specs.declared.lanes.Order.{Order}
use Rattle.dt_orders_model.specs.declared.lanes.Sending.TheVariants as sending
use Rattle.dt_orders_model.specs.Histories.{Note}
use Rattle.dt_orders_model.specs.Lanes.{call_of, is_ask_call, is_of, lane_made, lane_unsure}
use Rattle.dt_orders_model.specs.Stores.{Among, Name, is_same}
use Rattle.dt_orders_laws.proofs.Lists.{either_of, same_itself}
use Rattle.dt_orders_world_laws.specs.Both.{Both}
use Rattle.dt_orders_world_laws.specs.Clients.{Ended, Kept, Process, asked_on, attempt_of, called_on, name_on, noted_on, put_at, question_of, with_lane}
use Rattle.dt_orders_world_laws.specs.Wires.{Sent, name_of, note_of}
use Rattle.dt_orders_world_laws.proofs.Good.{Good, IsToldBy, MayBe, recorded_ok, same_ok}
use Rattle.dt_orders_world_laws.proofs.Holding.{Holds, IsMade}
use Rattle.dt_orders_world_laws.proofs.Orderly.{IsCallOf, OrderOk, Orderly, called_in, lane_in, orderly_more, waits_in}
use Rattle.dt_orders_world_laws.proofs.Puts.{apart, at_put, at_put_at, put_here, some_is}
use Rattle.dt_orders_world_laws.proofs.Asking.{asks_not}
use Rattle.dt_orders_world_laws.proofs.Stepping.{Called_is, call_is, fresh_by, given, note}

good_called : (R : Sent → Known → Type 0) (F : Known → Type 0) (S S' : Ended → Type 0) (notes : List Note) (sent : List Sent) (s : Sent) (p : Process) → Good R F S notes sent p → Orderly R notes (s ∷ sent) p → ((e : Ended) → Among e p.fates → S e → S' e) → Good R F S' notes (s ∷ sent) p
good_called R F S S' notes sent s p g orderly more = record {
  orderly = orderly;
  mind = g.mind;
  stopped = g.stopped;
  store = g.store;
  sealed = λ e m. more e m (g.sealed e m);
}

-- another call waits, and a further one was made
waiting_ok : (R : Sent → Known → Type 0) (F : Known → Type 0) (S : Ended → Type 0) (notes : List Note) (sent : List Sent) (p : Process) (lane count : ℕ) (c : Called) → Good R F S notes sent p → ((o : Order) → (p.lanes lane).order ≡ Some o → is_of (Some o) c ≡ true → c.since ≡ o.since) → Good R F S notes sent (record p { waits = put_at p.waits lane (Some c); count = count })
waiting_ok R F S notes sent p lane count c g ok = let i = waits_in R notes sent p lane (Some c) g.orderly (λ o e d same of. let is = some_is c d same in subst (λ (x : Called). x.since ≡ o.since) is (ok o e (subst (λ (x : Called). is_of (Some o) x ≡ true) (sym is) of))) in record {
  orderly = record { lanes = i.lanes; store = i.store; once = i.once; named = i.named; within = i.within };
  mind = g.mind;
  stopped = g.stopped;
  store = g.store;
  sealed = g.sealed;
}

-- A QUESTION is a call of no order
module _ (R : Sent → Known → Type 0) (F : Known → Type 0) (S S' : Ended → Type 0) (notes : List Note) (sent : List Sent) (lane : ℕ) (since : Known) (knows : Option Known) (asker : Process) (more : (e : Ended) → (IsCallOf (record { lane = lane; called = question_of asker since knows }) e.name → ⊥) → S e → S' e) where
  abbrev asked : Sent
  asked = record { lane = lane; called = question_of asker since knows }

  no_call : (o : Name) → IsCallOf asked o → ⊥
  no_call o is = let a = is.kind in apart refl a

  pub beside_question : (p : Process) → Good R F S notes sent p → Good R F S' notes (asked ∷ sent) p
  beside_question p g = good_called R F S S' notes sent asked p g
      (called_in R notes sent asked p g.orderly (λ n o e is. absurd (no_call (name_on n o) is)) (λ k m n o e is. absurd (no_call (name_on n o) is)))
      (λ e m. more e (no_call e.name))

  pub asker_good : Good R F S notes sent asker → Good R F S' notes (asked ∷ sent) (asked_on asker lane (question_of asker since knows))
  asker_good g =
      let one = same_ok R F S' notes (asked ∷ sent) asker lane (lane_unsure (asker.lanes lane)) (beside_question asker g) refl refl (λ y. y) in
      waiting_ok R F S' notes (asked ∷ sent) (with_lane asker lane (lane_unsure (asker.lanes lane))) lane (asker.count + 1) (question_of asker since knows) one (λ o e of. absurd (apart refl (asks_not o (question_of asker since knows) true refl of)))

-- A CALL of an order
module _ (R : Sent → Known → Type 0) (F : Known → Type 0) (S S' : Ended → Type 0) (w : Both) (h : Holds w) (each : (i : ℕ) → Good R F S w.server.notes w.sent (w.clients i)) (i lane : ℕ) (c : Called) (e : call_of (w.clients i).client ((w.clients i).lanes lane) (w.clients i).stored (attempt_of (w.clients i)) ≡ Some c) (reflexive : R (record { lane = lane; called = c }) c.since) (more : (e : Ended) → (IsCallOf (record { lane = lane; called = c }) e.name → ⊥) → S e → S' e) where
  abbrev p : Process
  p = w.clients i

  abbrev s : Sent
  s = record { lane = lane; called = c }

  is : Called_is p.client (p.lanes lane) p.stored (attempt_of p) c
  is = call_is p.client (p.lanes lane) p.stored (attempt_of p) c e

  ok : OrderOk R w.sent p.fates p.alive p.nonces (p.waits lane) lane (p.lanes lane).record_number (p.lanes lane).is_fresh is.order
  ok = (each i).orderly.lanes lane is.order is.there

  name : name_of s ≡ name_on lane is.order
  name = ap (λ (y : Called). record { lane = lane; number = y.number; tag = y.tag }) is.is

  since : c.since ≡ is.order.since
  since = ap (λ (y : Called). y.since) is.is

  -- another client has no order of this name
  pub others_tag : (j : ℕ) → j ≢ i → (o : Name) → Among o.tag (w.clients j).nonces → IsCallOf s o → ⊥
  others_tag j other o mine call =
      let tag : is.order.tag ≡ o.tag = ap (λ (n : Name). n.tag) (sym name ∙ call.name) in
      other (h.apart j i o.tag mine (subst (λ (n : ℕ). Among n p.nonces) tag ok.mine))

  pub other_good : (j : ℕ) → j ≢ i → Good R F S' w.server.notes (s ∷ w.sent) (w.clients j)
  other_good j other = let g = each j in good_called R F S S' w.server.notes w.sent s (w.clients j) g
      (called_in R w.server.notes w.sent s (w.clients j) g.orderly
      (λ n o there call. absurd (others_tag j other (name_on n o) (g.orderly.lanes n o there).mine call))
      (λ k m n o there call. absurd (others_tag j other (name_on n o) ((g.orderly.store k m).orders n o there).mine call)))
      (λ f m. more f (others_tag j other f.name (g.orderly.named f m).mine))

  -- the lane is fresh no more
  abbrev made_lane : Lane
  made_lane = lane_made sending.Sent (p.lanes lane)

  abbrev maker : Process
  maker = with_lane p lane made_lane

  maker_good : Good R F S w.server.notes w.sent maker
  maker_good = same_ok R F S w.server.notes w.sent p lane made_lane (each i) refl refl (λ fresh. absurd (apart fresh refl))

  same_order : (o : Order) → (p.lanes lane).order ≡ Some o → is.order ≡ o
  same_order o there = some_is is.order o (sym is.there ∙ there)

  in_memory : (n : ℕ) (o : Order) → (put_at p.lanes lane made_lane n).order ≡ Some o → IsCallOf s (name_on n o) → (R s o.since) × ((put_at p.lanes lane made_lane n).is_fresh ≡ false)
  in_memory = at_put_at (λ n y. (o : Order) → y.order ≡ Some o → IsCallOf s (name_on n o) → (R s o.since) × (y.is_fresh ≡ false)) p.lanes lane made_lane
      (λ o there call. (subst (λ (q : Known). R s q) (since ∙ ap (λ (y : Order). y.since) (same_order o there)) reflexive, refl))
      (λ n other o there call. absurd (other (sym (ap (λ (y : Name). y.lane) call.name))))

  in_store : (k : Kept) → Among k p.alive → (n : ℕ) (o : Order) → (k.lanes n).order ≡ Some o → IsCallOf s (name_on n o) → R s o.since
  in_store k m n o there call =
      let least = ((each i).orderly.store k m).least in
      let stored = is.stores in
      let here = ok.kept k m (omega arith) in
      let at : lane ≡ n = ap (λ (y : Name). y.lane) call.name in
      let there_here : (k.lanes lane).order ≡ Some o = subst (λ (y : ℕ). (k.lanes y).order ≡ Some o) (sym at) there in
      let same : is.order ≡ o = some_is is.order o (sym here ∙ there_here) in
      subst (λ (q : Known). R s q) (since ∙ ap (λ (y : Order). y.since) same) reflexive

  maker_called : Good R F S' w.server.notes (s ∷ w.sent) maker
  maker_called = good_called R F S S' w.server.notes w.sent s maker maker_good
      (called_in R w.server.notes w.sent s maker maker_good.orderly in_memory in_store)
      (λ f m. more f (λ call. ok.over f m (sym name ∙ call.name)))

  pub its_since : F c.since
  its_since = subst F (sym since) ((each i).mind.orders lane is.order is.there)

  pub maker_is : Good R F S' w.server.notes (s ∷ w.sent) (called_on p lane c)
  maker_is = waiting_ok R F S' w.server.notes (s ∷ w.sent) maker lane (p.count + 1) c maker_called (λ o there of. since ∙ ap (λ (y : Order). y.since) (same_order o (made_order o there)))
    where
      made_order : (o : Order) → (put_at p.lanes lane made_lane lane).order ≡ Some o → (p.lanes lane).order ≡ Some o
      made_order o there = subst (λ (y : Lane). y.order ≡ Some o) (put_here p.lanes lane made_lane) there

-- AN ORDER IS NOTED
module _ (R : Sent → Known → Type 0) (F : Known → Type 0) (S : Ended → Type 0) (w : Both) (h : Holds w) (each : (i : ℕ) → Good R F S w.server.notes w.sent (w.clients i)) (i lane uid : ℕ) (q : Known) (knows : (w.clients i).client.known ≡ Some q) (free : ((w.clients i).lanes lane).order ≡ None) where
  abbrev pub noter : Process
  noter = w.clients i

  abbrev pub its_note : Note
  its_note = note w i lane uid h q knows free

  abbrev pub its_lane : Lane
  its_lane = given w i lane uid h q knows free

  abbrev its_order : Order
  its_order = record { uid = uid; number = (noter.lanes lane).last + 1; tag = noter.client.nonce; since = q }

  -- nobody called it, and it has no fate
  unused : (n : Note) → Among n w.server.notes → n.name ≡ its_note.name → ⊥
  unused n m e =
      let not_same = fresh_by w i lane uid h q knows free n m (is_same n.name its_note.name) refl in
      let same : is_same n.name its_note.name ≡ true = subst (λ (y : Name). is_same n.name y ≡ true) e (same_itself n.name) in
      apart same not_same

  uncalled : (s : Sent) → Among s w.sent → IsCallOf s its_note.name → ⊥
  uncalled s m call = unused (note_of s) ((h.calls s m).noted call.kind) call.name

  its_firm_since : F q
  its_firm_since = subst (λ (y : Option Known). MayBe F y) knows (each i).mind.known

  noter_order : OrderOk R w.sent noter.fates noter.alive noter.nonces (noter.waits lane) lane (noter.number + 1) true its_order
  noter_order = record {
    over = λ e m same. let n = (each i).orderly.named e m in unused n.note n.there (n.name ∙ sym same);
    kept = λ k m within. let most = ((each i).orderly.store k m).most in absurd (omega arith);
    newest = λ s m call. absurd (uncalled s m call);
    waiting = λ c waits of. absurd (waits_none c waits of);
    uncalled = λ fresh. uncalled;
    mine = (h.each i).own;
  }
    where
      waits_none : (c : Called) → noter.waits lane ≡ Some c → is_of (Some its_order) c ≡ true → ⊥
      waits_none c waits of =
          let made : Among (record { lane = lane; called = c }) w.sent = subst (λ (y : Option Called). IsMade w.sent lane y) waits ((h.each i).waits lane) in
          let number : c.number ≡ its_order.number = grind (arith, nat_tests) in
          let tag : c.tag ≡ its_order.tag = grind (arith, nat_tests) in
          let same : name_of (record { lane = lane; called = c }) ≡ its_note.name = ap (λ (n : ℕ). record { lane = lane; number = n; tag = c.tag }) number ∙ ap (λ (n : ℕ). record { lane = lane; number = its_order.number; tag = n }) tag in
          uncalled (record { lane = lane; called = c }) made (record { kind = asks_not its_order c (is_ask_call c.kind) refl of; name = same })

  pub noter_good : Good R F S (its_note ∷ w.server.notes) w.sent (noted_on noter lane its_lane)
  noter_good = let g = each i in recorded_ok R F S (its_note ∷ w.server.notes) w.sent (with_lane noter lane its_lane) (record {
    orderly = orderly_more R w.server.notes (its_note ∷ w.server.notes) w.sent (with_lane noter lane its_lane) (λ n m. inr m)
        (lane_in R w.server.notes w.sent noter lane its_lane g.orderly (λ o e. subst (λ (y : Order). OrderOk R w.sent noter.fates noter.alive noter.nonces (noter.waits lane) lane (noter.number + 1) true y) (some_is its_order o e) noter_order));
    mind = record { known = g.mind.known; orders = at_put (λ n y. (o : Order) → y.order ≡ Some o → F o.since) noter.lanes lane its_lane (λ o e. subst (λ (y : Order). F y.since) (some_is its_order o e) its_firm_since) g.mind.orders };
    stopped = g.stopped;
    store = g.store;
    sealed = g.sealed;
  })

  pub noted_good : (j : ℕ) → Good R F S (its_note ∷ w.server.notes) w.sent (w.clients j)
  noted_good j = let g = each j in record {
    orderly = orderly_more R w.server.notes (its_note ∷ w.server.notes) w.sent (w.clients j) (λ n m. inr m) g.orderly;
    mind = g.mind;
    stopped = g.stopped;
    store = g.store;
    sealed = g.sealed;
  }

  pub told_noted : (e : Ended) → IsToldBy noter e → IsToldBy (noted_on noter lane its_lane) e
  told_noted e t = record { there = t.there; kept = either_of (λ k. Among e k.fates) _ noter.alive t.there t.kept }
