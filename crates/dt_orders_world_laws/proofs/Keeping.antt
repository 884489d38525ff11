-- A step of a client, by itself.
use Rattle.std.proofs.Common.{◌≡◌, ◌≢◌, ◌+◌, ◌≤◌, ◌∙◌, ℕ, List, [], ◌∷◌, Bool, true, false, inl, inr, ap, sym, subst, arith, refl}
use Rattle.std.specs.Prelude.{◌==◌, ◌&&◌, max, nat_le, if◌then◌else◌, Option, Some, None}
use Rattle.std.proofs.lemmas.Bool.Decides.{nat_tests}
use Rattle.dt_orders_model.specs.declared.knowledge.Known.{Known}
use Rattle.dt_orders_model.specs.declared.lanes.Called.{Called}
use Rattle.dt_orders_model.specs.declared.lanes.Client.{Client}
use Rattle.dt_orders_model.specs.declared.lanes.Fate.{Fate}
use Rattle.dt_orders_model.specs.declared.lanes.Fate.TheVariants as fate
use Rattle.dt_orders_model.specs.declared.lanes.Hearing.{Hearing}
use Rattle.dt_orders_model.specs.declared.lanes.Hearing.TheVariants as hearing
use Rattle.dt_orders_model.specs.declared.lanes.Lane.{Lane}
use Rattle.dt_orders_model.specs.declared.lanes.Left.{Left}
use Rattle.dt_orders_model.specs.declared.lanes.Order.{Order}
use Rattle.dt_orders_model.specs.declared.lanes.Word.{Word}
use Rattle.dt_orders_model.specs.declared.lanes.Word.TheVariants as word
use Rattle.dt_orders_model.specs.Fates.{WasExecuted}
use Rattle.dt_orders_model.specs.Histories.{Note}
use Rattle.dt_orders_model.specs.Lanes.{adopted_by, cancelled_by, effect_of, fate_by, hearing_of, is_fork, is_now, is_of, is_same_attempt, is_same_opening, is_usable, known_after, lane_by, lane_ended, lane_renewed, lane_unsure, left_by, newer}
use Rattle.dt_orders_model.specs.Stores.{Among, Name, Store, heard}
use Rattle.dt_orders_laws.proofs.Lists.{either_of}
use Rattle.dt_orders_world_laws.specs.Clients.{Ended, Kept, Process, adopted_on, cancelled_on, ended_by, ended_on, heard_as, heard_on, kept_of, left_on, name_on, opened_on, put_at, recorded, with_lane}
use Rattle.dt_orders_world_laws.specs.Wires.{Reply, Sent, name_of}
use Rattle.dt_orders_world_laws.proofs.Hearings.{not_once, used_same}
use Rattle.dt_orders_world_laws.proofs.Holding.{IsClient, IsGiven, IsMade, IsMind, IsReply, IsTrueFate, MayKnow, SaysTrue, WasHeard, top, top_of}
use Rattle.dt_orders_world_laws.proofs.Puts.{at_put, at_put_at, attempt_is}

-- a fate that may be there is so
abbrev pub MayEnd : List Store → Option Ended → Type 0
MayEnd past None = Unit {0}
MayEnd past (Some e) = IsTrueFate past e

module _ (notes : List Note) (past : List Store) (sent : List Sent) where
  abbrev Is : Process → Type 0
  Is = IsClient notes past sent

  numbers_put : (p : Process) (lane : ℕ) (l : Lane) → Is p → top (p.lanes lane) ≤ top l → (n : Note) → Among n notes → n.name.tag ≡ p.client.nonce → n.name.number ≤ top (put_at p.lanes lane l n.name.lane)
  numbers_put p lane l c above n m e =
      let had = c.numbers n m e in
      at_put_at (λ x y. n.name.lane ≡ x → n.name.number ≤ top y) p.lanes lane l
      (λ is. let before : n.name.number ≤ top (p.lanes lane) = subst (λ x. n.name.number ≤ top (p.lanes x)) is had in omega arith)
      (λ x other is. subst (λ y. n.name.number ≤ top (p.lanes y)) is had) n.name.lane refl

  pub with_lane_is : (p : Process) (lane : ℕ) (l : Lane) → Is p → IsGiven notes lane l.order → top (p.lanes lane) ≤ top l → Is (with_lane p lane l)
  with_lane_is p lane l c given above = record {
    mind = record { known = c.mind.known; orders = at_put (λ n x. IsGiven notes n x.order) p.lanes lane l given c.mind.orders; fates = c.mind.fates };
    stopped = c.stopped;
    kept = c.kept;
    alive = c.alive;
    waits = c.waits;
    once = c.once;
    own = c.own;
    counts = c.counts;
    numbers = numbers_put p lane l c above;
  }

  -- a lane with the same order and the same last number
  pub same_lane_is : (p : Process) (lane : ℕ) (l : Lane) → Is p → l.order ≡ (p.lanes lane).order → l.last ≡ (p.lanes lane).last → Is (with_lane p lane l)
  same_lane_is p lane l c order last = with_lane_is p lane l c (subst (λ (x : Option Order). IsGiven notes lane x) (sym order) (c.mind.orders lane))
      (let same : top l ≡ top (p.lanes lane) = ap (λ (x : Option Order). top_of l.last x) order ∙ ap (λ (x : ℕ). top_of x (p.lanes lane).order) last in omega arith)

  pub recorded_is : (p : Process) → Is p → Is (recorded p)
  recorded_is p c = record {
    mind = c.mind;
    stopped = c.stopped;
    kept = either_of (λ k. IsMind notes past k.known k.lanes k.fates) (kept_of p) p.olds c.mind c.kept;
    alive = either_of (λ k. Among k (kept_of p ∷ p.olds)) (kept_of p) p.alive (inl refl) (λ k m. inr (c.alive k m));
    waits = c.waits;
    once = c.once;
    own = c.own;
    counts = c.counts;
    numbers = c.numbers;
  }

  pub fate_is : (p : Process) (e : Ended) → Is p → IsTrueFate past e → Is (record p { fates = e ∷ p.fates })
  fate_is p e c is = record {
    mind = record { known = c.mind.known; orders = c.mind.orders; fates = either_of (λ x. IsTrueFate past x) e p.fates is c.mind.fates };
    stopped = c.stopped;
    kept = c.kept;
    alive = c.alive;
    waits = c.waits;
    once = c.once;
    own = c.own;
    counts = c.counts;
    numbers = c.numbers;
  }

  pub waits_is : (p : Process) (lane : ℕ) (called : Option Called) → Is p → IsMade sent lane called → Is (record p { waits = put_at p.waits lane called })
  waits_is p lane called c made = record {
    mind = c.mind;
    stopped = c.stopped;
    kept = c.kept;
    alive = c.alive;
    waits = at_put (λ n x. IsMade sent n x) p.waits lane called made c.waits;
    once = c.once;
    own = c.own;
    counts = c.counts;
    numbers = c.numbers;
  }

  pub knows_is : (p : Process) (client : Client) → Is p → MayKnow past client.known → MayKnow past client.stopped → client.nonce ≡ p.client.nonce → client.is_once ≡ false → Is (record p { client = client })
  knows_is p client c known stopped nonce once = record {
    mind = record { known = known; orders = c.mind.orders; fates = c.mind.fates };
    stopped = stopped;
    kept = c.kept;
    alive = c.alive;
    waits = c.waits;
    once = once;
    own = subst (λ (x : ℕ). Among x p.nonces) (sym nonce) c.own;
    counts = λ s m e. c.counts s m (e ∙ nonce);
    numbers = λ n m e. c.numbers n m (e ∙ nonce);
  }

  pub stored_is : (p : Process) (stored : ℕ) (kept : List Kept) → Is p → ((k : Kept) → Among k kept → Among k p.alive) → Is (record p { stored = stored; alive = kept })
  stored_is p stored kept c some = record {
    mind = c.mind;
    stopped = c.stopped;
    kept = c.kept;
    alive = λ k m. c.alive k (some k m);
    waits = c.waits;
    once = c.once;
    own = c.own;
    counts = c.counts;
    numbers = c.numbers;
  }

  -- WHAT IS LEFT OF A LANE
  if_recorded : (t : Bool) (p : Process) → Is p → Is (if t then recorded p else p)
  if_recorded true p c = recorded_is p c
  if_recorded false p c = c

  pub left_is : (p : Process) (lane : ℕ) (l : Lane) (e : Option Ended) → Is p → IsGiven notes lane l.order → top (p.lanes lane) ≤ top l → MayEnd past e → Is (left_on p lane l e)
  left_is p lane l None c given above is = if_recorded (l.record_number == p.number + 1) (with_lane p lane l) (with_lane_is p lane l c given above)
  left_is p lane l (Some e) c given above is = recorded_is (record (with_lane p lane l) { fates = e ∷ p.fates }) (fate_is (with_lane p lane l) e (with_lane_is p lane l c given above) is)

  pub ended_is : (p : Process) (lane : ℕ) → Is p → Is (ended_on p lane)
  ended_is p lane c = waits_is (with_lane p lane (lane_unsure (p.lanes lane))) lane None (same_lane_is p lane (lane_unsure (p.lanes lane)) c refl refl) tt

  adopted_by_is : (p : Process) (stopped : Option Known) → Is p → MayKnow past stopped → Is (record p { client = adopted_by stopped p.client })
  adopted_by_is p None c s = c
  adopted_by_is p (Some q) c s = knows_is p (record p.client { known = Some q; stopped = None }) c s tt refl c.once

  pub adopted_is : (p : Process) → Is p → Is (adopted_on p)
  adopted_is p c = recorded_is (record p { client = adopted_by p.client.stopped p.client }) (adopted_by_is p p.client.stopped c c.stopped)

  -- A CANCEL
  ended_above : (last above : ℕ) (o : Order) → top_of last (Some o) ≤ max (max last o.number) above
  ended_above last above o = omega arith

  pub above_ended : (p : Process) (lane above : ℕ) (o : Order) → (p.lanes lane).order ≡ Some o → top (p.lanes lane) ≤ top (lane_ended (p.lanes lane) o above)
  above_ended p lane above o e = subst (λ (x : Option Order). top_of (p.lanes lane).last x ≤ max (max (p.lanes lane).last o.number) above) (sym e) (ended_above (p.lanes lane).last above o)

  cancelled_fresh : (p : Process) (lane : ℕ) (o : Order) (t : Bool) → (p.lanes lane).order ≡ Some o → Is p → (let left : Left = (if t then record { lane = lane_ended (p.lanes lane) o 0; fate = Some fate.Never } else record { lane = record (p.lanes lane) { is_cancelled = true }; fate = None }) in Is (left_on p lane left.lane (ended_by left.fate (Some o) lane (p.number + 1) [] None)))
  cancelled_fresh p lane o true e c = left_is p lane (lane_ended (p.lanes lane) o 0) (ended_by (Some fate.Never) (Some o) lane (p.number + 1) [] None) c tt (above_ended p lane 0 o e) tt
  cancelled_fresh p lane o false e c = left_is p lane (record (p.lanes lane) { is_cancelled = true }) None c (c.mind.orders lane) (omega arith) tt

  cancelled_case : (p : Process) (lane : ℕ) (o : Option Order) → (p.lanes lane).order ≡ o → Is p → (let left = cancelled_by o (p.lanes lane) in Is (left_on p lane left.lane (ended_by left.fate o lane (p.number + 1) [] None)))
  cancelled_case p lane None e c = left_is p lane (p.lanes lane) None c (c.mind.orders lane) (omega arith) tt
  cancelled_case p lane (Some o) e c = cancelled_fresh p lane o (p.lanes lane).is_fresh e c

  pub cancelled_is : (p : Process) (lane : ℕ) → Is p → Is (cancelled_on p lane)
  cancelled_is p lane c = cancelled_case p lane (p.lanes lane).order refl c

  -- A NEW LIFE, with a nonce that no opening had
  pub opened_is : (p : Process) (k : Kept) (nonce : ℕ) → Is p → Among k p.olds → ((s : Sent) → Among s sent → s.called.attempt.nonce ≢ nonce) → ((n : Note) → Among n notes → n.name.tag ≢ nonce) → Is (opened_on p k nonce)
  opened_is p k nonce c there calls tags = let m = c.kept k there in record {
    mind = record { known = m.known; orders = m.orders; fates = m.fates };
    stopped = tt;
    kept = c.kept;
    alive = either_of (λ x. Among x p.olds) k [] there (λ x n. elim n [ ]);
    waits = λ lane. tt;
    once = refl;
    own = inl refl;
    counts = λ s n e. absurd (calls s n e);
    numbers = λ n x e. absurd (tags n x e);
  }

  -- AN ANSWER IS HEARD
  newer_is : (known : Option Known) (q : Known) → MayKnow past known → WasHeard past q → WasHeard past (newer known q)
  newer_is None q k h = h
  newer_is (Some known) q k h = by (is_same_opening known q && nat_le q.clock known.clock)
    where
      by : (t : Bool) → WasHeard past (if t then known else q)
      by true = k
      by false = h

  module _ (p : Process) (lane : ℕ) (c : Called) (r : Reply) (holds : Is p) (reply : IsReply notes past sent r) (waiting : p.waits lane ≡ Some c) (alone : (a b : Sent) → Among a sent → Among b sent → a.called.attempt ≡ b.called.attempt → a ≡ b) where
    was_heard : WasHeard past r.answer.heard
    was_heard = record { store = reply.store; there = reply.there; is = reply.is }

    -- the answer is of the call that waits
    pub its_call : is_same_attempt c.attempt r.answer.attempt ≡ true → r.call ≡ record { lane = lane; called = c }
    its_call same =
        let mine : Among (record { lane = lane; called = c }) sent = subst (λ (x : Option Called). IsMade sent lane x) waiting (holds.waits lane) in
        alone r.call (record { lane = lane; called = c }) reply.call mine (sym (attempt_is c.attempt r.answer.attempt same ∙ reply.attempt))

    abbrev its_client : Client
    its_client = known_after p.client hearing.Used r.answer

    abbrev listener : Process
    listener = record p { client = its_client; waits = put_at p.waits lane None }

    listener_is : Is listener
    listener_is = waits_is (record p { client = its_client }) lane None (knows_is p its_client holds (newer_is p.client.known r.answer.heard holds.mind.known was_heard) holds.stopped refl holds.once) tt

    -- the name of the order that the call is of
    pub its_name : (o : Order) → is_same_attempt c.attempt r.answer.attempt ≡ true → is_of (Some o) c ≡ true → name_of r.call ≡ name_on lane o
    its_name o same of =
        let call = ap name_of (its_call same) in
        let number : c.number ≡ o.number = grind (arith, nat_tests) in
        let tag : c.tag ≡ o.tag = grind (arith, nat_tests) in
        call ∙ (ap (λ (x : ℕ). record { lane = lane; number = x; tag = c.tag }) number ∙ ap (λ (x : ℕ). record { lane = lane; number = o.number; tag = x }) tag)

    abbrev LeftBy : Option Order → Lane → Option Fate → Type 0
    LeftBy o l f = Is (left_on listener lane l (ended_by f o lane (p.number + 1) r.result (Some r.answer.heard)))

    -- what a word does to the order
    used_word : (o : Order) (w : Word) → (p.lanes lane).order ≡ Some o → name_of r.call ≡ name_on lane o → SaysTrue notes reply.store r w → LeftBy (Some o) (lane_by (effect_of w false) p.client.nonce (p.lanes lane) o (record r.answer { word = w }) (p.number + 1)) (fate_by (effect_of w false))
    used_word o word.Done is name says = left_is listener lane (lane_ended (p.lanes lane) o 0) (ended_by (Some fate.Done) (Some o) lane (p.number + 1) r.result (Some r.answer.heard)) listener_is tt (above_ended p lane 0 o is)
        (record { store = reply.store; there = reply.there; is = ap Some reply.is; executed = subst (λ (x : Name). WasExecuted reply.store x r.result) name says })
    used_word o word.Never is name says = left_is listener lane (lane_ended (p.lanes lane) o 0) (ended_by (Some fate.Never) (Some o) lane (p.number + 1) r.result (Some r.answer.heard)) listener_is tt (above_ended p lane 0 o is) tt
    used_word o word.Old is name says = left_is listener lane (lane_ended (p.lanes lane) o 0) (ended_by (Some fate.Unknown) (Some o) lane (p.number + 1) r.result (Some r.answer.heard)) listener_is tt (above_ended p lane 0 o is) tt
    used_word o word.Stale is name says = left_is listener lane (lane_ended (p.lanes lane) o r.answer.value) (ended_by (Some fate.Unknown) (Some o) lane (p.number + 1) r.result (Some r.answer.heard)) listener_is tt (above_ended p lane r.answer.value o is) tt
    used_word o word.NotNow is name says = left_is listener lane (lane_renewed (p.lanes lane) o r.answer.heard (p.number + 1)) None listener_is
        (subst (λ (x : Known). Among (record { name = name_on lane o; since = x }) notes) (sym reply.is) (subst (λ (x : Name). Among (record { name = x; since = heard reply.store }) notes) name says))
        (subst (λ (x : Option Order). top_of (p.lanes lane).last x ≤ max (p.lanes lane).last o.number) (sym is) (omega arith)) tt
    used_word o word.AtWork is name says = left_is listener lane (lane_unsure (p.lanes lane)) None listener_is (holds.mind.orders lane) (omega arith) tt
    used_word o word.Forked is name says = left_is listener lane (lane_unsure (p.lanes lane)) None listener_is (holds.mind.orders lane) (omega arith) tt
    used_word o word.Hello is name says = left_is listener lane (lane_unsure (p.lanes lane)) None listener_is (holds.mind.orders lane) (omega arith) tt
    used_word o word.Told is name says = left_is listener lane (lane_unsure (p.lanes lane)) None listener_is (holds.mind.orders lane) (omega arith) tt

    used_case : (t : Bool) (o : Option Order) → (p.lanes lane).order ≡ o → is_of o c ≡ t → is_same_attempt c.attempt r.answer.attempt ≡ true → (let left = left_by t o p.client.nonce (p.lanes lane) (effect_of r.answer.word false) r.answer (p.number + 1) in LeftBy o left.lane left.fate)
    used_case true (Some o) is of same = used_word o r.answer.word is (its_name o same of) reply.says
    used_case true None is of same = left_is listener lane (lane_unsure (p.lanes lane)) None listener_is (holds.mind.orders lane) (omega arith) tt
    used_case false None is of same = left_is listener lane (lane_unsure (p.lanes lane)) None listener_is (holds.mind.orders lane) (omega arith) tt
    used_case false (Some o) is of same = left_is listener lane (lane_unsure (p.lanes lane)) None listener_is (holds.mind.orders lane) (omega arith) tt

    heard_case : (h : Hearing) → hearing_of p.client.known c r.answer ≡ h → Is (heard_as h p lane c r)
    heard_case hearing.Strange e = ended_is p lane holds
    heard_case hearing.Unsure e = ended_is p lane holds
    heard_case hearing.Alarm e = knows_is (ended_on p lane) (known_after p.client hearing.Alarm r.answer) (ended_is p lane holds) holds.mind.known was_heard refl holds.once
    heard_case hearing.Used e =
        let same = used_same (is_same_attempt c.attempt r.answer.attempt) (if is_fork r.answer.word then (if is_now p.client.known c.knows then hearing.Alarm else hearing.Unsure) else if is_usable p.client.known c.knows r.answer.heard then hearing.Used else hearing.Unsure) e in
        subst (λ (x : Bool). let left = left_by (is_of (p.lanes lane).order c) (p.lanes lane).order p.client.nonce (p.lanes lane) (effect_of r.answer.word x) r.answer (p.number + 1) in LeftBy (p.lanes lane).order left.lane left.fate) (not_once c.is_only p.client.is_once holds.once)
        (used_case (is_of (p.lanes lane).order c) (p.lanes lane).order refl refl same)

    pub heard_is : Is (heard_on p lane c r)
    heard_is = heard_case (hearing_of p.client.known c r.answer) refl
