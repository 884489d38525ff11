-- A client that is in order, whatever is held of the commits that it goes by and of its fates.
use Rattle.std.proofs.Common.{◌≡◌, ◌≢◌, ◌+◌, ◌≤◌, ◌∙◌, ℕ, List, [], ◌∷◌, Bool, true, false, inr, ap, sym, subst, arith, refl}
use Rattle.std.specs.Prelude.{◌==◌, ◌&&◌, nat_le, if◌then◌else◌, Option, Some, None}
use Rattle.dt_orders_model.specs.declared.knowledge.Known.{Known}
use Rattle.dt_orders_model.specs.declared.lanes.Called.{Called}
use Rattle.dt_orders_model.specs.declared.lanes.Client.{Client}
use Rattle.dt_orders_model.specs.declared.lanes.Fate.{Fate}
use Rattle.dt_orders_model.specs.declared.lanes.Fate.TheVariants as fate
use Rattle.dt_orders_model.specs.declared.lanes.Hearing.{Hearing}
use Rattle.dt_orders_model.specs.declared.lanes.Hearing.TheVariants as hearing
use Rattle.dt_orders_model.specs.declared.lanes.Lane.{Lane}
use Rattle.dt_orders_model.specs.declared.lanes.Left.{Left}
use Rattle.dt_orders_model.specs.declared.lanes.Order.{Order}
use Rattle.dt_orders_model.specs.declared.lanes.Word.{Word}
use Rattle.dt_orders_model.specs.declared.lanes.Word.TheVariants as word
use Rattle.dt_orders_model.specs.Histories.{Note}
use Rattle.dt_orders_model.specs.Lanes.{adopted_by, cancelled_by, effect_of, fate_by, hearing_of, is_fork, is_now, is_of, is_same_attempt, is_same_opening, is_usable, known_after, lane_by, lane_ended, lane_renewed, lane_unsure, left_by, newer}
use Rattle.dt_orders_model.specs.Stores.{Among, Name}
use Rattle.dt_orders_laws.proofs.Lists.{either_of}
use Rattle.dt_orders_world_laws.specs.Both.{AreAmong}
use Rattle.dt_orders_world_laws.specs.Clients.{Ended, Kept, Process, adopted_on, cancelled_on, ended_by, ended_on, heard_as, heard_on, kept_of, left_on, name_on, opened_on, put_at, recorded, with_lane}
use Rattle.dt_orders_world_laws.specs.Wires.{Reply, Sent}
use Rattle.dt_orders_world_laws.proofs.Hearings.{not_once, used_same}
use Rattle.dt_orders_world_laws.proofs.Holding.{IsGiven}
use Rattle.dt_orders_world_laws.proofs.Orderly.{IsCallOf, OrderOk, Orderly, fate_in, free_in, knows_in, lane_in, opened_in, recorded_in, same_in, stored_in, waits_in}
use Rattle.dt_orders_world_laws.proofs.Puts.{at_put, at_put_at, none_is, put_here, some_is}

abbrev pub MayBe : (Known → Type 0) → Option Known → Type 0
MayBe F None = Unit {0}
MayBe F (Some q) = F q

-- what is known, and what orders name
pub record MindIs (F : Known → Type 0) (q : Option Known) (lanes : ℕ → Lane) : Type 0 where
  pub known : MayBe F q
  pub orders : (lane : ℕ) (o : Order) → (lanes lane).order ≡ Some o → F o.since

-- A GOOD CLIENT: it is in order, `F` holds of each commit that it goes by, and `S` of each fate that it wrote
pub record Good (R : Sent → Known → Type 0) (F : Known → Type 0) (S : Ended → Type 0) (notes : List Note) (sent : List Sent) (p : Process) : Type 0 where
  pub orderly : Orderly R notes sent p
  pub mind : MindIs F p.client.known p.lanes
  pub stopped : MayBe F p.client.stopped
  pub store : (k : Kept) → Among k p.alive → MindIs F k.known k.lanes
  pub sealed : (e : Ended) → Among e p.fates → S e

-- a fate that was stored
pub record IsToldBy (p : Process) (e : Ended) : Type 0 where
  pub there : Among e p.fates
  pub kept : (k : Kept) → Among k p.alive → Among e k.fates

-- A STEP of a client: it stays good, and what was stored stays stored
pub record Steps (R : Sent → Known → Type 0) (F : Known → Type 0) (S : Ended → Type 0) (notes : List Note) (sent : List Sent) (p q : Process) : Type 0 where
  pub good : Good R F S notes sent q
  pub keeps : (e : Ended) → IsToldBy p e → IsToldBy q e

module _ (R : Sent → Known → Type 0) (F : Known → Type 0) (S : Ended → Type 0) (notes : List Note) (sent : List Sent) where
  abbrev Ok : Process → Type 0
  Ok = Good R F S notes sent

  pub same_ok : (p : Process) (lane : ℕ) (l : Lane) → Ok p → l.order ≡ (p.lanes lane).order → l.record_number ≡ (p.lanes lane).record_number → (l.is_fresh ≡ true → (p.lanes lane).is_fresh ≡ true) → Ok (with_lane p lane l)
  same_ok p lane l g order at fresh = record {
    orderly = same_in R notes sent p lane l g.orderly order at fresh;
    mind = record { known = g.mind.known; orders = at_put (λ n x. (o : Order) → x.order ≡ Some o → F o.since) p.lanes lane l (λ o e. g.mind.orders lane o (sym order ∙ e)) g.mind.orders };
    stopped = g.stopped;
    store = g.store;
    sealed = g.sealed;
  }

  pub silent_ok : (p : Process) (lane : ℕ) → Ok p → Ok (record p { waits = put_at p.waits lane None })
  silent_ok p lane g = record {
    orderly = waits_in R notes sent p lane None g.orderly (λ o e c is. absurd (none_is c is));
    mind = g.mind;
    stopped = g.stopped;
    store = g.store;
    sealed = g.sealed;
  }

  pub knows_ok : (p : Process) (client : Client) → Ok p → MayBe F client.known → MayBe F client.stopped → Ok (record p { client = client })
  knows_ok p client g known stopped = record {
    orderly = knows_in R notes sent p client g.orderly;
    mind = record { known = known; orders = g.mind.orders };
    stopped = stopped;
    store = g.store;
    sealed = g.sealed;
  }

  pub recorded_ok : (p : Process) → Ok p → Ok (recorded p)
  recorded_ok p g = record {
    orderly = recorded_in R notes sent p g.orderly;
    mind = g.mind;
    stopped = g.stopped;
    store = either_of (λ k. MindIs F k.known k.lanes) (kept_of p) p.alive g.mind g.store;
    sealed = g.sealed;
  }

  pub ended_ok : (p : Process) (lane : ℕ) → Ok p → Ok (ended_on p lane)
  ended_ok p lane g = silent_ok (with_lane p lane (lane_unsure (p.lanes lane))) lane (same_ok p lane (lane_unsure (p.lanes lane)) g refl refl (λ x. x))

  -- an order has its fate
  pub finished_ok : (p : Process) (lane : ℕ) (l : Lane) (o : Order) (e : Ended) → Ok p → (p.lanes lane).order ≡ Some o → l.order ≡ None → e.name ≡ name_on lane o → e.record_number ≡ p.number + 1 → IsGiven notes lane (p.lanes lane).order → S e → Ok (recorded (record p { lanes = put_at p.lanes lane l; fates = e ∷ p.fates }))
  finished_ok p lane l o e g is none name at given sealed =
      let x = g.orderly.lanes lane o is in
      let noted : IsGiven notes lane (Some o) = subst (λ (y : Option Order). IsGiven notes lane y) is given in
      recorded_ok (record p { lanes = put_at p.lanes lane l; fates = e ∷ p.fates }) (record {
        orderly = fate_in R notes sent (with_lane p lane l) e (free_in R notes sent p lane l g.orderly none)
            (at_put_at (λ n y. (z : Order) → y.order ≡ Some z → name_on n z ≢ e.name) p.lanes lane l (λ z f. absurd (none_is z (sym none ∙ f))) (λ n other z f same. other (ap (λ (m : Name). m.lane) (same ∙ name))))
            (λ f m same. x.over f m (sym name ∙ same))
            (record { note = record { name = name_on lane o; since = o.since }; there = noted; name = sym name; mine = subst (λ (m : Name). Among m.tag p.nonces) (sym name) x.mine }) at;
        mind = record { known = g.mind.known; orders = at_put (λ n y. (z : Order) → y.order ≡ Some z → F z.since) p.lanes lane l (λ z f. absurd (none_is z (sym none ∙ f))) g.mind.orders };
        stopped = g.stopped;
        store = g.store;
        sealed = either_of S e p.fates sealed g.sealed;
      })

  -- an order goes on from a newer commit
  pub renewed_ok : (p : Process) (lane : ℕ) (o : Order) (q : Known) → Ok p → (p.lanes lane).order ≡ Some o → p.waits lane ≡ None → ((s : Sent) → Among s sent → IsCallOf s (name_on lane o) → R s q) → F q → Ok (with_lane p lane (lane_renewed (p.lanes lane) o q (p.number + 1)))
  renewed_ok p lane o q g is silent later firm =
      let l = lane_renewed (p.lanes lane) o q (p.number + 1) in
      let x = g.orderly.lanes lane o is in
      let newer_order : Order = record o { since = q } in
      record {
        orderly = lane_in R notes sent p lane l g.orderly (λ y e. let same : newer_order ≡ y = some_is newer_order y e in
            subst (λ (z : Order). OrderOk R sent p.fates p.alive p.nonces (p.waits lane) lane (p.number + 1) (p.lanes lane).is_fresh z) same (record {
              over = x.over;
              kept = λ k m within. let most = (g.orderly.store k m).most in absurd (omega arith);
              newest = later;
              waiting = λ c e of. absurd (none_is c (sym silent ∙ e));
              uncalled = x.uncalled;
              mine = x.mine;
            }));
        mind = record { known = g.mind.known; orders = at_put (λ n y. (z : Order) → y.order ≡ Some z → F z.since) p.lanes lane l (λ z e. subst (λ (y : Order). F y.since) (some_is newer_order z e) firm) g.mind.orders };
        stopped = g.stopped;
        store = g.store;
        sealed = g.sealed;
      }

  pub adopted_ok : (p : Process) → Ok p → Ok (adopted_on p)
  adopted_ok p g = recorded_ok (record p { client = adopted_by p.client.stopped p.client }) (by p.client.stopped g.stopped)
    where
      by : (stopped : Option Known) → MayBe F stopped → Ok (record p { client = adopted_by stopped p.client })
      by None s = g
      by (Some q) s = knows_ok p (record p.client { known = Some q; stopped = None }) g s tt

  pub stored_ok : (p : Process) (stored : ℕ) (kept : List Kept) → Ok p → stored ≤ p.number → AreAmong kept p.alive → ((k : Kept) → Among k kept → stored ≤ k.number) → Ok (record p { stored = stored; alive = kept })
  stored_ok p stored kept g within some least = record {
    orderly = stored_in R notes sent p stored kept g.orderly within some least;
    mind = g.mind;
    stopped = g.stopped;
    store = λ k m. g.store k (some k m);
    sealed = g.sealed;
  }

  pub opened_ok : (p : Process) (k : Kept) (nonce : ℕ) → Ok p → Among k p.alive → Ok (opened_on p k nonce)
  opened_ok p k nonce g m = record {
    orderly = opened_in R notes sent p k nonce g.orderly m;
    mind = record { known = (g.store k m).known; orders = (g.store k m).orders };
    stopped = tt;
    store = either_of (λ z. MindIs F z.known z.lanes) k [] (g.store k m) (λ z n. elim n [ ]);
    sealed = λ e n. g.sealed e ((g.orderly.store k m).less e n);
  }

  -- what was stored stays, over what leaves the fates and the store, over a record, and over a fate more
  told_recorded : (p : Process) (e : Ended) → IsToldBy p e → IsToldBy (recorded p) e
  told_recorded p e t = record { there = t.there; kept = either_of (λ k. Among e k.fates) (kept_of p) p.alive t.there t.kept }

  told_if : (b : Bool) (p : Process) (e : Ended) → IsToldBy p e → IsToldBy (if b then recorded p else p) e
  told_if true p e t = told_recorded p e t
  told_if false p e t = t

  pub told_left : (p : Process) (lane : ℕ) (l : Lane) (f : Option Ended) (e : Ended) → IsToldBy p e → IsToldBy (left_on p lane l f) e
  told_left p lane l None e t = told_if (l.record_number == p.number + 1) (with_lane p lane l) e (record { there = t.there; kept = t.kept })
  told_left p lane l (Some f) e t = told_recorded (record p { lanes = put_at p.lanes lane l; fates = f ∷ p.fates }) e (record { there = inr t.there; kept = t.kept })

  if_ok : (b : Bool) (p : Process) → Ok p → Ok (if b then recorded p else p)
  if_ok true p g = recorded_ok p g
  if_ok false p g = g

  pub plain_ok : (p : Process) (lane : ℕ) (l : Lane) → Ok (with_lane p lane l) → Ok (left_on p lane l None)
  plain_ok p lane l g = if_ok (l.record_number == p.number + 1) (with_lane p lane l) g

  -- A CANCEL: `S` holds of a cancelled order that nobody called
  abbrev pub NeverCalled : Type 0
  NeverCalled = (e : Ended) → e.fate ≡ fate.Never → e.heard ≡ None → ((c : Sent) → Among c sent → IsCallOf c e.name → ⊥) → S e

  cancelled_fresh : (p : Process) (lane : ℕ) (o : Order) (t : Bool) → (p.lanes lane).is_fresh ≡ t → (p.lanes lane).order ≡ Some o → IsGiven notes lane (p.lanes lane).order → NeverCalled → Ok p → (let left : Left = (if t then record { lane = lane_ended (p.lanes lane) o 0; fate = Some fate.Never } else record { lane = record (p.lanes lane) { is_cancelled = true }; fate = None }) in Ok (left_on p lane left.lane (ended_by left.fate (Some o) lane (p.number + 1) [] None)))
  cancelled_fresh p lane o true fresh e given never g = finished_ok p lane (lane_ended (p.lanes lane) o 0) o (record { name = name_on lane o; fate = fate.Never; result = []; heard = None; record_number = p.number + 1 }) g e refl refl refl given (never _ refl refl ((g.orderly.lanes lane o e).uncalled fresh))
  cancelled_fresh p lane o false fresh e given never g = plain_ok p lane (record (p.lanes lane) { is_cancelled = true }) (same_ok p lane (record (p.lanes lane) { is_cancelled = true }) g refl refl (λ x. x))

  cancelled_case : (p : Process) (lane : ℕ) (o : Option Order) → (p.lanes lane).order ≡ o → IsGiven notes lane (p.lanes lane).order → NeverCalled → Ok p → (let left = cancelled_by o (p.lanes lane) in Ok (left_on p lane left.lane (ended_by left.fate o lane (p.number + 1) [] None)))
  cancelled_case p lane None e given never g = plain_ok p lane (p.lanes lane) (same_ok p lane (p.lanes lane) g refl refl (λ x. x))
  cancelled_case p lane (Some o) e given never g = cancelled_fresh p lane o (p.lanes lane).is_fresh refl e given never g

  pub cancelled_ok : (p : Process) (lane : ℕ) → IsGiven notes lane (p.lanes lane).order → NeverCalled → Ok p → Ok (cancelled_on p lane)
  cancelled_ok p lane given never g = cancelled_case p lane (p.lanes lane).order refl given never g

  -- AN ANSWER IS HEARD, whose word is so
  newer_ok : (known : Option Known) (q : Known) → MayBe F known → F q → F (newer known q)
  newer_ok None q k h = h
  newer_ok (Some known) q k h = by (is_same_opening known q && nat_le q.clock known.clock)
    where
      by : (t : Bool) → F (if t then known else q)
      by true = k
      by false = h

  -- what an answer's word brings about, of an order with its name
  abbrev pub EndedBy : Order → (lane at : ℕ) → Reply → Fate → Ended
  EndedBy o lane at r f = record { name = name_on lane o; fate = f; result = r.result; heard = Some r.answer.heard; record_number = at }

  abbrev pub Brings : Order → (lane at : ℕ) → Reply → Word → Type 0
  Brings o lane at r word.Done = S (EndedBy o lane at r fate.Done)
  Brings o lane at r word.Never = S (EndedBy o lane at r fate.Never)
  Brings o lane at r word.NotNow = (s : Sent) → Among s sent → IsCallOf s (name_on lane o) → R s r.answer.heard
  Brings o lane at r word.Old = S (EndedBy o lane at r fate.Unknown)
  Brings o lane at r word.Stale = S (EndedBy o lane at r fate.Unknown)
  Brings o lane at r word.AtWork = Unit {0}
  Brings o lane at r word.Forked = Unit {0}
  Brings o lane at r word.Hello = Unit {0}
  Brings o lane at r word.Told = Unit {0}

  module _ (p : Process) (lane : ℕ) (c : Called) (r : Reply) (g : Ok p) (given : IsGiven notes lane (p.lanes lane).order) (firm : F r.answer.heard) (once : p.client.is_once ≡ false) (brings : (o : Order) → (p.lanes lane).order ≡ Some o → is_of (Some o) c ≡ true → is_same_attempt c.attempt r.answer.attempt ≡ true → hearing_of p.client.known c r.answer ≡ hearing.Used → Brings o lane (p.number + 1) r r.answer.word) where
    abbrev listener : Process
    listener = record p { client = known_after p.client hearing.Used r.answer; waits = put_at p.waits lane None }

    listener_ok : Ok listener
    listener_ok = silent_ok (record p { client = known_after p.client hearing.Used r.answer }) lane (knows_ok p (known_after p.client hearing.Used r.answer) g (newer_ok p.client.known r.answer.heard g.mind.known firm) g.stopped)

    silent : put_at p.waits lane None lane ≡ None
    silent = put_here p.waits lane None

    abbrev LeftBy : Option Order → Lane → Option Fate → Type 0
    LeftBy o l f = Ok (left_on listener lane l (ended_by f o lane (p.number + 1) r.result (Some r.answer.heard)))

    ends_with : (o : Order) (above : ℕ) (f : Fate) → (p.lanes lane).order ≡ Some o → S (EndedBy o lane (p.number + 1) r f) → LeftBy (Some o) (lane_ended (p.lanes lane) o above) (Some f)
    ends_with o above f is sealed = finished_ok listener lane (lane_ended (p.lanes lane) o above) o (EndedBy o lane (p.number + 1) r f) listener_ok is refl refl refl given sealed

    waits_with : (o : Option Order) → LeftBy o (lane_unsure (p.lanes lane)) None
    waits_with o = plain_ok listener lane (lane_unsure (p.lanes lane)) (same_ok listener lane (lane_unsure (p.lanes lane)) listener_ok refl refl (λ x. x))

    used_word : (o : Order) (w : Word) → (p.lanes lane).order ≡ Some o → Brings o lane (p.number + 1) r w → LeftBy (Some o) (lane_by (effect_of w false) p.client.nonce (p.lanes lane) o (record r.answer { word = w }) (p.number + 1)) (fate_by (effect_of w false))
    used_word o word.Done is b = ends_with o 0 fate.Done is b
    used_word o word.Never is b = ends_with o 0 fate.Never is b
    used_word o word.Old is b = ends_with o 0 fate.Unknown is b
    used_word o word.Stale is b = ends_with o r.answer.value fate.Unknown is b
    used_word o word.NotNow is b = plain_ok listener lane (lane_renewed (p.lanes lane) o r.answer.heard (p.number + 1)) (renewed_ok listener lane o r.answer.heard listener_ok is silent b firm)
    used_word o word.AtWork is b = waits_with (Some o)
    used_word o word.Forked is b = waits_with (Some o)
    used_word o word.Hello is b = waits_with (Some o)
    used_word o word.Told is b = waits_with (Some o)

    used_case : (t : Bool) (o : Option Order) → (p.lanes lane).order ≡ o → is_of o c ≡ t → is_same_attempt c.attempt r.answer.attempt ≡ true → hearing_of p.client.known c r.answer ≡ hearing.Used → (let left = left_by t o p.client.nonce (p.lanes lane) (effect_of r.answer.word false) r.answer (p.number + 1) in LeftBy o left.lane left.fate)
    used_case true (Some o) is of same used = used_word o r.answer.word is (brings o is of same used)
    used_case true None is of same used = waits_with None
    used_case false None is of same used = waits_with None
    used_case false (Some o) is of same used = waits_with (Some o)

    heard_case : (h : Hearing) → hearing_of p.client.known c r.answer ≡ h → Steps R F S notes sent p (heard_as h p lane c r)
    heard_case hearing.Strange e = record { good = ended_ok p lane g; keeps = λ f t. record { there = t.there; kept = t.kept } }
    heard_case hearing.Unsure e = record { good = ended_ok p lane g; keeps = λ f t. record { there = t.there; kept = t.kept } }
    heard_case hearing.Alarm e = record { good = knows_ok (ended_on p lane) (known_after p.client hearing.Alarm r.answer) (ended_ok p lane g) g.mind.known firm; keeps = λ f t. record { there = t.there; kept = t.kept } }
    heard_case hearing.Used e =
        let same = used_same (is_same_attempt c.attempt r.answer.attempt) (if is_fork r.answer.word then (if is_now p.client.known c.knows then hearing.Alarm else hearing.Unsure) else if is_usable p.client.known c.knows r.answer.heard then hearing.Used else hearing.Unsure) e in
        let good = subst (λ (x : Bool). let left = left_by (is_of (p.lanes lane).order c) (p.lanes lane).order p.client.nonce (p.lanes lane) (effect_of r.answer.word x) r.answer (p.number + 1) in LeftBy (p.lanes lane).order left.lane left.fate) (not_once c.is_only p.client.is_once once)
        (used_case (is_of (p.lanes lane).order c) (p.lanes lane).order refl refl same e) in
        record { good = good; keeps = λ f t. told_left listener lane _ _ f (record { there = t.there; kept = t.kept }) }

    pub heard_ok : Steps R F S notes sent p (heard_on p lane c r)
    heard_ok = heard_case (hearing_of p.client.known c r.answer) refl
