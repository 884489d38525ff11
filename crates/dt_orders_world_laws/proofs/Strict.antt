-- Where the server is strict and its store may be set back: each step of a client.
use Rattle.std.proofs.Common.{◌≡◌, ◌≢◌, ◌+◌, ◌≤◌, ◌∙◌, ℕ, List, [], ◌∷◌, Bool, true, false, ◌⊎◌, inl, inr, ap, sym, subst, arith, refl}
use Rattle.std.specs.Prelude.{◌==◌, ◌&&◌, ◌||◌, nat_le, if◌then◌else◌, Option, Some, None}
use Rattle.std.proofs.lemmas.Bool.Decides.{nat_tests}
use Rattle.dt_orders_model.specs.declared.knowledge.Known.{Known}
use Rattle.dt_orders_model.specs.declared.lanes.Attempt.{Attempt}
use Rattle.dt_orders_model.specs.declared.lanes.Called.{Called}
use Rattle.dt_orders_model.specs.declared.lanes.Client.{Client}
use Rattle.dt_orders_model.specs.declared.lanes.Fate.{Fate}
use Rattle.dt_orders_model.specs.declared.lanes.Fate.TheVariants as fate
use Rattle.dt_orders_model.specs.declared.lanes.Hearing.{Hearing}
use Rattle.dt_orders_model.specs.declared.lanes.Hearing.TheVariants as hearing
use Rattle.dt_orders_model.specs.declared.lanes.Lane.{Lane}
use Rattle.dt_orders_model.specs.declared.lanes.Order.{Order}
use Rattle.dt_orders_model.specs.declared.lanes.Word.{Word}
use Rattle.dt_orders_model.specs.declared.lanes.Word.TheVariants as word
use Rattle.dt_orders_model.specs.Closing.{IsClosed}
use Rattle.dt_orders_model.specs.Fates.{WasWithdrawn}
use Rattle.dt_orders_model.specs.Histories.{Note, noted}
use Rattle.dt_orders_model.specs.Judging.{is_ask, is_met}
use Rattle.dt_orders_model.specs.Lanes.{adopted_by, call_of, given_of, hearing_of, is_ask_call, is_fork, is_now, is_of, is_same_attempt, is_same_opening, is_usable, known_after, newer}
use Rattle.dt_orders_model.specs.Stores.{Among, Name, Store, row_of, shared}
use Rattle.dt_orders_laws.proofs.Lists.{either_of}
use Rattle.dt_orders_laws.proofs.Settling.{closed_lower}
use Rattle.dt_orders_world_laws.specs.Both.{AreAmong, Both, IsFresh, MayAsk, Rules, Runs, Step, Told, adopts, asks, begins, calls, cancels, dies, ends, first_both, gives, handles, hears, leaves, makes, opens, restores, set_back, stores, syncs, tells, with_client, works}
use Rattle.dt_orders_world_laws.specs.Both as both
use Rattle.dt_orders_world_laws.specs.Clients.{Ended, Kept, Process, adopted_on, asked_on, attempt_of, called_on, cancelled_on, heard_as, heard_on, left_on, name_on, noted_on, opened_on, put_at, question_of, recorded, with_lane}
use Rattle.dt_orders_world_laws.specs.Wires.{Reply, Sent, name_of}
use Rattle.dt_orders_world_laws.proofs.Asking.{asks_not}
use Rattle.dt_orders_world_laws.proofs.Facing.{AnyCommit, Beside, FacingGood, Faces, InTurn, Knows, MetBy, SaysNow, Shut, ShutAs, handled_faces, opened_faces, same_server_faces, works_faces}
use Rattle.dt_orders_world_laws.proofs.Firm.{on_shared}
use Rattle.dt_orders_world_laws.proofs.Good.{Brings, IsToldBy, Steps, adopted_ok, cancelled_ok, ended_ok, heard_ok, opened_ok, stored_ok, told_left}
use Rattle.dt_orders_world_laws.proofs.Hearings.{alarm_tests, used_same, used_tests}
use Rattle.dt_orders_world_laws.proofs.Holding.{Holds}
use Rattle.dt_orders_world_laws.proofs.Keeping.{its_call, its_name}
use Rattle.dt_orders_world_laws.proofs.Noting.{asker_good, beside_question, its_lane, its_note, maker_is, noted_good, noter_good, other_good, others_tag, told_noted}
use Rattle.dt_orders_world_laws.proofs.Orderly.{IsCallOf, OrderOk}
use Rattle.dt_orders_world_laws.proofs.Puts.{apart, at_put, at_put_at, none_is, some_is}
use Rattle.dt_orders_world_laws.proofs.Stepping.{call_is, gave_is, holds_of, nonces_cancelled, nonces_heard, step_holds}

-- A CLIENT STEPS by itself, in the same life
pub client_faces : (w : Both) (i : ℕ) (q : Process) → Faces w → Steps (Beside w.server.present) AnyCommit (Shut w.server.present w.sent) w.server.notes w.sent (w.clients i) q → q.client.nonce ≡ (w.clients i).client.nonce → q.nonces ≡ (w.clients i).nonces → ((lane : ℕ) (c : Called) → q.waits lane ≡ Some c → c.attempt.nonce ≡ (w.clients i).client.nonce) → ((d : Sent) → Among d w.sent → MetBy d w.server.present.opening.nonce → Knows w.server.present.opening.nonce (w.clients i).client → Knows w.server.present.opening.nonce q.client) → Faces (with_client w i q)
client_faces w i q x s nonce nonces waits life = record {
  made = x.made;
  since = at_put (λ j y. (r : Reply) → Among r w.made → r.call.called.attempt.nonce ≡ y.client.nonce → (d : Sent) → Among d w.sent → is_ask d.called.kind ≡ false → Among d.called.tag y.nonces → Among d r.before ⊎ (d.called.attempt.nonce ≡ y.client.nonce)) w.clients i q
      (λ r m e d n k tag. subst (λ (y : ℕ). Among d r.before ⊎ (d.called.attempt.nonce ≡ y)) (sym nonce) (x.since i r m (e ∙ nonce) d n k (subst (λ (y : List ℕ). Among d.called.tag y) nonces tag))) x.since;
  life = at_put (λ j y. (d : Sent) → Among d w.sent → is_ask d.called.kind ≡ false → d.called.attempt.nonce ≡ y.client.nonce → MetBy d w.server.present.opening.nonce → Knows w.server.present.opening.nonce y.client) w.clients i q
      (λ d m k e met. life d m met (x.life i d m k (e ∙ nonce) met)) x.life;
  waits = at_put (λ j y. (lane : ℕ) (c : Called) → y.waits lane ≡ Some c → c.attempt.nonce ≡ y.client.nonce) w.clients i q (λ lane c e. waits lane c e ∙ sym nonce) x.waits;
  each = at_put (λ j y. FacingGood w.server w.sent y) w.clients i q s.good x.each;
  told = λ t m. at_put (λ j y. IsToldBy (w.clients j) t.ended → IsToldBy y t.ended) w.clients i q (s.keeps t.ended) (λ j y. y) t.client (x.told t m);
}

-- a lane on which no call waits any more
silent_waits : (w : Both) (i lane : ℕ) → Faces w → (n : ℕ) (c : Called) → put_at (w.clients i).waits lane None n ≡ Some c → c.attempt.nonce ≡ (w.clients i).client.nonce
silent_waits w i lane x = at_put (λ n y. (c : Called) → y ≡ Some c → c.attempt.nonce ≡ (w.clients i).client.nonce) (w.clients i).waits lane None (λ c e. absurd (none_is c e)) (x.waits i)

-- A NEW LIFE
dies_faces : (w : Both) (i nonce : ℕ) (k : Kept) → Holds w → Faces w → Among k (w.clients i).alive → IsFresh nonce w.clients → Faces (with_client w i (opened_on (w.clients i) k nonce))
dies_faces w i nonce k h x m fresh = record {
  made = x.made;
  since = at_put (λ j y. (r : Reply) → Among r w.made → r.call.called.attempt.nonce ≡ y.client.nonce → (d : Sent) → Among d w.sent → is_ask d.called.kind ≡ false → Among d.called.tag y.nonces → Among d r.before ⊎ (d.called.attempt.nonce ≡ y.client.nonce)) w.clients i (opened_on (w.clients i) k nonce)
      (λ r n e d o a tag. absurd (not_its r.call (h.made r n).call e)) x.since;
  life = at_put (λ j y. (d : Sent) → Among d w.sent → is_ask d.called.kind ≡ false → d.called.attempt.nonce ≡ y.client.nonce → MetBy d w.server.present.opening.nonce → Knows w.server.present.opening.nonce y.client) w.clients i (opened_on (w.clients i) k nonce)
      (λ d n a e met. absurd (not_its d n e)) x.life;
  waits = at_put (λ j y. (lane : ℕ) (c : Called) → y.waits lane ≡ Some c → c.attempt.nonce ≡ y.client.nonce) w.clients i (opened_on (w.clients i) k nonce) (λ lane c e. absurd (none_is c e)) x.waits;
  each = at_put (λ j y. FacingGood w.server w.sent y) w.clients i (opened_on (w.clients i) k nonce) (opened_ok (Beside w.server.present) AnyCommit (Shut w.server.present w.sent) w.server.notes w.sent (w.clients i) k nonce (x.each i) m) x.each;
  told = λ t n. at_put (λ j y. IsToldBy (w.clients j) t.ended → IsToldBy y t.ended) w.clients i (opened_on (w.clients i) k nonce)
      (λ y. record { there = y.kept k m; kept = either_of (λ z. Among t.ended z.fates) k [] (y.kept k m) (λ z o. elim o [ ]) }) (λ j y. y) t.client (x.told t n);
}
  where
    not_its : (d : Sent) → Among d w.sent → d.called.attempt.nonce ≡ nonce → ⊥
    not_its d n e = let o = h.callers d n in fresh o.client (subst (λ (y : ℕ). Among y (w.clients o.client).nonces) e o.there)

-- what is left of a lane leaves the rest
left_client : (q : Process) (lane : ℕ) (l : Lane) (e : Option Ended) → (left_on q lane l e).client ≡ q.client
left_client q lane l None = by (l.record_number == q.number + 1)
  where
    by : (t : Bool) → (if t then recorded (with_lane q lane l) else with_lane q lane l).client ≡ q.client
    by true = refl
    by false = refl
left_client q lane l (Some e) = refl

left_waits : (q : Process) (lane : ℕ) (l : Lane) (e : Option Ended) → (left_on q lane l e).waits ≡ q.waits
left_waits q lane l None = by (l.record_number == q.number + 1)
  where
    by : (t : Bool) → (if t then recorded (with_lane q lane l) else with_lane q lane l).waits ≡ q.waits
    by true = refl
    by false = refl
left_waits q lane l (Some e) = refl

cancelled_client : (p : Process) (lane : ℕ) → (cancelled_on p lane).client ≡ p.client
cancelled_client p lane = left_client p lane _ _

pub cancelled_waits : (p : Process) (lane : ℕ) → (cancelled_on p lane).waits ≡ p.waits
cancelled_waits p lane = left_waits p lane _ _

abbrev listener : Process → ℕ → Reply → Process
listener p lane r = record p { client = known_after p.client hearing.Used r.answer; waits = put_at p.waits lane None }

heard_client : (p : Process) (lane : ℕ) (c : Called) (r : Reply) (y : Hearing) → (heard_as y p lane c r).client ≡ known_after p.client y r.answer
heard_client p lane c r hearing.Strange = refl
heard_client p lane c r hearing.Unsure = refl
heard_client p lane c r hearing.Alarm = refl
heard_client p lane c r hearing.Used = left_client (listener p lane r) lane _ _

pub heard_waits : (p : Process) (lane : ℕ) (c : Called) (r : Reply) (y : Hearing) → (heard_as y p lane c r).waits ≡ put_at p.waits lane None
heard_waits p lane c r hearing.Strange = refl
heard_waits p lane c r hearing.Unsure = refl
heard_waits p lane c r hearing.Alarm = refl
heard_waits p lane c r hearing.Used = left_waits (listener p lane r) lane _ _

after_nonce : (p : Process) (r : Reply) (y : Hearing) → (known_after p.client y r.answer).nonce ≡ p.client.nonce
after_nonce p r hearing.Strange = refl
after_nonce p r hearing.Unsure = refl
after_nonce p r hearing.Alarm = refl
after_nonce p r hearing.Used = refl

-- AN ANSWER IS HEARD by the call that waits
module _ (w : Both) (h : Holds w) (x : Faces w) (i lane : ℕ) (c : Called) (r : Reply) (m : Among r w.left) (waiting : (w.clients i).waits lane ≡ Some c) where
  abbrev p : Process
  p = w.clients i

  abbrev now_nonce : ℕ
  now_nonce = w.server.present.opening.nonce

  turn : InTurn w.server.present w.sent r
  turn = x.made r (h.left r m)

  call : is_same_attempt c.attempt r.answer.attempt ≡ true → r.call ≡ record { lane = lane; called = c }
  call same = its_call w.server.notes w.server.past w.sent p lane c r (h.each i) (h.made r (h.left r m)) waiting h.alone same

  -- the call carried what is known now, of the present opening
  met_now : (k : Known) (knows : Option Known) → is_now (Some k) knows ≡ true → k.nonce ≡ now_nonce → is_met now_nonce knows ≡ true
  met_now k None now e = cc
  met_now k (Some q) now e = let same : k.nonce ≡ q.nonce = grind (arith, nat_tests) in let it : q.nonce ≡ now_nonce = sym same ∙ e in grind (arith, nat_tests)

  now_nonce_of : is_same_attempt c.attempt r.answer.attempt ≡ true → (k : Known) → is_now (Some k) c.knows ≡ true → k.nonce ≡ now_nonce → r.answer.heard.nonce ≡ now_nonce
  now_nonce_of same k now e = by turn.turn
    where
      by : (r.answer.heard.nonce ≡ now_nonce) ⊎ ((d : Sent) → Among d r.before → MetBy d now_nonce → ⊥) → r.answer.heard.nonce ≡ now_nonce
      by (inl y) = y
      by (inr none) = absurd (none r.call turn.own (subst (λ (d : Sent). MetBy d now_nonce) (sym (call same)) (met_now k c.knows now e)))

  either_true : (a b : Bool) → (a || b) ≡ true → (a ≡ true) ⊎ (b ≡ true)
  either_true true b e = inl refl
  either_true false b e = inr e

  -- an answer that is used, by a client that knows of the present opening, is of that
  used_nonce : hearing_of p.client.known c r.answer ≡ hearing.Used → Knows now_nonce p.client → r.answer.heard.nonce ≡ now_nonce
  used_nonce used k =
      let usable = used_tests (is_same_attempt c.attempt r.answer.attempt) (is_fork r.answer.word) (is_now p.client.known c.knows) (is_usable p.client.known c.knows r.answer.heard) used in
      let same = used_same (is_same_attempt c.attempt r.answer.attempt) _ used in
      by same (either_true (is_same_opening k.known r.answer.heard) (is_now (Some k.known) c.knows) (subst (λ (y : Option Known). is_usable y c.knows r.answer.heard ≡ true) k.is usable))
    where
      by : is_same_attempt c.attempt r.answer.attempt ≡ true → (is_same_opening k.known r.answer.heard ≡ true) ⊎ (is_now (Some k.known) c.knows ≡ true) → r.answer.heard.nonce ≡ now_nonce
      by same (inl y) = let e : k.known.nonce ≡ r.answer.heard.nonce = grind (arith, nat_tests) in sym e ∙ k.nonce_is
      by same (inr y) = now_nonce_of same k.known y k.nonce_is

  alarm_nonce : hearing_of p.client.known c r.answer ≡ hearing.Alarm → Knows now_nonce p.client → r.answer.heard.nonce ≡ now_nonce
  alarm_nonce alarm k =
      let tests = alarm_tests (is_same_attempt c.attempt r.answer.attempt) (is_fork r.answer.word) (is_now p.client.known c.knows) (is_usable p.client.known c.knows r.answer.heard) alarm in
      now_nonce_of tests.0 k.known (subst (λ (y : Option Known). is_now y c.knows ≡ true) k.is tests.1) k.nonce_is

  newer_nonce : (known : Option Known) (k : Known) → known ≡ Some k → k.nonce ≡ now_nonce → r.answer.heard.nonce ≡ now_nonce → (newer known r.answer.heard).nonce ≡ now_nonce
  newer_nonce None k e one two = absurd (none_is k e)
  newer_nonce (Some y) k e one two = by (is_same_opening y r.answer.heard && nat_le r.answer.heard.clock y.clock)
    where
      by : (t : Bool) → (if t then y else r.answer.heard).nonce ≡ now_nonce
      by true = ap (λ (z : Known). z.nonce) (some_is y k e) ∙ one
      by false = two

  knows_after : (y : Hearing) → hearing_of p.client.known c r.answer ≡ y → Knows now_nonce p.client → Knows now_nonce (known_after p.client y r.answer)
  knows_after hearing.Strange e k = k
  knows_after hearing.Unsure e k = k
  knows_after hearing.Alarm e k = record { known = k.known; is = k.is; nonce_is = k.nonce_is; stopped = λ q is. ap (λ (y : Known). y.nonce) (sym (some_is r.answer.heard q is)) ∙ alarm_nonce e k }
  knows_after hearing.Used e k = record { known = newer p.client.known r.answer.heard; is = refl; nonce_is = newer_nonce p.client.known k.known k.is k.nonce_is (used_nonce e k); stopped = k.stopped }

  -- what it brings about
  module _ (o : Order) (is : (p.lanes lane).order ≡ Some o) (of : is_of (Some o) c ≡ true) (same : is_same_attempt c.attempt r.answer.attempt ≡ true) (used : hearing_of p.client.known c r.answer ≡ hearing.Used) where
    name : name_of r.call ≡ name_on lane o
    name = its_name w.server.notes w.server.past w.sent p lane c r (h.each i) (h.made r (h.left r m)) waiting h.alone o same of

    ok : OrderOk (Beside w.server.present) w.sent p.fates p.alive p.nonces (p.waits lane) lane (p.lanes lane).record_number (p.lanes lane).is_fresh o
    ok = (x.each i).orderly.lanes lane o is

    since : r.call.called.since ≡ o.since
    since = ap (λ (s : Sent). s.called.since) (call same) ∙ ok.waiting c waiting of

    not_ask : is_ask r.call.called.kind ≡ false
    not_ask = subst (λ (s : Sent). is_ask s.called.kind ≡ false) (sym (call same)) (asks_not o c (is_ask_call c.kind) refl of)

    -- a call of the order that knows of the present opening was answered in it
    in_turn : (d : Sent) → Among d w.sent → IsCallOf d (name_on lane o) → MetBy d now_nonce → r.answer.heard.nonce ≡ now_nonce
    in_turn d n d_is met = by turn.turn
      where
        tag : Among d.called.tag p.nonces
        tag = subst (λ (y : Name). Among y.tag p.nonces) (sym d_is.name) ok.mine

        its : r.call.called.attempt.nonce ≡ p.client.nonce
        its = ap (λ (s : Sent). s.called.attempt.nonce) (call same) ∙ x.waits i lane c waiting

        late : Among d r.before ⊎ (d.called.attempt.nonce ≡ p.client.nonce) → ((e : Sent) → Among e r.before → MetBy e now_nonce → ⊥) → r.answer.heard.nonce ≡ now_nonce
        late (inl before) none = absurd (none d before met)
        late (inr mine) none = used_nonce used (x.life i d n d_is.kind mine met)

        by : (r.answer.heard.nonce ≡ now_nonce) ⊎ ((e : Sent) → Among e r.before → MetBy e now_nonce → ⊥) → r.answer.heard.nonce ≡ now_nonce
        by (inl y) = y
        by (inr none) = late (x.since i r (h.left r m) its d n d_is.kind tag) none

    -- and isn't newer than the answered one
    less : (d : Sent) → Among d w.sent → IsCallOf d (name_on lane o) → MetBy d now_nonce → shared d.called.since w.server.present ≤ shared r.call.called.since w.server.present
    less d n d_is met = subst (λ (q : Known). shared d.called.since w.server.present ≤ shared q w.server.present) (sym since) (ok.newest d n d_is d_is.kind met)

    closes : ((d : Sent) → Among d w.sent → IsCallOf d (name_on lane o) → MetBy d now_nonce → IsClosed w.server.present.horizon (row_of (w.server.present.rows r.call.lane)) r.call.called.number (shared r.call.called.since w.server.present)) → (d : Sent) → Among d w.sent → IsCallOf d (name_on lane o) → MetBy d now_nonce → IsClosed w.server.present.horizon (row_of (w.server.present.rows lane)) o.number (shared d.called.since w.server.present)
    closes at d n d_is met =
        let there : IsClosed w.server.present.horizon (row_of (w.server.present.rows lane)) o.number (shared r.call.called.since w.server.present) = subst (λ (y : Name). IsClosed w.server.present.horizon (row_of (w.server.present.rows y.lane)) y.number (shared r.call.called.since w.server.present)) name (at d n d_is met) in
        closed_lower w.server.present.horizon (row_of (w.server.present.rows lane)) o.number (shared r.call.called.since w.server.present) (shared d.called.since w.server.present) (less d n d_is met) there

    abbrev BringsNow : Word → Type 0
    BringsNow said = Brings (Beside w.server.present) AnyCommit (Shut w.server.present w.sent) w.server.notes w.sent o lane (p.number + 1) r said

    brings_by : (said : Word) → r.answer.word ≡ said → BringsNow said
    brings_by word.Never e = λ d n d_is met. subst (λ (y : Name). WasWithdrawn w.server.present y) name (subst (λ (y : Word). SaysNow w.server.present r.call y) e (turn.now (in_turn d n d_is met) not_ask).says)
    brings_by word.Old e = closes (λ d n d_is met. subst (λ (y : Word). SaysNow w.server.present r.call y) e (turn.now (in_turn d n d_is met) not_ask).says)
    brings_by word.Stale e = closes (λ d n d_is met. subst (λ (y : Word). SaysNow w.server.present r.call y) e (turn.now (in_turn d n d_is met) not_ask).says)
    brings_by word.NotNow e = λ d n d_is kind met.
        let now = turn.now (in_turn d n d_is met) not_ask in
        let a = less d n d_is met in
        let b = now.since in
        let c = on_shared r.answer.heard w.server.present now.on in
        omega arith
    brings_by word.Done e = tt
    brings_by word.AtWork e = tt
    brings_by word.Forked e = tt
    brings_by word.Hello e = tt
    brings_by word.Told e = tt

    brings : BringsNow r.answer.word
    brings = brings_by r.answer.word refl

  pub hears_faces : Faces (with_client w i (heard_on p lane c r))
  hears_faces =
      let y = hearing_of p.client.known c r.answer in
      client_faces w i (heard_on p lane c r) x
      (heard_ok (Beside w.server.present) AnyCommit (Shut w.server.present w.sent) w.server.notes w.sent p lane c r (x.each i) ((h.each i).mind.orders lane) tt (h.each i).once brings)
      (ap (λ (z : Client). z.nonce) (heard_client p lane c r y) ∙ after_nonce p r y)
      (nonces_heard p lane c r)
      (λ n d e. silent_waits w i lane x n d (sym (ap (λ (f : ℕ → Option Called). f n) (heard_waits p lane c r y)) ∙ e))
      (λ d n met k. subst (λ (z : Client). Knows now_nonce z) (sym (heard_client p lane c r y)) (knows_after y refl k))

-- A CANCEL
cancels_faces : (w : Both) (i lane : ℕ) → Holds w → Faces w → Faces (with_client w i (cancelled_on (w.clients i) lane))
cancels_faces w i lane h x =
    let p = w.clients i in
    let client = cancelled_client p lane in
    client_faces w i (cancelled_on p lane) x
    (record {
      good = cancelled_ok (Beside w.server.present) AnyCommit (Shut w.server.present w.sent) w.server.notes w.sent p lane ((h.each i).mind.orders lane) (λ e never heard none. subst (λ (f : Fate). ShutAs w.server.present w.sent e f) (sym never) (λ d m is met. absurd (none d m is))) (x.each i);
      keeps = λ e t. told_left (Beside w.server.present) AnyCommit (Shut w.server.present w.sent) w.server.notes w.sent p lane _ _ e t;
    })
    (ap (λ (z : Client). z.nonce) client) (nonces_cancelled p lane)
    (λ n c e. x.waits i n c (sym (ap (λ (f : ℕ → Option Called). f n) (cancelled_waits p lane)) ∙ e))
    (λ d m met k. subst (λ (z : Client). Knows w.server.present.opening.nonce z) (sym client) k)

-- AN ALARM IS ADOPTED
adopts_faces : (w : Both) (i : ℕ) → Faces w → Faces (with_client w i (adopted_on (w.clients i)))
adopts_faces w i x =
    let p = w.clients i in
    client_faces w i (adopted_on p) x
    (record { good = adopted_ok (Beside w.server.present) AnyCommit (Shut w.server.present w.sent) w.server.notes w.sent p (x.each i); keeps = λ e t. record { there = t.there; kept = either_of (λ y. Among e y.fates) _ p.alive t.there t.kept } })
    (same_nonce p.client p.client.stopped) refl (x.waits i) (λ d m met k. adopted p.client p.client.stopped refl k)
  where
    same_nonce : (c : Client) (s : Option Known) → (adopted_by s c).nonce ≡ c.nonce
    same_nonce c None = refl
    same_nonce c (Some q) = refl

    adopted : (c : Client) (s : Option Known) → c.stopped ≡ s → Knows w.server.present.opening.nonce c → Knows w.server.present.opening.nonce (adopted_by s c)
    adopted c None e k = k
    adopted c (Some q) e k = record { known = q; is = refl; nonce_is = k.stopped q e; stopped = λ y is. absurd (none_is y is) }

-- A CALL MORE
shut_more : (s : Store) (sent : List Sent) (d : Sent) (e : Ended) (f : Fate) → (IsCallOf d e.name → ⊥) → ShutAs s sent e f → ShutAs s (d ∷ sent) e f
shut_more s sent d e fate.Done other y = tt
shut_more s sent d e fate.Never other y = either_of (λ c. IsCallOf c e.name → MetBy c s.opening.nonce → WasWithdrawn s e.name) d sent (λ is met. absurd (other is)) y
shut_more s sent d e fate.Unknown other y = either_of (λ c. IsCallOf c e.name → MetBy c s.opening.nonce → IsClosed s.horizon (row_of (s.rows e.name.lane)) e.name.number (shared c.called.since s)) d sent (λ is met. absurd (other is)) y

makes_faces : (w : Both) (i lane : ℕ) (s : Sent) (q : Process) → Holds w → Faces w → s.called.attempt ≡ attempt_of (w.clients i) → q.client ≡ (w.clients i).client → q.nonces ≡ (w.clients i).nonces → q.waits ≡ put_at (w.clients i).waits lane (Some s.called) → FacingGood w.server (s ∷ w.sent) q → ((e : Ended) → IsToldBy (w.clients i) e → IsToldBy q e) → ((j : ℕ) → j ≢ i → FacingGood w.server (s ∷ w.sent) (w.clients j)) → ((j : ℕ) → j ≢ i → is_ask s.called.kind ≡ false → Among s.called.tag (w.clients j).nonces → ⊥) → (is_ask s.called.kind ≡ false → MetBy s w.server.present.opening.nonce → Knows w.server.present.opening.nonce (w.clients i).client) → Faces (makes w i q s)
makes_faces w i lane s q h x by client nonces waits good keeps others not_theirs knows = record {
  made = λ r m. let y = x.made r m in record { own = y.own; seen = λ d n. inr (y.seen d n); turn = y.turn; now = y.now };
  since = at_put_at (λ j y. (r : Reply) → Among r w.made → r.call.called.attempt.nonce ≡ y.client.nonce → (d : Sent) → Among d (s ∷ w.sent) → is_ask d.called.kind ≡ false → Among d.called.tag y.nonces → Among d r.before ⊎ (d.called.attempt.nonce ≡ y.client.nonce)) w.clients i q
      (λ r m e. either_of (λ d. is_ask d.called.kind ≡ false → Among d.called.tag q.nonces → Among d r.before ⊎ (d.called.attempt.nonce ≡ q.client.nonce)) s w.sent (λ k tag. inr (its_nonce ∙ sym nonce))
      (λ d n k tag. subst (λ (y : ℕ). Among d r.before ⊎ (d.called.attempt.nonce ≡ y)) (sym nonce) (x.since i r m (e ∙ nonce) d n k (subst (λ (y : List ℕ). Among d.called.tag y) nonces tag))))
      (λ j other r m e. either_of (λ d. is_ask d.called.kind ≡ false → Among d.called.tag (w.clients j).nonces → Among d r.before ⊎ (d.called.attempt.nonce ≡ (w.clients j).client.nonce)) s w.sent (λ k tag. absurd (not_theirs j other k tag)) (x.since j r m e));
  life = at_put_at (λ j y. (d : Sent) → Among d (s ∷ w.sent) → is_ask d.called.kind ≡ false → d.called.attempt.nonce ≡ y.client.nonce → MetBy d w.server.present.opening.nonce → Knows w.server.present.opening.nonce y.client) w.clients i q
      (either_of (λ d. is_ask d.called.kind ≡ false → d.called.attempt.nonce ≡ q.client.nonce → MetBy d w.server.present.opening.nonce → Knows w.server.present.opening.nonce q.client) s w.sent
      (λ k e met. subst (λ (y : Client). Knows w.server.present.opening.nonce y) (sym client) (knows k met))
      (λ d m k e met. subst (λ (y : Client). Knows w.server.present.opening.nonce y) (sym client) (x.life i d m k (e ∙ nonce) met)))
      (λ j other. either_of (λ d. is_ask d.called.kind ≡ false → d.called.attempt.nonce ≡ (w.clients j).client.nonce → MetBy d w.server.present.opening.nonce → Knows w.server.present.opening.nonce (w.clients j).client) s w.sent
      (λ k e met. absurd (other (h.apart j i s.called.attempt.nonce (subst (λ (y : ℕ). Among y (w.clients j).nonces) (sym e) (h.each j).own) (subst (λ (y : ℕ). Among y (w.clients i).nonces) (sym its_nonce) (h.each i).own))))
      (x.life j));
  waits = at_put (λ j y. (n : ℕ) (c : Called) → y.waits n ≡ Some c → c.attempt.nonce ≡ y.client.nonce) w.clients i q
      (λ n c e. at_put (λ m y. (d : Called) → y ≡ Some d → d.attempt.nonce ≡ q.client.nonce) (w.clients i).waits lane (Some s.called)
      (λ d is. ap (λ (y : Called). y.attempt.nonce) (sym (some_is s.called d is)) ∙ (its_nonce ∙ sym nonce))
      (λ m d is. x.waits i m d is ∙ sym nonce) n c (sym (ap (λ (f : ℕ → Option Called). f n) waits) ∙ e)) x.waits;
  each = at_put_at (λ j y. FacingGood w.server (s ∷ w.sent) y) w.clients i q good others;
  told = λ t m. at_put (λ j y. IsToldBy (w.clients j) t.ended → IsToldBy y t.ended) w.clients i q (keeps t.ended) (λ j y. y) t.client (x.told t m);
}
  where
    its_nonce : s.called.attempt.nonce ≡ (w.clients i).client.nonce
    its_nonce = ap (λ (a : Attempt). a.nonce) by

    nonce : q.client.nonce ≡ (w.clients i).client.nonce
    nonce = ap (λ (y : Client). y.nonce) client

asks_faces : (w : Both) (i lane : ℕ) (since : Known) (knows : Option Known) → Holds w → Faces w → Faces (makes w i (asked_on (w.clients i) lane (question_of (w.clients i) since knows)) (record { lane = lane; called = question_of (w.clients i) since knows }))
asks_faces w i lane since knows h x =
    let p = w.clients i in
    let s : Sent = record { lane = lane; called = question_of p since knows } in
    let more = λ (e : Ended). shut_more w.server.present w.sent s e e.fate in
    makes_faces w i lane s (asked_on p lane s.called) h x refl refl refl refl
    (asker_good (Beside w.server.present) AnyCommit (Shut w.server.present w.sent) (Shut w.server.present (s ∷ w.sent)) w.server.notes w.sent lane since knows p more (x.each i))
    (λ e t. record { there = t.there; kept = t.kept })
    (λ j other. beside_question (Beside w.server.present) AnyCommit (Shut w.server.present w.sent) (Shut w.server.present (s ∷ w.sent)) w.server.notes w.sent lane since knows p more (w.clients j) (x.each j))
    (λ j other k tag. apart refl k) (λ k met. absurd (apart refl k))

calls_faces : (w : Both) (i lane : ℕ) (c : Called) → Holds w → Faces w → call_of (w.clients i).client ((w.clients i).lanes lane) (w.clients i).stored (attempt_of (w.clients i)) ≡ Some c → Faces (makes w i (called_on (w.clients i) lane c) (record { lane = lane; called = c }))
calls_faces w i lane c h x e =
    let p = w.clients i in
    let s : Sent = record { lane = lane; called = c } in
    let is = call_is p.client (p.lanes lane) p.stored (attempt_of p) c e in
    let more = λ (f : Ended). shut_more w.server.present w.sent s f f.fate in
    let same = λ (k : is_ask c.kind ≡ false) (met : MetBy s w.server.present.opening.nonce). (let r : shared c.since w.server.present ≤ shared c.since w.server.present = omega arith in r) in
    makes_faces w i lane s (called_on p lane c) h x (ap (λ (y : Called). y.attempt) is.is) refl refl refl
    (maker_is (Beside w.server.present) AnyCommit (Shut w.server.present w.sent) (Shut w.server.present (s ∷ w.sent)) w h x.each i lane c e same more)
    (λ f t. record { there = t.there; kept = t.kept })
    (other_good (Beside w.server.present) AnyCommit (Shut w.server.present w.sent) (Shut w.server.present (s ∷ w.sent)) w h x.each i lane c e same more)
    (λ j other k tag. others_tag (Beside w.server.present) AnyCommit (Shut w.server.present w.sent) (Shut w.server.present (s ∷ w.sent)) w h x.each i lane c e same more j other (name_of s) tag (record { kind = k; name = refl }))
    (λ k met. knows_of p.client.known (subst (λ (y : Option Known). is_met w.server.present.opening.nonce y ≡ true) (ap (λ (y : Called). y.knows) is.is) met) refl is.stopped)
  where
    knows_of : (known : Option Known) → is_met w.server.present.opening.nonce known ≡ true → (w.clients i).client.known ≡ known → (w.clients i).client.stopped ≡ None → Knows w.server.present.opening.nonce (w.clients i).client
    knows_of None met e s = cc
    knows_of (Some k) met e s = record { known = k; is = e; nonce_is = grind (arith, nat_tests); stopped = λ q is. absurd (none_is q (sym s ∙ is)) }

-- AN ORDER IS NOTED
module _ (w : Both) (h : Holds w) (x : Faces w) (i lane uid : ℕ) (q : Known) (knows : (w.clients i).client.known ≡ Some q) (free : ((w.clients i).lanes lane).order ≡ None) where
  abbrev its : Note
  its = its_note (Beside w.server.present) AnyCommit (Shut w.server.present w.sent) w h x.each i lane uid q knows free

  abbrev then_lane : Lane
  then_lane = its_lane (Beside w.server.present) AnyCommit (Shut w.server.present w.sent) w h x.each i lane uid q knows free

  abbrev noting : Process
  noting = noted_on (w.clients i) lane then_lane

  pub notes_faces : Faces (record (with_client w i noting) { server = noted w.server its })
  notes_faces = record {
    made = x.made;
    since = at_put (λ j y. (r : Reply) → Among r w.made → r.call.called.attempt.nonce ≡ y.client.nonce → (d : Sent) → Among d w.sent → is_ask d.called.kind ≡ false → Among d.called.tag y.nonces → Among d r.before ⊎ (d.called.attempt.nonce ≡ y.client.nonce)) w.clients i noting (x.since i) x.since;
    life = at_put (λ j y. (d : Sent) → Among d w.sent → is_ask d.called.kind ≡ false → d.called.attempt.nonce ≡ y.client.nonce → MetBy d w.server.present.opening.nonce → Knows w.server.present.opening.nonce y.client) w.clients i noting (x.life i) x.life;
    waits = at_put (λ j y. (n : ℕ) (c : Called) → y.waits n ≡ Some c → c.attempt.nonce ≡ y.client.nonce) w.clients i noting (x.waits i) x.waits;
    each = at_put (λ j y. FacingGood (noted w.server its) w.sent y) w.clients i noting
        (noter_good (Beside w.server.present) AnyCommit (Shut w.server.present w.sent) w h x.each i lane uid q knows free)
        (noted_good (Beside w.server.present) AnyCommit (Shut w.server.present w.sent) w h x.each i lane uid q knows free);
    told = λ t m. at_put (λ j y. IsToldBy (w.clients j) t.ended → IsToldBy y t.ended) w.clients i noting
        (told_noted (Beside w.server.present) AnyCommit (Shut w.server.present w.sent) w h x.each i lane uid q knows free t.ended) (λ j y. y) t.client (x.told t m);
  }

gives_faces : (w : Both) (h : Holds w) (x : Faces w) (i lane uid : ℕ) (l : Lane) (o : Order) → given_of (w.clients i).client ((w.clients i).lanes lane) uid ((w.clients i).number + 1) ≡ Some l → l.order ≡ Some o → Faces (record (with_client w i (noted_on (w.clients i) lane l)) { server = noted w.server (record { name = name_on lane o; since = o.since }) })
gives_faces w h x i lane uid l o e is =
    let p = w.clients i in
    let g = gave_is p.client (p.lanes lane) uid (p.number + 1) l e in
    let mine : Order = record { uid = uid; number = (p.lanes lane).last + 1; tag = p.client.nonce; since = g.known } in
    let same : mine ≡ o = some_is mine o (sym (ap (λ (y : Lane). y.order) g.is) ∙ is) in
    subst (λ (y : Order). Faces (record (with_client w i (noted_on p lane l)) { server = noted w.server (record { name = name_on lane y; since = y.since }) })) same
    (subst (λ (y : Lane). Faces (record (with_client w i (noted_on p lane y)) { server = noted w.server (record { name = name_on lane mine; since = mine.since }) })) (sym g.is)
    (notes_faces w h x i lane uid g.known g.knows g.free))

tells_faces : (w : Both) (i : ℕ) (e : Ended) → Faces w → Among e (w.clients i).fates → e.record_number ≤ (w.clients i).stored → Faces (record w { told = record { client = i; ended = e } ∷ w.told })
tells_faces w i e x m within = record {
  made = x.made;
  since = x.since;
  life = x.life;
  waits = x.waits;
  each = x.each;
  told = either_of (λ t. IsToldBy (w.clients t.client) t.ended) (record { client = i; ended = e }) w.told
      (record { there = m; kept = λ k n. let s = (x.each i).orderly.store k n in let least = s.least in s.has e m (omega arith) }) x.told;
}

-- EACH STEP, if no client's store is set back
step_faces : (rules : Rules) (w v : Both) → rules.clients ≡ false → Holds w → Holds v → Faces w → Step rules w v → Faces v
step_faces rules w v k h h' x (handles s y said value result m d) = handled_faces rules.strict w s y said value result h x m d
step_faces rules w v k h h' x (works s d) = works_faces w s h h' x d
step_faces rules w v k h h' x (syncs kept some m) = same_server_faces w kept w.left x
step_faces rules w v k h h' x (leaves r m firm) = same_server_faces w w.alive (r ∷ w.left) x
step_faces rules w v k h h' x (opens s nonce m drawn) = opened_faces w s nonce h x drawn
step_faces rules w v k h h' x (set_back may s nonce m drawn) = opened_faces w s nonce h x drawn
step_faces rules w v k h h' x (gives i lane uid l o e is) = gives_faces w h x i lane uid l o e is
step_faces rules w v k h h' x (calls i lane c e) = calls_faces w i lane c h x e
step_faces rules w v k h h' x (asks i lane since knows may) = asks_faces w i lane since knows h x
step_faces rules w v k h h' x (ends i lane) = client_faces w i _ x (record { good = ended_ok (Beside w.server.present) AnyCommit (Shut w.server.present w.sent) w.server.notes w.sent (w.clients i) lane (x.each i); keeps = λ e t. record { there = t.there; kept = t.kept } }) refl refl (silent_waits w i lane x) (λ d m met y. y)
step_faces rules w v k h h' x (hears i lane c r m e) = hears_faces w h x i lane c r m e
step_faces rules w v k h h' x (cancels i lane) = cancels_faces w i lane h x
step_faces rules w v k h h' x (adopts i all) = adopts_faces w i x
step_faces rules w v k h h' x (stores i stored kept within some least) = client_faces w i _ x (record { good = stored_ok (Beside w.server.present) AnyCommit (Shut w.server.present w.sent) w.server.notes w.sent (w.clients i) stored kept (x.each i) within some least; keeps = λ e t. record { there = t.there; kept = λ y n. t.kept y (some y n) } }) refl refl (x.waits i) (λ d m met y. y)
step_faces rules w v k h h' x (tells i e m within) = tells_faces w i e x m within
step_faces rules w v k h h' x (dies i nonce y m fresh) = dies_faces w i nonce y h x m fresh
step_faces rules w v k h h' x (restores may i nonce y m fresh) = absurd (apart may k)

-- the first world
first_faces : (nonce : ℕ) (nonces : ℕ → ℕ) → Faces (first_both nonce nonces)
first_faces nonce nonces = record {
  made = λ r m. elim m [ ];
  since = λ i r m e d n k tag. elim m [ ];
  life = λ i d m e own met. elim m [ ];
  waits = λ i lane c e. absurd (none_is c e);
  each = λ i. record {
    orderly = record {
      lanes = λ lane o e. absurd (none_is o e);
      store = either_of _ _ [] (record { least = omega arith; most = omega arith; has = λ e m within. m; less = λ e m. m; orders = λ lane o e. absurd (none_is o e) }) (λ k m. elim m [ ]);
      once = λ e f m n same. elim m [ ];
      named = λ e m. elim m [ ];
      within = omega arith;
    };
    mind = record { known = tt; orders = λ lane o e. tt };
    stopped = tt;
    store = either_of _ _ [] (record { known = tt; orders = λ lane o e. tt }) (λ k m. elim m [ ]);
    sealed = λ e m. elim m [ ];
  };
  told = λ t m. elim m [ ];
}

-- EACH HISTORY in which no client's store is set back
pub faces_of : (rules : Rules) (w : Both) → rules.clients ≡ false → Runs rules w → Faces w
faces_of rules w k (begins nonce nonces differ) = first_faces nonce nonces
faces_of rules w k (both.goes {w = u} v r s) = let h = holds_of rules u r in step_faces rules u v k h (step_holds rules u v h s) (faces_of rules u k r) s
