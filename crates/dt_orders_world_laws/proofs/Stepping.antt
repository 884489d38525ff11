-- Each step of both ends keeps what holds.
use Rattle.std.proofs.Common.{◌≡◌, ◌≢◌, ◌+◌, ◌≤◌, ◌<◌, ◌∙◌, ℕ, List, [], ◌∷◌, Bool, true, false, ◌⊎◌, inl, inr, ap, sym, subst, arith, refl}
use Rattle.std.specs.Prelude.{◌==◌, ◌&&◌, not, nat_le, if◌then◌else◌, Option, Some, None}
use Rattle.std.proofs.lemmas.Bool.Decides.{nat_tests}
use Rattle.dt_orders_model.specs.declared.knowledge.Known.{Known}
use Rattle.dt_orders_model.specs.declared.lanes.Attempt.{Attempt}
use Rattle.dt_orders_model.specs.declared.lanes.Called.{Called}
use Rattle.dt_orders_model.specs.declared.lanes.Client.{Client}
use Rattle.dt_orders_model.specs.declared.lanes.Hearing.{Hearing}
use Rattle.dt_orders_model.specs.declared.lanes.Hearing.TheVariants as hearing
use Rattle.dt_orders_model.specs.declared.lanes.Lane.{Lane}
use Rattle.dt_orders_model.specs.declared.lanes.Order.{Order}
use Rattle.dt_orders_model.specs.declared.lanes.Sending.TheVariants as sending
use Rattle.dt_orders_model.specs.Histories.{IsNew, Note, Reached, World, goes, noted}
use Rattle.dt_orders_model.specs.Histories as history
use Rattle.dt_orders_model.specs.Lanes.{call_by, call_of, called_of, given_by, given_of, hearing_of, known_after, lane_made, lane_noted, lane_unsure}
use Rattle.dt_orders_model.specs.Stores.{Among, Name, Store, is_same}
use Rattle.dt_orders_laws.proofs.Lists.{alike_of, either_of}
use Rattle.dt_orders_world_laws.specs.Both.{AreAmong, Both, IsFresh, MayAsk, Rules, Runs, Step, Told, adopts, asks, begins, calls, cancels, dies, ends, first_both, gives, handles, hears, leaves, makes, opens, restores, set_back, stores, syncs, tells, with_client, works}
use Rattle.dt_orders_world_laws.specs.Both as both
use Rattle.dt_orders_world_laws.specs.Clients.{Ended, Kept, Process, asked_on, attempt_of, called_on, cancelled_on, heard_as, heard_on, left_on, name_on, noted_on, opened_on, put_at, question_of, recorded, with_lane}
use Rattle.dt_orders_world_laws.specs.Wires.{Reply, Sent}
use Rattle.dt_orders_world_laws.proofs.Holding.{Holds, IsCall, IsClient, IsGiven, IsMade, IsOf, IsTrueFate, MayKnow, WasHeard, given_later, mind_later, reply_later, top, top_of}
use Rattle.dt_orders_world_laws.proofs.Keeping.{adopted_is, cancelled_is, ended_is, heard_is, opened_is, recorded_is, same_lane_is, stored_is, waits_is}
use Rattle.dt_orders_world_laws.proofs.Puts.{apart, at_put_at, none_is, some_is}
use Rattle.dt_orders_world_laws.proofs.Serving.{handled_holds, left_holds, opened_holds, synced_holds, works_holds}

-- A CLIENT MOVES by itself
nonces_same : (clients : ℕ → Process) (i : ℕ) (p : Process) → p.nonces ≡ (clients i).nonces → (j : ℕ) → (put_at clients i p j).nonces ≡ (clients j).nonces
nonces_same clients i p e = at_put_at (λ j x. x.nonces ≡ (clients j).nonces) clients i p e (λ j other. refl)

pub of_same : (clients : ℕ → Process) (i : ℕ) (p : Process) → p.nonces ≡ (clients i).nonces → (nonce : ℕ) → IsOf clients nonce → IsOf (put_at clients i p) nonce
of_same clients i p e nonce o = record { client = o.client; there = subst (λ (x : List ℕ). Among nonce x) (sym (nonces_same clients i p e o.client)) o.there }

apart_same : (clients : ℕ → Process) (i : ℕ) (p : Process) → p.nonces ≡ (clients i).nonces → ((a b nonce : ℕ) → Among nonce (clients a).nonces → Among nonce (clients b).nonces → a ≡ b) → (a b nonce : ℕ) → Among nonce (put_at clients i p a).nonces → Among nonce (put_at clients i p b).nonces → a ≡ b
apart_same clients i p e h a b nonce x y = h a b nonce (subst (λ (n : List ℕ). Among nonce n) (nonces_same clients i p e a) x) (subst (λ (n : List ℕ). Among nonce n) (nonces_same clients i p e b) y)

pub client_moves : (w : Both) (i : ℕ) (p : Process) → Holds w → IsClient w.server.notes w.server.past w.sent p → p.nonces ≡ (w.clients i).nonces → Holds (with_client w i p)
client_moves w i p h is e = record {
  reached = h.reached;
  alive = h.alive;
  calls = h.calls;
  callers = λ s m. of_same w.clients i p e s.called.attempt.nonce (h.callers s m);
  alone = h.alone;
  tags = λ n m. of_same w.clients i p e n.name.tag (h.tags n m);
  apart = apart_same w.clients i p e h.apart;
  made = h.made;
  left = h.left;
  each = at_put_at (λ j x. IsClient w.server.notes w.server.past w.sent x) w.clients i p is (λ j other. h.each j);
  told = h.told;
}

-- IT STARTS AGAIN
of_more : (clients : ℕ → Process) (i : ℕ) (p : Process) → ((nonce : ℕ) → Among nonce (clients i).nonces → Among nonce p.nonces) → (nonce : ℕ) → IsOf clients nonce → IsOf (put_at clients i p) nonce
of_more clients i p more nonce o = record { client = o.client; there = at_put_at (λ j x. Among nonce (clients j).nonces → Among nonce x.nonces) clients i p (more nonce) (λ j other m. m) o.client o.there }

module _ (w : Both) (i nonce : ℕ) (k : Kept) (h : Holds w) (there : Among k (w.clients i).olds) (fresh : IsFresh nonce w.clients) where
  abbrev opened : Process
  opened = opened_on (w.clients i) k nonce

  not_of : (n : ℕ) → IsOf w.clients n → n ≢ nonce
  not_of n o e = fresh o.client (subst (λ (x : ℕ). Among x (w.clients o.client).nonces) e o.there)

  opened_of : (n a : ℕ) → Among n (put_at w.clients i opened a).nonces → ((a ≡ i) × (n ≡ nonce)) ⊎ Among n (w.clients a).nonces
  opened_of n = at_put_at (λ j x. Among n x.nonces → ((j ≡ i) × (n ≡ nonce)) ⊎ Among n (w.clients j).nonces) w.clients i opened first (λ j other m. inr m)
    where
      first : Among n (nonce ∷ (w.clients i).nonces) → ((i ≡ i) × (n ≡ nonce)) ⊎ Among n (w.clients i).nonces
      first (inl e) = inl (refl, e)
      first (inr m) = inr m

  apart_by : (a b n : ℕ) → ((a ≡ i) × (n ≡ nonce)) ⊎ Among n (w.clients a).nonces → ((b ≡ i) × (n ≡ nonce)) ⊎ Among n (w.clients b).nonces → a ≡ b
  apart_by a b n (inl x) (inl y) = x.0 ∙ sym y.0
  apart_by a b n (inl x) (inr y) = absurd (fresh b (subst (λ (z : ℕ). Among z (w.clients b).nonces) x.1 y))
  apart_by a b n (inr x) (inl y) = absurd (fresh a (subst (λ (z : ℕ). Among z (w.clients a).nonces) y.1 x))
  apart_by a b n (inr x) (inr y) = h.apart a b n x y

  pub client_opens : Holds (with_client w i opened)
  client_opens = record {
    reached = h.reached;
    alive = h.alive;
    calls = h.calls;
    callers = λ s m. of_more w.clients i opened (λ n x. inr x) s.called.attempt.nonce (h.callers s m);
    alone = h.alone;
    tags = λ n m. of_more w.clients i opened (λ n x. inr x) n.name.tag (h.tags n m);
    apart = λ a b n x y. apart_by a b n (opened_of n a x) (opened_of n b y);
    made = h.made;
    left = h.left;
    each = at_put_at (λ j x. IsClient w.server.notes w.server.past w.sent x) w.clients i opened
        (opened_is w.server.notes w.server.past w.sent (w.clients i) k nonce (h.each i) there (λ s m. not_of s.called.attempt.nonce (h.callers s m)) (λ n m. not_of n.name.tag (h.tags n m)))
        (λ j other. h.each j);
    told = h.told;
  }

-- IT CALLS
made_more : (sent : List Sent) (s : Sent) (lane : ℕ) (c : Option Called) → IsMade sent lane c → IsMade (s ∷ sent) lane c
made_more sent s lane None m = tt
made_more sent s lane (Some c) m = inr m

sent_more : (notes : List Note) (past : List Store) (sent : List Sent) (s : Sent) (p : Process) (count : ℕ) → IsClient notes past sent p → ((x : Sent) → Among x (s ∷ sent) → x.called.attempt.nonce ≡ p.client.nonce → x.called.attempt.count < count) → IsClient notes past (s ∷ sent) (record p { count = count })
sent_more notes past sent s p count c counts = record {
  mind = c.mind;
  stopped = c.stopped;
  kept = c.kept;
  alive = c.alive;
  waits = λ lane. made_more sent s lane (p.waits lane) (c.waits lane);
  once = c.once;
  own = c.own;
  counts = counts;
  numbers = c.numbers;
}

module _ (w : Both) (i : ℕ) (s : Sent) (h : Holds w) (by : s.called.attempt ≡ attempt_of (w.clients i)) (call : IsCall w.server.notes w.server.past s) where
  its_nonce : s.called.attempt.nonce ≡ (w.clients i).client.nonce
  its_nonce = ap (λ (a : Attempt). a.nonce) by

  its_count : s.called.attempt.count ≡ (w.clients i).count
  its_count = ap (λ (a : Attempt). a.count) by

  -- no call that was made has its attempt
  no_other : (x : Sent) → Among x w.sent → x.called.attempt ≡ s.called.attempt → ⊥
  no_other x m e =
      let below = (h.each i).counts x m (ap (λ (a : Attempt). a.nonce) e ∙ its_nonce) in
      let same : x.called.attempt.count ≡ (w.clients i).count = ap (λ (a : Attempt). a.count) e ∙ its_count in
      omega arith

  alone_more : (a : Sent) → Among a (s ∷ w.sent) → (b : Sent) → Among b (s ∷ w.sent) → a.called.attempt ≡ b.called.attempt → a ≡ b
  alone_more a (inl e) b (inl f) same = e ∙ sym f
  alone_more a (inl e) b (inr n) same = absurd (no_other b n (sym same ∙ ap (λ (x : Sent). x.called.attempt) e))
  alone_more a (inr m) b (inl f) same = absurd (no_other a m (same ∙ ap (λ (x : Sent). x.called.attempt) f))
  alone_more a (inr m) b (inr n) same = h.alone a b m n same

  caller_is : IsClient w.server.notes w.server.past (s ∷ w.sent) (record (w.clients i) { count = (w.clients i).count + 1 })
  caller_is = sent_more w.server.notes w.server.past w.sent s (w.clients i) ((w.clients i).count + 1) (h.each i)
      (either_of (λ x. x.called.attempt.nonce ≡ (w.clients i).client.nonce → x.called.attempt.count < (w.clients i).count + 1) s w.sent (λ e. let c = its_count in omega arith) (λ x m e. let c = (h.each i).counts x m e in omega arith))

  other_is : (j : ℕ) → j ≢ i → IsClient w.server.notes w.server.past (s ∷ w.sent) (w.clients j)
  other_is j other = sent_more w.server.notes w.server.past w.sent s (w.clients j) (w.clients j).count (h.each j)
      (either_of (λ x. x.called.attempt.nonce ≡ (w.clients j).client.nonce → x.called.attempt.count < (w.clients j).count) s w.sent
      (λ e. absurd (other (h.apart j i s.called.attempt.nonce (subst (λ (x : ℕ). Among x (w.clients j).nonces) (sym e) (h.each j).own) (subst (λ (x : ℕ). Among x (w.clients i).nonces) (sym its_nonce) (h.each i).own))))
      (h.each j).counts)

  pub client_makes : (p : Process) → IsClient w.server.notes w.server.past (s ∷ w.sent) p → p.nonces ≡ (w.clients i).nonces → Holds (makes w i p s)
  client_makes p is e = record {
    reached = h.reached;
    alive = h.alive;
    calls = either_of (λ x. IsCall w.server.notes w.server.past x) s w.sent call h.calls;
    callers = either_of (λ x. IsOf (put_at w.clients i p) x.called.attempt.nonce) s w.sent
        (of_same w.clients i p e s.called.attempt.nonce (record { client = i; there = subst (λ (x : ℕ). Among x (w.clients i).nonces) (sym its_nonce) (h.each i).own }))
        (λ x m. of_same w.clients i p e x.called.attempt.nonce (h.callers x m));
    alone = λ a b m n same. alone_more a m b n same;
    tags = λ n m. of_same w.clients i p e n.name.tag (h.tags n m);
    apart = apart_same w.clients i p e h.apart;
    made = λ r m. reply_later w.server.notes w.server.notes w.server.past w.server.past (λ n x. x) (λ y n. n) w.sent (s ∷ w.sent) (λ x n. inr n) r (h.made r m);
    left = h.left;
    each = at_put_at (λ j x. IsClient w.server.notes w.server.past (s ∷ w.sent) x) w.clients i p is other_is;
    told = h.told;
  }

-- what a call is of
pub record Called_is (client : Client) (l : Lane) (stored : ℕ) (a : Attempt) (c : Called) : Type 0 where
  pub order : Order
  pub there : l.order ≡ Some order
  pub stopped : client.stopped ≡ None
  pub stores : l.record_number ≤ stored
  pub is : c ≡ called_of client l order a

called_by : (client : Client) (l : Lane) (stored : ℕ) (a : Attempt) (c : Called) (stopped : Option Known) (order : Option Order) → client.stopped ≡ stopped → l.order ≡ order → call_by stopped order client l stored a ≡ Some c → Called_is client l stored a c
called_by client l stored a c (Some q) order s o e = absurd (none_is c e)
called_by client l stored a c None None s o e = absurd (none_is c e)
called_by client l stored a c None (Some order) s o e = by l.is_calling (nat_le l.record_number stored) refl e
  where
    by : (t u : Bool) → nat_le l.record_number stored ≡ u → (if not t && u then Some (called_of client l order a) else None) ≡ Some c → Called_is client l stored a c
    by true u is x = absurd (none_is c x)
    by false false is x = absurd (none_is c x)
    by false true is x = record { order = order; there = o; stopped = s; stores = grind (arith, nat_tests); is = sym (some_is (called_of client l order a) c x) }

pub call_is : (client : Client) (l : Lane) (stored : ℕ) (a : Attempt) (c : Called) → call_of client l stored a ≡ Some c → Called_is client l stored a c
call_is client l stored a c e = called_by client l stored a c client.stopped l.order refl refl e

calls_holds : (w : Both) (i lane : ℕ) (c : Called) → Holds w → call_of (w.clients i).client ((w.clients i).lanes lane) (w.clients i).stored (attempt_of (w.clients i)) ≡ Some c → Holds (makes w i (called_on (w.clients i) lane c) (record { lane = lane; called = c }))
calls_holds w i lane c h e =
    let p = w.clients i in
    let x = call_is p.client (p.lanes lane) p.stored (attempt_of p) c e in
    let s : Sent = record { lane = lane; called = c } in
    let by : c.attempt ≡ attempt_of p = ap (λ (y : Called). y.attempt) x.is in
    let given : IsGiven w.server.notes lane (Some x.order) = subst (λ (y : Option Order). IsGiven w.server.notes lane y) x.there ((h.each i).mind.orders lane) in
    let call : IsCall w.server.notes w.server.past s = record {
      noted = λ y. subst (λ (z : Called). Among (record { name = record { lane = lane; number = z.number; tag = z.tag }; since = z.since }) w.server.notes) (sym x.is) given;
      knows = subst (λ (z : Called). MayKnow w.server.past z.knows) (sym x.is) (h.each i).mind.known;
    } in
    let q : Process = record p { count = p.count + 1 } in
    let one = same_lane_is w.server.notes w.server.past (s ∷ w.sent) q lane (lane_made sending.Sent (p.lanes lane)) (caller_is w i s h by call) refl refl in
    client_makes w i s h by call (called_on p lane c) (waits_is w.server.notes w.server.past (s ∷ w.sent) (with_lane q lane (lane_made sending.Sent (p.lanes lane))) lane (Some c) one (inl refl)) refl

asks_holds : (w : Both) (i lane : ℕ) (since : Known) (knows : Option Known) → Holds w → (knows ≡ (w.clients i).client.known) ⊎ MayAsk knows w.left → Holds (makes w i (asked_on (w.clients i) lane (question_of (w.clients i) since knows)) (record { lane = lane; called = question_of (w.clients i) since knows }))
asks_holds w i lane since knows h may =
    let p = w.clients i in
    let c = question_of p since knows in
    let s : Sent = record { lane = lane; called = c } in
    let call : IsCall w.server.notes w.server.past s = record { noted = λ e. absurd (apart refl e); knows = known knows may } in
    let q : Process = record p { count = p.count + 1 } in
    let one = same_lane_is w.server.notes w.server.past (s ∷ w.sent) q lane (lane_unsure (p.lanes lane)) (caller_is w i s h refl call) refl refl in
    client_makes w i s h refl call (asked_on p lane c) (waits_is w.server.notes w.server.past (s ∷ w.sent) (with_lane q lane (lane_unsure (p.lanes lane))) lane (Some c) one (inl refl)) refl
  where
    known : (k : Option Known) → (k ≡ (w.clients i).client.known) ⊎ MayAsk k w.left → MayKnow w.server.past k
    known k (inl e) = subst (λ (x : Option Known). MayKnow w.server.past x) (sym e) (h.each i).mind.known
    known None (inr a) = tt
    known (Some k) (inr a) =
        let r = h.made a.0 (h.left a.0 a.1) in
        record { store = r.store; there = r.there; is = sym a.2 ∙ r.is }

-- IT NOTES AN ORDER
pub record Gave (c : Client) (l : Lane) (uid at : ℕ) (l' : Lane) : Type 0 where
  pub known : Known
  pub knows : c.known ≡ Some known
  pub stopped : c.stopped ≡ None
  pub free : l.order ≡ None
  pub is : l' ≡ lane_noted l uid c.nonce known at

gave_by : (c : Client) (l : Lane) (uid at : ℕ) (l' : Lane) (known stopped : Option Known) (order : Option Order) → c.known ≡ known → c.stopped ≡ stopped → l.order ≡ order → given_by known stopped order l uid c.nonce at ≡ Some l' → Gave c l uid at l'
gave_by c l uid at l' None stopped order k s o e = absurd (none_is l' e)
gave_by c l uid at l' (Some q) (Some x) order k s o e = absurd (none_is l' e)
gave_by c l uid at l' (Some q) None (Some x) k s o e = absurd (none_is l' e)
gave_by c l uid at l' (Some q) None None k s o e = record { known = q; knows = k; stopped = s; free = o; is = sym (some_is (lane_noted l uid c.nonce q at) l' e) }

pub gave_is : (c : Client) (l : Lane) (uid at : ℕ) (l' : Lane) → given_of c l uid at ≡ Some l' → Gave c l uid at l'
gave_is c l uid at l' e = gave_by c l uid at l' c.known c.stopped l.order refl refl refl e

is_new : (o : Name) (notes : List Note) → ((n : Note) → Among n notes → is_same n.name o ≡ false) → IsNew o notes
is_new o [] h = tt
is_new o (n ∷ notes) h = (h n (inl refl), is_new o notes (λ m x. h m (inr x)))

module _ (w : Both) (i lane uid : ℕ) (h : Holds w) (q : Known) (knows : (w.clients i).client.known ≡ Some q) (free : ((w.clients i).lanes lane).order ≡ None) where
  abbrev p : Process
  p = w.clients i

  abbrev pub given : Lane
  given = lane_noted (p.lanes lane) uid p.client.nonce q (p.number + 1)

  abbrev pub note : Note
  note = record { name = record { lane = lane; number = (p.lanes lane).last + 1; tag = p.client.nonce }; since = q }

  its_last : top (p.lanes lane) ≡ (p.lanes lane).last
  its_last = ap (λ (x : Option Order). top_of (p.lanes lane).last x) free

  pub fresh_by : (n : Note) → Among n w.server.notes → (t : Bool) → is_same n.name note.name ≡ t → is_same n.name note.name ≡ false
  fresh_by n m false e = e
  fresh_by n m true e =
      let alike = alike_of n.name note.name e in
      let below = (h.each i).numbers n m alike.tag in
      let here : n.name.number ≤ top (p.lanes lane) = subst (λ (x : ℕ). n.name.number ≤ top (p.lanes x)) alike.lane below in
      let number = alike.number in
      let last = its_last in
      absurd (omega arith)

  new : IsNew note.name w.server.notes
  new = is_new note.name w.server.notes (λ n m. fresh_by n m (is_same n.name note.name) refl)

  was : WasHeard w.server.past q
  was = subst (λ (x : Option Known). MayKnow w.server.past x) knows (h.each i).mind.known

  reached_then : Reached (noted w.server note)
  reached_then = subst (λ (x : Known). Reached (noted w.server (record { name = note.name; since = x }))) (sym was.is) (goes _ h.reached (history.notes note.name was.store new was.there))

  -- the client that noted it, among all notes
  noted_client : (c : Process) → IsClient w.server.notes w.server.past w.sent c → ((m : Note) → Among m (note ∷ w.server.notes) → m.name.tag ≡ c.client.nonce → m.name.number ≤ top (c.lanes m.name.lane)) → IsClient (note ∷ w.server.notes) w.server.past w.sent c
  noted_client c is numbers = record {
    mind = mind_later w.server.notes (note ∷ w.server.notes) w.server.past w.server.past (λ n x. inr x) (λ y n. n) c.client.known c.lanes c.fates is.mind;
    stopped = is.stopped;
    kept = λ k m. mind_later w.server.notes (note ∷ w.server.notes) w.server.past w.server.past (λ n x. inr x) (λ y n. n) k.known k.lanes k.fates (is.kept k m);
    alive = is.alive;
    waits = is.waits;
    once = is.once;
    own = is.own;
    counts = is.counts;
    numbers = numbers;
  }

  above : top (p.lanes lane) ≤ top given
  above = let last = its_last in omega arith

  noter_is : IsClient (note ∷ w.server.notes) w.server.past w.sent (noted_on p lane given)
  noter_is = recorded_is (note ∷ w.server.notes) w.server.past w.sent (with_lane p lane given) (record {
    mind = record {
      known = (h.each i).mind.known;
      orders = at_put_at (λ n x. IsGiven (note ∷ w.server.notes) n x.order) p.lanes lane given (inl refl) (λ n other. given_later w.server.notes (note ∷ w.server.notes) w.server.past w.server.past (λ n x. inr x) (λ y n. n) n (p.lanes n).order ((h.each i).mind.orders n));
      fates = (h.each i).mind.fates;
    };
    stopped = (h.each i).stopped;
    kept = λ k m. mind_later w.server.notes (note ∷ w.server.notes) w.server.past w.server.past (λ n x. inr x) (λ y n. n) k.known k.lanes k.fates ((h.each i).kept k m);
    alive = (h.each i).alive;
    waits = (h.each i).waits;
    once = (h.each i).once;
    own = (h.each i).own;
    counts = (h.each i).counts;
    numbers = either_of (λ m. m.name.tag ≡ p.client.nonce → m.name.number ≤ top (put_at p.lanes lane given m.name.lane)) note w.server.notes
        (λ e. at_put_at (λ x y. x ≡ lane → (p.lanes lane).last + 1 ≤ top y) p.lanes lane given (λ is. omega arith) (λ x other is. absurd (other is)) lane refl)
        (λ m n e. let had = (h.each i).numbers m n e in
        at_put_at (λ x y. m.name.lane ≡ x → m.name.number ≤ top y) p.lanes lane given
        (λ is. let before : m.name.number ≤ top (p.lanes lane) = subst (λ (x : ℕ). m.name.number ≤ top (p.lanes x)) is had in let a = above in omega arith)
        (λ x other is. subst (λ (y : ℕ). m.name.number ≤ top (p.lanes y)) is had) m.name.lane refl);
  })

  other_client : (j : ℕ) → j ≢ i → IsClient (note ∷ w.server.notes) w.server.past w.sent (w.clients j)
  other_client j other = noted_client (w.clients j) (h.each j)
      (either_of (λ m. m.name.tag ≡ (w.clients j).client.nonce → m.name.number ≤ top ((w.clients j).lanes m.name.lane)) note w.server.notes
      (λ e. absurd (other (h.apart j i p.client.nonce (subst (λ (x : ℕ). Among x (w.clients j).nonces) (sym e) (h.each j).own) (h.each i).own)))
      (h.each j).numbers)

  pub client_notes : Holds (record (with_client w i (noted_on p lane given)) { server = noted w.server note })
  client_notes = record {
    reached = reached_then;
    alive = h.alive;
    calls = λ s m. record { noted = λ e. inr ((h.calls s m).noted e); knows = (h.calls s m).knows };
    callers = λ s m. of_same w.clients i (noted_on p lane given) refl s.called.attempt.nonce (h.callers s m);
    alone = h.alone;
    tags = either_of (λ n. IsOf (put_at w.clients i (noted_on p lane given)) n.name.tag) note w.server.notes
        (of_same w.clients i (noted_on p lane given) refl p.client.nonce (record { client = i; there = (h.each i).own }))
        (λ n m. of_same w.clients i (noted_on p lane given) refl n.name.tag (h.tags n m));
    apart = apart_same w.clients i (noted_on p lane given) refl h.apart;
    made = λ r m. reply_later w.server.notes (note ∷ w.server.notes) w.server.past w.server.past (λ n x. inr x) (λ y n. n) w.sent w.sent (λ x n. n) r (h.made r m);
    left = h.left;
    each = at_put_at (λ j x. IsClient (note ∷ w.server.notes) w.server.past w.sent x) w.clients i (noted_on p lane given) noter_is other_client;
    told = h.told;
  }

gives_holds : (w : Both) (i lane uid : ℕ) (l : Lane) (o : Order) → Holds w → given_of (w.clients i).client ((w.clients i).lanes lane) uid ((w.clients i).number + 1) ≡ Some l → l.order ≡ Some o → Holds (record (with_client w i (noted_on (w.clients i) lane l)) { server = noted w.server (record { name = name_on lane o; since = o.since }) })
gives_holds w i lane uid l o h e is =
    let p = w.clients i in
    let g = gave_is p.client (p.lanes lane) uid (p.number + 1) l e in
    let its : Order = record { uid = uid; number = (p.lanes lane).last + 1; tag = p.client.nonce; since = g.known } in
    let same : its ≡ o = some_is its o (sym (ap (λ (x : Lane). x.order) g.is) ∙ is) in
    subst (λ (x : Order). Holds (record (with_client w i (noted_on p lane l)) { server = noted w.server (record { name = name_on lane x; since = x.since }) })) same
    (subst (λ (x : Lane). Holds (record (with_client w i (noted_on p lane x)) { server = noted w.server (record { name = name_on lane its; since = its.since }) })) (sym g.is)
    (client_notes w i lane uid h g.known g.knows g.free))

-- what a client hears or cancels leaves its nonces
pub nonces_left : (p : Process) (lane : ℕ) (l : Lane) (e : Option Ended) → (left_on p lane l e).nonces ≡ p.nonces
nonces_left p lane l None = by (l.record_number == p.number + 1)
  where
    by : (t : Bool) → (if t then recorded (with_lane p lane l) else with_lane p lane l).nonces ≡ p.nonces
    by true = refl
    by false = refl
nonces_left p lane l (Some e) = refl

pub nonces_heard : (p : Process) (lane : ℕ) (c : Called) (r : Reply) → (heard_on p lane c r).nonces ≡ p.nonces
nonces_heard p lane c r = by (hearing_of p.client.known c r.answer)
  where
    by : (h : Hearing) → (heard_as h p lane c r).nonces ≡ p.nonces
    by hearing.Strange = refl
    by hearing.Unsure = refl
    by hearing.Alarm = refl
    by hearing.Used = nonces_left (record p { client = known_after p.client hearing.Used r.answer; waits = put_at p.waits lane None }) lane _ _

pub nonces_cancelled : (p : Process) (lane : ℕ) → (cancelled_on p lane).nonces ≡ p.nonces
nonces_cancelled p lane = nonces_left p lane _ _

-- EACH STEP
pub step_holds : (rules : Rules) (w v : Both) → Holds w → Step rules w v → Holds v
step_holds rules w v h (handles s x said value result m d) = handled_holds rules.strict w s x said value result h m d
step_holds rules w v h (works s d) = works_holds w s h d
step_holds rules w v h (syncs kept some m) = synced_holds w kept h some
step_holds rules w v h (leaves r m firm) = left_holds w r h m
step_holds rules w v h (opens s nonce m drawn) = opened_holds w s nonce h (h.alive s m) drawn
step_holds rules w v h (set_back may s nonce m drawn) = opened_holds w s nonce h m drawn
step_holds rules w v h (gives i lane uid l o e is) = gives_holds w i lane uid l o h e is
step_holds rules w v h (calls i lane c e) = calls_holds w i lane c h e
step_holds rules w v h (asks i lane since knows may) = asks_holds w i lane since knows h may
step_holds rules w v h (ends i lane) = client_moves w i _ h (ended_is w.server.notes w.server.past w.sent (w.clients i) lane (h.each i)) refl
step_holds rules w v h (hears i lane c r m e) = client_moves w i _ h (heard_is w.server.notes w.server.past w.sent (w.clients i) lane c r (h.each i) (h.made r (h.left r m)) e h.alone) (nonces_heard (w.clients i) lane c r)
step_holds rules w v h (cancels i lane) = client_moves w i _ h (cancelled_is w.server.notes w.server.past w.sent (w.clients i) lane (h.each i)) (nonces_cancelled (w.clients i) lane)
step_holds rules w v h (adopts i all) = client_moves w i _ h (adopted_is w.server.notes w.server.past w.sent (w.clients i) (h.each i)) refl
step_holds rules w v h (stores i stored kept within some least) = client_moves w i _ h (stored_is w.server.notes w.server.past w.sent (w.clients i) stored kept (h.each i) some) refl
step_holds rules w v h (tells i e m is) = record {
  reached = h.reached;
  alive = h.alive;
  calls = h.calls;
  callers = h.callers;
  alone = h.alone;
  tags = h.tags;
  apart = h.apart;
  made = h.made;
  left = h.left;
  each = h.each;
  told = either_of (λ t. IsTrueFate w.server.past t.ended) (record { client = i; ended = e }) w.told ((h.each i).mind.fates e m) h.told;
}
step_holds rules w v h (dies i nonce k m fresh) = client_opens w i nonce k h ((h.each i).alive k m) fresh
step_holds rules w v h (restores may i nonce k m fresh) = client_opens w i nonce k h m fresh

-- the first world
first_holds : (nonce : ℕ) (nonces : ℕ → ℕ) → ((i j : ℕ) → nonces i ≡ nonces j → i ≡ j) → Holds (first_both nonce nonces)
first_holds nonce nonces differ = record {
  reached = history.first nonce;
  alive = λ s m. m;
  calls = λ s m. elim m [ ];
  callers = λ s m. elim m [ ];
  alone = λ a b m n e. elim m [ ];
  tags = λ n m. elim m [ ];
  apart = λ i j n x y. differ i j (sym (only i n x) ∙ only j n y);
  made = λ r m. elim m [ ];
  left = λ r m. m;
  each = λ i. record {
    mind = record { known = tt; orders = λ lane. tt; fates = λ e m. elim m [ ] };
    stopped = tt;
    kept = either_of _ _ [] (record { known = tt; orders = λ lane. tt; fates = λ e m. elim m [ ] }) (λ k m. elim m [ ]);
    alive = λ k m. m;
    waits = λ lane. tt;
    once = refl;
    own = inl refl;
    counts = λ s m e. elim m [ ];
    numbers = λ n m e. elim m [ ];
  };
  told = λ t m. elim m [ ];
}
  where
    only : (i n : ℕ) → Among n (nonces i ∷ []) → n ≡ nonces i
    only i n (inl e) = e
    only i n (inr m) = elim m [ ]

-- EACH HISTORY of both ends
pub holds_of : (rules : Rules) (w : Both) → Runs rules w → Holds w
holds_of rules w (begins nonce nonces differ) = first_holds nonce nonces differ
holds_of rules w (both.goes {w = u} v r s) = step_holds rules u v (holds_of rules u r) s
