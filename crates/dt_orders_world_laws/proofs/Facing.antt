-- Both ends, where the server's store may be set back and takes only calls of clients that know its present opening.
use Rattle.std.proofs.Common.{◌≡◌, ◌≢◌, ◌+◌, ◌≤◌, ◌∙◌, ℕ, List, ◌∷◌, Bool, true, false, ◌⊎◌, inl, inr, ap, sym, subst, arith, refl, length}
use Rattle.std.specs.Prelude.{◌-◌, ◌==◌, min, if◌then◌else◌, Option, Some, None}
use Rattle.std.proofs.lemmas.Bool.Decides.{nat_tests}
use Rattle.dt_orders_model.specs.declared.knowledge.Known.{Known}
use Rattle.dt_orders_model.specs.declared.knowledge.Opening.{Opening}
use Rattle.dt_orders_model.specs.declared.knowledge.Place.{Place}
use Rattle.dt_orders_model.specs.Chains.{place_in, shared_by}
use Rattle.dt_orders_model.specs.declared.lanes.Called.{Called}
use Rattle.dt_orders_model.specs.declared.lanes.Client.{Client}
use Rattle.dt_orders_model.specs.declared.lanes.Fate.{Fate}
use Rattle.dt_orders_model.specs.declared.lanes.Fate.TheVariants as fate
use Rattle.dt_orders_model.specs.declared.lanes.Word.{Word}
use Rattle.dt_orders_model.specs.declared.lanes.Word.TheVariants as word
use Rattle.dt_orders_model.specs.Closing.{IsClosed}
use Rattle.dt_orders_model.specs.Fates.{WasWithdrawn}
use Rattle.dt_orders_model.specs.Histories.{IsDrawnAnew, Note, World, commit}
use Rattle.dt_orders_model.specs.Judging.{is_ask, is_met}
use Rattle.dt_orders_model.specs.Stores.{Among, Name, Store, Withdrawn, heard, is_on, reopened, row_of, shared}
use Rattle.dt_orders_laws.proofs.Lawful.{Extends, Lawful, drawn_of, note_heard, shared_below}
use Rattle.dt_orders_laws.proofs.Lists.{either_of}
use Rattle.dt_orders_laws.proofs.Moving.{lawful_of}
use Rattle.dt_orders_laws.proofs.Places.{IsHeard, shared_goes_on}
use Rattle.dt_orders_laws.proofs.Settling.{closed_lower}
use Rattle.dt_orders_world_laws.specs.Both.{AreAmong, Both, Told, handled, opened_server}
use Rattle.dt_orders_world_laws.specs.Clients.{Ended, Process}
use Rattle.dt_orders_world_laws.specs.Wires.{Handles, Reply, Sent, Works, finishes, forgets, name_of, note_of, reply_to}
use Rattle.dt_orders_world_laws.proofs.Firm.{on_itself, on_next}
use Rattle.dt_orders_world_laws.proofs.Good.{Good, IsToldBy}
use Rattle.dt_orders_world_laws.proofs.Holding.{Holds, MayKnow, SaysTrue, WasHeard}
use Rattle.dt_orders_world_laws.proofs.Orderly.{IsCallOf, Orderly, orderly_more}
use Rattle.dt_orders_world_laws.proofs.Serving.{Next, handling}

-- the client knew of the opening when it called
abbrev pub MetBy : Sent → ℕ → Type 0
MetBy d nonce = is_met nonce d.called.knows ≡ true

-- a call that knows of the present opening has no since that is shared up to more than this commit is
abbrev pub Beside : Store → Sent → Known → Type 0
Beside s d q = is_ask d.called.kind ≡ false → MetBy d s.opening.nonce → shared d.called.since s ≤ shared q s

-- WHAT A FATE SAYS: no call of the order that knows of the present opening is executed
abbrev pub ShutAs : Store → List Sent → Ended → Fate → Type 0
ShutAs s sent e fate.Done = Unit {0}
ShutAs s sent e fate.Never = (d : Sent) → Among d sent → IsCallOf d e.name → MetBy d s.opening.nonce → WasWithdrawn s e.name
ShutAs s sent e fate.Unknown = (d : Sent) → Among d sent → IsCallOf d e.name → MetBy d s.opening.nonce → IsClosed s.horizon (row_of (s.rows e.name.lane)) e.name.number (shared d.called.since s)

abbrev pub Shut : Store → List Sent → Ended → Type 0
Shut s sent e = ShutAs s sent e e.fate

abbrev pub AnyCommit : Known → Type 0
AnyCommit q = Unit {0}

abbrev pub FacingGood : World → List Sent → Process → Type 0
FacingGood w sent p = Good (Beside w.present) AnyCommit (Shut w.present sent) w.notes sent p

-- WHAT AN ANSWER of the present opening says is so in the present store
abbrev pub SaysNow : Store → Sent → Word → Type 0
SaysNow s c word.Never = WasWithdrawn s (name_of c)
SaysNow s c word.Old = IsClosed s.horizon (row_of (s.rows c.lane)) c.called.number (shared c.called.since s)
SaysNow s c word.Stale = IsClosed s.horizon (row_of (s.rows c.lane)) c.called.number (shared c.called.since s)
SaysNow s c word.Done = Unit {0}
SaysNow s c word.NotNow = Unit {0}
SaysNow s c word.AtWork = Unit {0}
SaysNow s c word.Forked = Unit {0}
SaysNow s c word.Hello = Unit {0}
SaysNow s c word.Told = Unit {0}

pub record IsNow (s : Store) (r : Reply) : Type 0 where
  pub on : is_on r.answer.heard s ≡ true
  pub since : shared r.call.called.since s ≤ r.answer.heard.clock
  pub says : SaysNow s r.call r.answer.word

-- AN ANSWER is of the present opening, or no call that was made before it knows of that
pub record InTurn (s : Store) (sent : List Sent) (r : Reply) : Type 0 where
  pub own : Among r.call r.before
  pub seen : AreAmong r.before sent
  pub turn : (r.answer.heard.nonce ≡ s.opening.nonce) ⊎ ((d : Sent) → Among d r.before → MetBy d s.opening.nonce → ⊥)
  pub now : r.answer.heard.nonce ≡ s.opening.nonce → is_ask r.call.called.kind ≡ false → IsNow s r

-- a client knows of an opening
pub record Knows (nonce : ℕ) (c : Client) : Type 0 where
  pub known : Known
  pub is : c.known ≡ Some known
  pub nonce_is : known.nonce ≡ nonce
  pub stopped : (q : Known) → c.stopped ≡ Some q → q.nonce ≡ nonce

pub record Faces (w : Both) : Type 0 where
  pub made : (r : Reply) → Among r w.made → InTurn w.server.present w.sent r
  -- each call of a client was made before the answer, or in the life that asked for it
  pub since : (i : ℕ) (r : Reply) → Among r w.made → r.call.called.attempt.nonce ≡ (w.clients i).client.nonce → (d : Sent) → Among d w.sent → is_ask d.called.kind ≡ false → Among d.called.tag (w.clients i).nonces → Among d r.before ⊎ (d.called.attempt.nonce ≡ (w.clients i).client.nonce)
  -- a life that made a call that knows of the present opening knows of it
  pub life : (i : ℕ) (d : Sent) → Among d w.sent → is_ask d.called.kind ≡ false → d.called.attempt.nonce ≡ (w.clients i).client.nonce → MetBy d w.server.present.opening.nonce → Knows w.server.present.opening.nonce (w.clients i).client
  pub waits : (i lane : ℕ) (c : Called) → (w.clients i).waits lane ≡ Some c → c.attempt.nonce ≡ (w.clients i).client.nonce
  pub each : (i : ℕ) → FacingGood w.server w.sent (w.clients i)
  pub told : (t : Told) → Among t w.told → IsToldBy (w.clients t.client) t.ended

-- A GOOD CLIENT of one relation is one of another
module _ (R R' : Sent → Known → Type 0) (S S' : Ended → Type 0) (notes notes' : List Note) (sent : List Sent) (more : AreAmong notes notes') (p : Process) (relates : (d : Sent) → Among d sent → is_ask d.called.kind ≡ false → (q : Known) → R d q → R' d q) (says : (e : Ended) → Among e p.fates → S e → S' e) where
  related : Orderly R notes sent p → Orderly R' notes sent p
  related i = record {
    lanes = λ lane o e. let x = i.lanes lane o e in record { over = x.over; kept = x.kept; newest = λ d m is. relates d m is.kind o.since (x.newest d m is); waiting = x.waiting; uncalled = x.uncalled; mine = x.mine };
    store = λ k m. let x = i.store k m in record {
      least = x.least;
      most = x.most;
      has = x.has;
      less = x.less;
      orders = λ lane o e. let y = x.orders lane o e in record { over = y.over; newest = λ d n is. relates d n is.kind o.since (y.newest d n is); mine = y.mine };
    };
    once = i.once;
    named = i.named;
    within = i.within;
  }

  pub good_relates : Good R AnyCommit S notes sent p → Good R' AnyCommit S' notes' sent p
  good_relates g = record {
    orderly = orderly_more R' notes notes' sent p more (related g.orderly);
    mind = g.mind;
    stopped = g.stopped;
    store = g.store;
    sealed = λ e m. says e m (g.sealed e m);
  }

-- WHAT IS SHARED WITH A STORE isn't shared up to less with the next one
shared_up : (clock : ℕ) (t : Bool) (left more : ℕ) → left ≤ more → (if t then min clock left else 0) ≤ (if t then min clock more else 0)
shared_up clock true left more h = omega arith
shared_up clock false left more h = omega arith

-- THE SERVER COMMITS, in its opening
module _ (w : Both) (v : World) (h : Holds w) (x : Faces w) (lawful : Lawful v) (notes : AreAmong w.server.notes v.notes) (next : Next w.server.present v.present) (extends : Extends w.server.present v.present) (same_or_more : (q : Known) → shared q w.server.present ≤ shared q v.present) (less : (n : Note) → Among n w.server.notes → shared n.since v.present ≤ shared n.since w.server.present) where
  abbrev s : Store
  s = w.server.present

  abbrev t : Store
  t = v.present

  nonce : t.opening.nonce ≡ s.opening.nonce
  nonce = ap (λ o. o.nonce) next.opening

  met_before : (d : Sent) → MetBy d t.opening.nonce → MetBy d s.opening.nonce
  met_before d met = subst (λ (n : ℕ). MetBy d n) nonce met

  its_less : (d : Sent) → Among d w.sent → is_ask d.called.kind ≡ false → shared d.called.since t ≤ shared d.called.since s
  its_less d m e = less (note_of d) ((h.calls d m).noted e)

  below : (d : Sent) → shared d.called.since s ≤ s.clock
  below d = shared_below d.called.since s ((lawful_of w.server h.reached).each s (lawful_of w.server h.reached).here).sound

  withdrawn_on : (o : Name) → WasWithdrawn s o → WasWithdrawn t o
  withdrawn_on o y = record { stamp = y.stamp; there = extends.log (record { name = o; stamp = y.stamp; act = Withdrawn }) y.there }

  closed_on : (d : Sent) → Among d w.sent → is_ask d.called.kind ≡ false → (lane number : ℕ) → IsClosed s.horizon (row_of (s.rows lane)) number (shared d.called.since s) → IsClosed t.horizon (row_of (t.rows lane)) number (shared d.called.since t)
  closed_on d m e lane number c = closed_lower t.horizon (row_of (t.rows lane)) number (shared d.called.since s) (shared d.called.since t) (its_less d m e) (extends.keeps.keeps lane number (shared d.called.since s) (below d) c)

  relates_on : (d : Sent) → Among d w.sent → is_ask d.called.kind ≡ false → (q : Known) → Beside s d q → Beside t d q
  relates_on d m e q r k met =
      let a = r k (met_before d met) in
      let b = its_less d m e in
      let c = same_or_more q in
      omega arith

  shut_on : (e : Ended) (f : Fate) → ShutAs s w.sent e f → ShutAs t w.sent e f
  shut_on e fate.Done y = tt
  shut_on e fate.Never y = λ d m is met. withdrawn_on e.name (y d m is (met_before d met))
  shut_on e fate.Unknown y = λ d m is met. closed_on d m is.kind e.name.lane e.name.number (y d m is (met_before d met))

  says_on : (c : Sent) → Among c w.sent → is_ask c.called.kind ≡ false → (said : Word) → SaysNow s c said → SaysNow t c said
  says_on c m e word.Never y = withdrawn_on (name_of c) y
  says_on c m e word.Old y = closed_on c m e c.lane c.called.number y
  says_on c m e word.Stale y = closed_on c m e c.lane c.called.number y
  says_on c m e word.Done y = tt
  says_on c m e word.NotNow y = tt
  says_on c m e word.AtWork y = tt
  says_on c m e word.Forked y = tt
  says_on c m e word.Hello y = tt
  says_on c m e word.Told y = tt

  turned : (r : Reply) → (r.answer.heard.nonce ≡ s.opening.nonce) ⊎ ((d : Sent) → Among d r.before → MetBy d s.opening.nonce → ⊥) → (r.answer.heard.nonce ≡ t.opening.nonce) ⊎ ((d : Sent) → Among d r.before → MetBy d t.opening.nonce → ⊥)
  turned r (inl e) = inl (e ∙ sym nonce)
  turned r (inr none) = inr (λ d m met. none d m (met_before d met))

  pub turn_on : (r : Reply) → Among r w.made → InTurn t w.sent r
  turn_on r m = let y = x.made r m in record {
    own = y.own;
    seen = y.seen;
    turn = turned r y.turn;
    now = λ e k.
        let z = y.now (e ∙ nonce) k in
        let call = (h.made r m).call in
        record {
          on = on_next r.answer.heard s t next z.on;
          since = let a = its_less r.call call k in let b = z.since in omega arith;
          says = says_on r.call call k r.answer.word z.says;
        };
  }

  pub commits_faces : (alive : List Store) (made left : List Reply) → ((r : Reply) → Among r made → InTurn t w.sent r) → ((i : ℕ) (r : Reply) → Among r made → r.call.called.attempt.nonce ≡ (w.clients i).client.nonce → (d : Sent) → Among d w.sent → is_ask d.called.kind ≡ false → Among d.called.tag (w.clients i).nonces → Among d r.before ⊎ (d.called.attempt.nonce ≡ (w.clients i).client.nonce)) → Faces (record w { server = v; alive = alive; made = made; left = left })
  commits_faces alive made left turns since = record {
    made = turns;
    since = since;
    life = λ i d m e own met.
        let k = x.life i d m e own (met_before d met) in
        record { known = k.known; is = k.is; nonce_is = k.nonce_is ∙ sym nonce; stopped = λ q is. k.stopped q is ∙ sym nonce };
    waits = x.waits;
    each = λ i. good_relates (Beside s) (Beside t) (Shut s w.sent) (Shut t w.sent) w.server.notes v.notes w.sent notes (w.clients i) relates_on (λ e m. shut_on e e.fate) (x.each i);
    told = x.told;
  }

-- what is shared with the next store
shared_head : (clock : ℕ) (t u : Bool) (left more : ℕ) (below : Place) → left ≤ more → shared_by clock (if t then record { is_there = u; left = left } else below) ≤ shared_by clock (if t then record { is_there = u; left = more } else below)
shared_head clock true u left more below h = shared_up clock u left more h
shared_head clock false u left more below h = omega arith

next_clock : (s t : Store) → Next s t → s.clock ≤ t.clock
next_clock s t next = by next.clock
  where
    by : (t.clock ≡ s.clock) ⊎ (t.clock ≡ s.clock + 1) → s.clock ≤ t.clock
    by (inl e) = omega arith
    by (inr e) = omega arith

-- a store of the same openings with a clock
abbrev at_clock : Known → Store → ℕ → ℕ
at_clock q s clock = shared_by q.clock (place_in q.opening q.nonce clock (s.opening ∷ s.older))

shared_as : (q : Known) (s t : Store) → Next s t → shared q t ≡ at_clock q s t.clock
shared_as q s t next = ap (λ (x : Opening). shared_by q.clock (place_in q.opening q.nonce t.clock (x ∷ t.older))) next.opening ∙ ap (λ (x : List Opening). shared_by q.clock (place_in q.opening q.nonce t.clock (s.opening ∷ x))) next.older

pub next_more : (q : Known) (s t : Store) → Next s t → shared q s ≤ shared q t
next_more q s t next =
    let up = shared_head q.clock (q.opening == length s.older) (s.opening.nonce == q.nonce) s.clock t.clock (place_in q.opening q.nonce (s.opening.first - 1) s.older) (next_clock s t next) in
    let same = shared_as q s t next in
    subst (λ (n : ℕ). shared q s ≤ n) (sym same) up

pub next_less : (q : Known) (s t : Store) → Next s t → IsHeard q s.clock s.opening s.older → shared q t ≤ shared q s
next_less q s t next was = subst (λ (n : ℕ). n ≤ shared q s) (sym (shared_as q s t next)) (by next.clock)
  where
    by : (t.clock ≡ s.clock) ⊎ (t.clock ≡ s.clock + 1) → at_clock q s t.clock ≤ shared q s
    by (inl e) = subst (λ (n : ℕ). at_clock q s n ≤ shared q s) (sym e) (omega arith)
    by (inr e) = subst (λ (n : ℕ). at_clock q s n ≤ shared q s) (sym e) (shared_goes_on q s.clock s.opening s.older was)

says_now : (notes : List Note) (s : Store) (c : Sent) (heard_at : Known) (value : ℕ) (result : List ℕ) (before : List Sent) (said : Word) → SaysTrue notes s (reply_to c heard_at said value result before) said → SaysNow s c said
says_now notes s c h value result before word.Never y = y
says_now notes s c h value result before word.Old y = y
says_now notes s c h value result before word.Stale y = y
says_now notes s c h value result before word.Done y = tt
says_now notes s c h value result before word.NotNow y = tt
says_now notes s c h value result before word.AtWork y = tt
says_now notes s c h value result before word.Forked y = tt
says_now notes s c h value result before word.Hello y = tt
says_now notes s c h value result before word.Told y = tt

pub handled_faces : (strict : Bool) (w : Both) (s : Sent) (v : World) (said : Word) (value : ℕ) (result : List ℕ) → Holds w → Faces w → Among s w.sent → Handles strict w.server s v said result → Faces (handled w v (reply_to s (heard v.present) said value result w.sent))
handled_faces strict w s v said value result h x m d =
    let g = handling strict w.server s h.reached (h.calls s m).noted v said result d in
    let l = lawful_of v g.reached in
    let old = lawful_of w.server h.reached in
    let r = reply_to s (heard v.present) said value result w.sent in
    let extends = l.path w.server.present v.present (g.past w.server.present old.here) g.here (on_next (heard w.server.present) w.server.present v.present g.next (on_itself w.server.present)) in
    let more = λ (q : Known). next_more q w.server.present v.present g.next in
    let less = λ (n : Note) (y : Among n w.server.notes). next_less n.since w.server.present v.present g.next (note_heard w.server old n y) in
    commits_faces w v h x l g.notes g.next extends more less (v.present ∷ w.alive) (r ∷ w.made) w.left
    (either_of (InTurn v.present w.sent) r w.made (record {
      own = m;
      seen = λ y n. n;
      turn = inl refl;
      now = λ e k. record {
        on = on_itself v.present;
        since = shared_below s.called.since v.present (l.each v.present g.here).sound;
        says = says_now v.notes v.present s (heard v.present) value result w.sent said (g.says (heard v.present) value w.sent);
      };
    }) (turn_on w v h x l g.notes g.next extends more less))
    (λ i. either_of (λ y. y.call.called.attempt.nonce ≡ (w.clients i).client.nonce → (c : Sent) → Among c w.sent → is_ask c.called.kind ≡ false → Among c.called.tag (w.clients i).nonces → Among c y.before ⊎ (c.called.attempt.nonce ≡ (w.clients i).client.nonce)) r w.made (λ e c n k tag. inl n) (x.since i))

pub works_faces : (w : Both) (s : Store) → Holds w → Holds (record w { server = commit w.server s; alive = s ∷ w.alive }) → Faces w → Works w.server s → Faces (record w { server = commit w.server s; alive = s ∷ w.alive })
works_faces w s h h' x d =
    let v = commit w.server s in
    let l = lawful_of v h'.reached in
    let old = lawful_of w.server h.reached in
    let next = by d in
    let extends = l.path w.server.present s (inr old.here) (inl refl) (on_next (heard w.server.present) w.server.present s next (on_itself w.server.present)) in
    let more = λ (q : Known). next_more q w.server.present s next in
    let less = λ (n : Note) (y : Among n w.server.notes). next_less n.since w.server.present s next (note_heard w.server old n y) in
    commits_faces w v h x l (λ n m. m) next extends more less (s ∷ w.alive) w.made w.left (turn_on w v h x l (λ n m. m) next extends more less) x.since
  where
    by : {y : Store} → Works w.server y → Next w.server.present y
    by (finishes lane e result is at_work) = record { opening = refl; older = refl; clock = inr refl }
    by (forgets lane e is other) = record { opening = refl; older = refl; clock = inr refl }

-- THE SERVER OPENS any store that it ever had: nobody knows of that opening
module _ (w : Both) (s : Store) (nonce : ℕ) (h : Holds w) (x : Faces w) (drawn : IsDrawnAnew nonce w.server.past) where
  not_heard : (q : Known) → WasHeard w.server.past q → q.nonce ≢ nonce
  not_heard q was e = (drawn_of nonce w.server.past drawn was.store was.there).0 (sym (ap (λ (k : Known). k.nonce) was.is) ∙ e)

  unmet_by : (knows : Option Known) → MayKnow w.server.past knows → is_met nonce knows ≡ true → ⊥
  unmet_by None may e = cc
  unmet_by (Some q) may e = not_heard q may (grind (arith, nat_tests))

  unmet : (d : Sent) → Among d w.sent → MetBy d nonce → ⊥
  unmet d m met = unmet_by d.called.knows (h.calls d m).knows met

  shut_then : (e : Ended) (f : Fate) → ShutAs (reopened s nonce) w.sent e f
  shut_then e fate.Done = tt
  shut_then e fate.Never = λ d m is met. absurd (unmet d m met)
  shut_then e fate.Unknown = λ d m is met. absurd (unmet d m met)

  pub opened_faces : Faces (opened_server w s nonce)
  opened_faces = record {
    made = λ r m. let y = x.made r m in record {
      own = y.own;
      seen = y.seen;
      turn = inr (λ d n met. unmet d (y.seen d n) met);
      now = λ e k. let z = h.made r m in absurd (not_heard r.answer.heard (record { store = z.store; there = z.there; is = z.is }) e);
    };
    since = x.since;
    life = λ i d m e own met. absurd (unmet d m met);
    waits = x.waits;
    each = λ i. good_relates (Beside w.server.present) (Beside (reopened s nonce)) (Shut w.server.present w.sent) (Shut (reopened s nonce) w.sent) w.server.notes w.server.notes w.sent (λ n m. m) (w.clients i) (λ d m e q r k met. absurd (unmet d m met)) (λ e m y. shut_then e e.fate) (x.each i);
    told = x.told;
  }

pub same_server_faces : (w : Both) (alive : List Store) (left : List Reply) → Faces w → Faces (record w { alive = alive; left = left })
same_server_faces w alive left x = record { made = x.made; since = x.since; life = x.life; waits = x.waits; each = x.each; told = x.told }
