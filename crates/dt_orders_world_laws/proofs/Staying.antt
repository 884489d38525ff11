-- Both ends, where no store is set back: each step keeps what their programs were told.
use Rattle.std.proofs.Common.{◌≡◌, ◌+◌, ◌≤◌, ◌∙◌, ℕ, List, [], ◌∷◌, Bool, true, false, ◌⊎◌, inl, inr, ap, sym, subst, arith, refl}
use Rattle.std.specs.Prelude.{Option, Some, None}
use Rattle.dt_orders_model.specs.declared.knowledge.Known.{Known}
use Rattle.dt_orders_model.specs.declared.lanes.Called.{Called}
use Rattle.dt_orders_model.specs.declared.lanes.Fate.{Fate}
use Rattle.dt_orders_model.specs.declared.lanes.Fate.TheVariants as fate
use Rattle.dt_orders_model.specs.declared.lanes.Lane.{Lane}
use Rattle.dt_orders_model.specs.declared.lanes.Order.{Order}
use Rattle.dt_orders_model.specs.declared.lanes.Word.{Word}
use Rattle.dt_orders_model.specs.declared.lanes.Word.TheVariants as word
use Rattle.dt_orders_model.specs.Closing.{IsClosed}
use Rattle.dt_orders_model.specs.Fates.{WasExecuted, WasWithdrawn}
use Rattle.dt_orders_model.specs.Histories.{Note, World, commit}
use Rattle.dt_orders_model.specs.Judging.{is_ask}
use Rattle.dt_orders_model.specs.Lanes.{is_ask_call, is_of, is_same_attempt}
use Rattle.dt_orders_model.specs.Stores.{Among, Name, Store, Withdrawn, heard, is_on, reopened, row_of}
use Rattle.dt_orders_laws.proofs.Ends.{done_among}
use Rattle.dt_orders_laws.proofs.Lawful.{Extends, Lawful, extends_itself}
use Rattle.dt_orders_laws.proofs.Lists.{either_of, executed_more}
use Rattle.dt_orders_laws.proofs.Moving.{lawful_of}
use Rattle.dt_orders_laws.proofs.Settling.{closed_lower}
use Rattle.dt_orders_laws.proofs.Sound.{Sound}
use Rattle.dt_orders_world_laws.specs.Both.{AreAmong, Both, IsFirm, Told, handled, opened_server, with_client}
use Rattle.dt_orders_world_laws.specs.Clients.{Ended, Process, name_on}
use Rattle.dt_orders_world_laws.specs.Wires.{Handles, Reply, Sent, Works, finishes, forgets, name_of, reply_to}
use Rattle.dt_orders_world_laws.proofs.Asking.{asks_not}
use Rattle.dt_orders_world_laws.proofs.Firm.{GoesOn, firm_on, on_below, on_itself, on_next, on_opened, on_shared}
use Rattle.dt_orders_world_laws.proofs.Good.{Brings, Good, IsToldBy, MayBe, MindIs, Steps}
use Rattle.dt_orders_world_laws.proofs.Holding.{Holds, IsReply, SaysTrue}
use Rattle.dt_orders_world_laws.proofs.Keeping.{its_call, its_name}
use Rattle.dt_orders_world_laws.proofs.Orderly.{ByClock, IsCallOf, OrderOk, orderly_more}
use Rattle.dt_orders_world_laws.proofs.Puts.{at_put}
use Rattle.dt_orders_world_laws.proofs.Serving.{Next, handling}

-- WHAT A FATE SAYS IS SO, and stays so, at each store that a crash may leave
abbrev pub SealedAs : List Store → List Sent → Ended → Fate → Type 0
SealedAs alive sent e fate.Done = (s : Store) → Among s alive → WasExecuted s e.name e.result
SealedAs alive sent e fate.Never = ((s : Store) → Among s alive → WasWithdrawn s e.name) ⊎ ((c : Sent) → Among c sent → IsCallOf c e.name → ⊥)
SealedAs alive sent e fate.Unknown = (c : Sent) → Among c sent → IsCallOf c e.name → (s : Store) → Among s alive → IsClosed s.horizon (row_of (s.rows e.name.lane)) e.name.number c.called.since.clock

abbrev pub Sealed : List Store → List Sent → Ended → Type 0
Sealed alive sent e = SealedAs alive sent e e.fate

-- no crash loses the commit
abbrev pub Firm : List Store → Known → Type 0
Firm alive q = IsFirm q alive

abbrev pub KeptGood : List Note → List Sent → List Store → Process → Type 0
KeptGood notes sent alive p = Good ByClock (Firm alive) (Sealed alive sent) notes sent p

-- WHAT AN ANSWER SAYS by clocks alone
abbrev pub ClosedBy : Store → Sent → Word → Type 0
ClosedBy s c word.Old = IsClosed s.horizon (row_of (s.rows c.lane)) c.called.number c.called.since.clock
ClosedBy s c word.Stale = IsClosed s.horizon (row_of (s.rows c.lane)) c.called.number c.called.since.clock
ClosedBy s c word.Done = Unit {0}
ClosedBy s c word.Never = Unit {0}
ClosedBy s c word.NotNow = Unit {0}
ClosedBy s c word.AtWork = Unit {0}
ClosedBy s c word.Forked = Unit {0}
ClosedBy s c word.Hello = Unit {0}
ClosedBy s c word.Told = Unit {0}

pub record IsLater (past : List Store) (r : Reply) : Type 0 where
  pub store : Store
  pub there : Among store past
  pub is : r.answer.heard ≡ heard store
  pub later : is_ask r.call.called.kind ≡ false → r.call.called.since.clock ≤ store.clock
  pub closed : is_ask r.call.called.kind ≡ false → ClosedBy store r.call r.answer.word

pub record Stays (w : Both) : Type 0 where
  pub present : Among w.server.present w.alive
  pub calls : (s : Sent) → Among s w.sent → is_ask s.called.kind ≡ false → IsFirm s.called.since w.alive
  pub left : (r : Reply) → Among r w.left → IsFirm r.answer.heard w.alive
  pub made : (r : Reply) → Among r w.made → IsLater w.server.past r
  pub each : (i : ℕ) → KeptGood w.server.notes w.sent w.alive (w.clients i)
  pub told : (t : Told) → Among t w.told → IsToldBy (w.clients t.client) t.ended

-- THE SERVER GOES ON
module _ (notes notes' : List Note) (sent : List Sent) (alive alive' : List Store) (more : AreAmong notes notes') (each : (t : Store) → Among t alive' → GoesOn alive t) (sound : (s : Store) → Among s alive → Sound s) (sound' : (s : Store) → Among s alive' → Sound s) (firm : (s : Sent) → Among s sent → is_ask s.called.kind ≡ false → IsFirm s.called.since alive) where
  may_firm : (q : Option Known) → MayBe (Firm alive) q → MayBe (Firm alive') q
  may_firm None h = tt
  may_firm (Some q) h = firm_on alive alive' each q h

  mind_later : (q : Option Known) (lanes : ℕ → Lane) → MindIs (Firm alive) q lanes → MindIs (Firm alive') q lanes
  mind_later q lanes m = record { known = may_firm q m.known; orders = λ lane o e. firm_on alive alive' each o.since (m.orders lane o e) }

  sealed_later : (e : Ended) (f : Fate) → SealedAs alive sent e f → SealedAs alive' sent e f
  sealed_later e fate.Done h = λ t m.
      let g = each t m in
      let x = h g.from g.there in
      let once = x.once in
      done_among g.from t e.name e.result (sound' t m) g.extends.log (executed_more e.name g.from.log t.log g.extends.log (omega arith)) (g.extends.results (record { name = e.name; result = e.result }) x.given)
  sealed_later e fate.Never (inl h) = inl (λ t m. let g = each t m in let x = h g.from g.there in record { stamp = x.stamp; there = g.extends.log (record { name = e.name; stamp = x.stamp; act = Withdrawn }) x.there })
  sealed_later e fate.Never (inr h) = inr h
  sealed_later e fate.Unknown h = λ c m is t n.
      let g = each t n in
      g.extends.keeps.keeps e.name.lane e.name.number c.called.since.clock (on_below c.called.since g.from (sound g.from g.there) (firm c m is.kind g.from g.there)) (h c m is g.from g.there)

  pub good_later : (p : Process) → KeptGood notes sent alive p → KeptGood notes' sent alive' p
  good_later p g = record {
    orderly = orderly_more ByClock notes notes' sent p more g.orderly;
    mind = mind_later p.client.known p.lanes g.mind;
    stopped = may_firm p.client.stopped g.stopped;
    store = λ k m. mind_later k.known k.lanes (g.store k m);
    sealed = λ e m. sealed_later e e.fate (g.sealed e m);
  }

later_more : (past past' : List Store) → AreAmong past past' → (r : Reply) → IsLater past r → IsLater past' r
later_more past past' more r x = record { store = x.store; there = more x.store x.there; is = x.is; later = x.later; closed = x.closed }

pub server_stays : (w : Both) (v : World) (alive : List Store) (made left : List Reply) → Holds w → Lawful v → Stays w → AreAmong w.server.notes v.notes → AreAmong alive v.past → Among v.present alive → ((t : Store) → Among t alive → GoesOn w.alive t) → ((r : Reply) → Among r made → IsLater v.past r) → ((r : Reply) → Among r left → IsFirm r.answer.heard alive) → Stays (record w { server = v; alive = alive; made = made; left = left })
server_stays w v alive made left h l x notes within here each replies firm =
    let old = lawful_of w.server h.reached in
    record {
      present = here;
      calls = λ s m e. firm_on w.alive alive each s.called.since (x.calls s m e);
      left = firm;
      made = replies;
      each = λ i. good_later w.server.notes v.notes w.sent w.alive alive notes each (λ s m. (old.each s (h.alive s m)).sound) (λ s m. (l.each s (within s m)).sound) x.calls (w.clients i) (x.each i);
      told = x.told;
    }

firm_then : (w : Both) (alive : List Store) → Stays w → ((t : Store) → Among t alive → GoesOn w.alive t) → (r : Reply) → Among r w.left → IsFirm r.answer.heard alive
firm_then w alive x each r m = firm_on w.alive alive each r.answer.heard (x.left r m)

-- a store that was alive goes on as it is
itself : (alive : List Store) (t : Store) → Among t alive → GoesOn alive t
itself alive t m = record { from = t; there = m; on = λ q e. e; extends = extends_itself t }

-- and the next one of the present
next_on : (w : Both) (v : World) → Stays w → Lawful v → Among w.server.present v.past → Among v.present v.past → Next w.server.present v.present → GoesOn w.alive v.present
next_on w v x l was is next = record {
  from = w.server.present;
  there = x.present;
  on = λ q e. on_next q w.server.present v.present next e;
  extends = l.path w.server.present v.present was is (on_next (heard w.server.present) w.server.present v.present next (on_itself w.server.present));
}

closed_of : (notes : List Note) (s : Store) (c : Sent) (heard_at : Known) (value : ℕ) (result : List ℕ) (before : List Sent) (said : Word) → is_on c.called.since s ≡ true → SaysTrue notes s (reply_to c heard_at said value result before) said → ClosedBy s c said
closed_of notes s c h value result before word.Old e says = subst (λ (x : ℕ). IsClosed s.horizon (row_of (s.rows c.lane)) c.called.number x) (on_shared c.called.since s e) says
closed_of notes s c h value result before word.Stale e says = subst (λ (x : ℕ). IsClosed s.horizon (row_of (s.rows c.lane)) c.called.number x) (on_shared c.called.since s e) says
closed_of notes s c h value result before word.Done e says = tt
closed_of notes s c h value result before word.Never e says = tt
closed_of notes s c h value result before word.NotNow e says = tt
closed_of notes s c h value result before word.AtWork e says = tt
closed_of notes s c h value result before word.Forked e says = tt
closed_of notes s c h value result before word.Hello e says = tt
closed_of notes s c h value result before word.Told e says = tt

pub handled_stays : (strict : Bool) (w : Both) (s : Sent) (v : World) (said : Word) (value : ℕ) (result : List ℕ) → Holds w → Stays w → Among s w.sent → Handles strict w.server s v said result → Stays (handled w v (reply_to s (heard v.present) said value result w.sent))
handled_stays strict w s v said value result h x m d =
    let g = handling strict w.server s h.reached (h.calls s m).noted v said result d in
    let l = lawful_of v g.reached in
    let old = lawful_of w.server h.reached in
    let r = reply_to s (heard v.present) said value result w.sent in
    let next = next_on w v x l (g.past w.server.present old.here) g.here g.next in
    let each = either_of (GoesOn w.alive) v.present w.alive next (itself w.alive) in
    let on = λ (e : is_ask s.called.kind ≡ false). on_next s.called.since w.server.present v.present g.next (x.calls s m e w.server.present x.present) in
    server_stays w v (v.present ∷ w.alive) (r ∷ w.made) w.left h l x g.notes
    (either_of (λ y. Among y v.past) v.present w.alive g.here (λ y n. g.past y (h.alive y n))) (inl refl) each
    (either_of (IsLater v.past) r w.made (record {
      store = v.present;
      there = g.here;
      is = refl;
      later = λ e. on_below s.called.since v.present (l.each v.present g.here).sound (on e);
      closed = λ e. closed_of v.notes v.present s (heard v.present) value result w.sent said (on e) (g.says (heard v.present) value w.sent);
    }) (λ y n. later_more w.server.past v.past g.past y (x.made y n)))
    (firm_then w (v.present ∷ w.alive) x each)

pub works_stays : (w : Both) (s : Store) → Holds w → Holds (record w { server = commit w.server s; alive = s ∷ w.alive }) → Stays w → Works w.server s → Stays (record w { server = commit w.server s; alive = s ∷ w.alive })
works_stays w s h h' x d =
    let v = commit w.server s in
    let l = lawful_of v h'.reached in
    let old = lawful_of w.server h.reached in
    let next = next_on w v x l (inr old.here) (inl refl) (by d) in
    let each = either_of (GoesOn w.alive) s w.alive next (itself w.alive) in
    server_stays w v (s ∷ w.alive) w.made w.left h l x (λ n m. m) h'.alive (inl refl) each
    (λ r m. later_more w.server.past v.past (λ y n. inr n) r (x.made r m)) (firm_then w (s ∷ w.alive) x each)
  where
    by : {y : Store} → Works w.server y → Next w.server.present y
    by (finishes lane e result is at_work) = record { opening = refl; older = refl; clock = inr refl }
    by (forgets lane e is other) = record { opening = refl; older = refl; clock = inr refl }

pub opened_stays : (w : Both) (s : Store) (nonce : ℕ) → Holds w → Holds (opened_server w s nonce) → Stays w → Among s w.alive → Stays (opened_server w s nonce)
opened_stays w s nonce h h' x m =
    let v = commit w.server (reopened s nonce) in
    let l = lawful_of v h'.reached in
    let goes : GoesOn w.alive (reopened s nonce) = record {
      from = s;
      there = m;
      on = λ q e. on_opened q s nonce e;
      extends = l.path s (reopened s nonce) (inr (h.alive s m)) (inl refl) (on_opened (heard s) s nonce (on_itself s));
    } in
    let each = either_of (GoesOn w.alive) (reopened s nonce) [] goes (λ t n. elim n [ ]) in
    server_stays w v (reopened s nonce ∷ []) w.made w.left h l x (λ n y. y) h'.alive (inl refl) each
    (λ r n. later_more w.server.past v.past (λ y z. inr z) r (x.made r n)) (firm_then w (reopened s nonce ∷ []) x each)

pub synced_stays : (w : Both) (kept : List Store) → Holds w → Stays w → AreAmong kept w.alive → Among w.server.present kept → Stays (record w { alive = kept })
synced_stays w kept h x some here =
    let each = λ (t : Store) (m : Among t kept). itself w.alive t (some t m) in
    server_stays w w.server kept w.made w.left h (lawful_of w.server h.reached) x (λ n y. y) (λ t m. h.alive t (some t m)) here each x.made (firm_then w kept x each)

pub left_stays : (w : Both) (r : Reply) → Holds w → Stays w → IsFirm r.answer.heard w.alive → Stays (record w { left = r ∷ w.left })
left_stays w r h x firm =
    server_stays w w.server w.alive w.made (r ∷ w.left) h (lawful_of w.server h.reached) x (λ n y. y) h.alive x.present (itself w.alive) x.made
    (either_of (λ y. IsFirm y.answer.heard w.alive) r w.left firm x.left)

-- A CLIENT STEPS by itself
pub client_stays : (w : Both) (i : ℕ) (q : Process) → Stays w → Steps ByClock (Firm w.alive) (Sealed w.alive w.sent) w.server.notes w.sent (w.clients i) q → Stays (with_client w i q)
client_stays w i q x s = record {
  present = x.present;
  calls = x.calls;
  left = x.left;
  made = x.made;
  each = at_put (λ j y. KeptGood w.server.notes w.sent w.alive y) w.clients i q s.good x.each;
  told = λ t m. at_put (λ j y. IsToldBy (w.clients j) t.ended → IsToldBy y t.ended) w.clients i q (s.keeps t.ended) (λ j y. y) t.client (x.told t m);
}

-- WHAT AN ANSWER THAT IS HEARD brings about
module _ (w : Both) (h : Holds w) (x : Stays w) (i lane : ℕ) (c : Called) (r : Reply) (m : Among r w.left) (waiting : (w.clients i).waits lane ≡ Some c) (o : Order) (is : ((w.clients i).lanes lane).order ≡ Some o) (of : is_of (Some o) c ≡ true) (same : is_same_attempt c.attempt r.answer.attempt ≡ true) where
  abbrev p : Process
  p = w.clients i

  reply : IsReply w.server.notes w.server.past w.sent r
  reply = h.made r (h.left r m)

  later : IsLater w.server.past r
  later = x.made r (h.left r m)

  lawful : Lawful w.server
  lawful = lawful_of w.server h.reached

  call : r.call ≡ record { lane = lane; called = c }
  call = its_call w.server.notes w.server.past w.sent p lane c r (h.each i) reply waiting h.alone same

  name : name_of r.call ≡ name_on lane o
  name = its_name w.server.notes w.server.past w.sent p lane c r (h.each i) reply waiting h.alone o same of

  ok : OrderOk ByClock w.sent p.fates p.alive p.nonces (p.waits lane) lane (p.lanes lane).record_number (p.lanes lane).is_fresh o
  ok = (x.each i).orderly.lanes lane o is

  since : r.call.called.since ≡ o.since
  since = ap (λ (s : Sent). s.called.since) call ∙ ok.waiting c waiting of

  not_ask : is_ask r.call.called.kind ≡ false
  not_ask = subst (λ (s : Sent). is_ask s.called.kind ≡ false) (sym call) (asks_not o c (is_ask_call c.kind) refl of)

  clock : o.since.clock ≤ later.store.clock
  clock = subst (λ (q : Known). q.clock ≤ later.store.clock) since (later.later not_ask)

  from_reply : (s : Store) → Among s w.alive → Extends reply.store s
  from_reply s a = lawful.path reply.store s reply.there (h.alive s a) (subst (λ (q : Known). is_on q s ≡ true) reply.is (x.left r m s a))

  from_later : (s : Store) → Among s w.alive → Extends later.store s
  from_later s a = lawful.path later.store s later.there (h.alive s a) (subst (λ (q : Known). is_on q s ≡ true) later.is (x.left r m s a))

  done_brings : WasExecuted reply.store (name_of r.call) r.result → (s : Store) → Among s w.alive → WasExecuted s (name_on lane o) r.result
  done_brings says s a =
      let here : WasExecuted reply.store (name_on lane o) r.result = subst (λ (n : Name). WasExecuted reply.store n r.result) name says in
      let e = from_reply s a in
      let once = here.once in
      done_among reply.store s (name_on lane o) r.result (lawful.each s (h.alive s a)).sound e.log (executed_more (name_on lane o) reply.store.log s.log e.log (omega arith)) (e.results (record { name = name_on lane o; result = r.result }) here.given)

  never_brings : WasWithdrawn reply.store (name_of r.call) → (s : Store) → Among s w.alive → WasWithdrawn s (name_on lane o)
  never_brings says s a =
      let here : WasWithdrawn reply.store (name_on lane o) = subst (λ (n : Name). WasWithdrawn reply.store n) name says in
      record { stamp = here.stamp; there = (from_reply s a).log (record { name = name_on lane o; stamp = here.stamp; act = Withdrawn }) here.there }

  closed_brings : IsClosed later.store.horizon (row_of (later.store.rows r.call.lane)) r.call.called.number r.call.called.since.clock → (d : Sent) → Among d w.sent → IsCallOf d (name_on lane o) → (s : Store) → Among s w.alive → IsClosed s.horizon (row_of (s.rows lane)) o.number d.called.since.clock
  closed_brings closed d n is_call s a =
      let there : IsClosed later.store.horizon (row_of (later.store.rows lane)) o.number r.call.called.since.clock = subst (λ (y : Name). IsClosed later.store.horizon (row_of (later.store.rows y.lane)) y.number r.call.called.since.clock) name closed in
      let at : IsClosed later.store.horizon (row_of (later.store.rows lane)) o.number o.since.clock = subst (λ (q : Known). IsClosed later.store.horizon (row_of (later.store.rows lane)) o.number q.clock) since there in
      closed_lower s.horizon (row_of (s.rows lane)) o.number o.since.clock d.called.since.clock (ok.newest d n is_call) ((from_later s a).keeps.keeps lane o.number o.since.clock clock at)

  brings_by : (said : Word) → r.answer.word ≡ said → Brings ByClock (Firm w.alive) (Sealed w.alive w.sent) w.server.notes w.sent o lane (p.number + 1) r said
  brings_by word.Done e = done_brings (subst (λ (y : Word). SaysTrue w.server.notes reply.store r y) e reply.says)
  brings_by word.Never e = inl (never_brings (subst (λ (y : Word). SaysTrue w.server.notes reply.store r y) e reply.says))
  brings_by word.Old e = closed_brings (subst (λ (y : Word). ClosedBy later.store r.call y) e (later.closed not_ask))
  brings_by word.Stale e = closed_brings (subst (λ (y : Word). ClosedBy later.store r.call y) e (later.closed not_ask))
  brings_by word.NotNow e = λ s n is_call. let a = ok.newest s n is_call in let b : o.since.clock ≤ r.answer.heard.clock = subst (λ (q : Known). o.since.clock ≤ q.clock) (sym later.is) clock in omega arith
  brings_by word.AtWork e = tt
  brings_by word.Forked e = tt
  brings_by word.Hello e = tt
  brings_by word.Told e = tt

  pub brings_of : Brings ByClock (Firm w.alive) (Sealed w.alive w.sent) w.server.notes w.sent o lane (p.number + 1) r r.answer.word
  brings_of = brings_by r.answer.word refl
