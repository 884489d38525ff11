-- Where no store is set back: a client's calls and notes.
use Rattle.std.proofs.Common.{◌≡◌, ◌≢◌, ◌+◌, ◌≤◌, ◌∙◌, ℕ, List, [], ◌∷◌, false, inl, inr, ap, sym, subst, arith, refl}
use Rattle.std.specs.Prelude.{Option, Some, None}
use Rattle.dt_orders_model.specs.declared.knowledge.Known.{Known}
use Rattle.dt_orders_model.specs.declared.lanes.Called.{Called}
use Rattle.dt_orders_model.specs.declared.lanes.Fate.{Fate}
use Rattle.dt_orders_model.specs.declared.lanes.Fate.TheVariants as fate
use Rattle.dt_orders_model.specs.declared.lanes.Lane.{Lane}
use Rattle.dt_orders_model.specs.declared.lanes.Order.{Order}
use Rattle.dt_orders_model.specs.Histories.{Note, noted}
use Rattle.dt_orders_model.specs.Judging.{is_ask}
use Rattle.dt_orders_model.specs.Lanes.{call_of, given_of}
use Rattle.dt_orders_model.specs.Stores.{Among, Store}
use Rattle.dt_orders_laws.proofs.Lists.{either_of}
use Rattle.dt_orders_world_laws.specs.Both.{AreAmong, Both, IsFirm, MayAsk, Rules, Runs, Step, Told, adopts, asks, begins, calls, cancels, dies, ends, first_both, gives, handles, hears, leaves, makes, opens, restores, set_back, stores, syncs, tells, with_client, works}
use Rattle.dt_orders_world_laws.specs.Both as both
use Rattle.dt_orders_world_laws.specs.Clients.{Ended, Process, asked_on, attempt_of, called_on, name_on, noted_on, question_of}
use Rattle.dt_orders_world_laws.specs.Wires.{Sent}
use Rattle.dt_orders_world_laws.proofs.Good.{IsToldBy, adopted_ok, cancelled_ok, ended_ok, heard_ok, opened_ok, stored_ok, told_left}
use Rattle.dt_orders_world_laws.proofs.Holding.{Holds}
use Rattle.dt_orders_world_laws.proofs.Noting.{asker_good, beside_question, its_lane, its_note, its_since, maker_is, noted_good, noter_good, other_good, told_noted}
use Rattle.dt_orders_world_laws.proofs.Orderly.{ByClock, IsCallOf}
use Rattle.dt_orders_world_laws.proofs.Puts.{apart, at_put, at_put_at, none_is, some_is}
use Rattle.dt_orders_world_laws.proofs.Staying.{Firm, KeptGood, Sealed, SealedAs, Stays, brings_of, client_stays, handled_stays, left_stays, opened_stays, synced_stays, works_stays}
use Rattle.dt_orders_world_laws.proofs.Stepping.{gave_is, holds_of, step_holds}

-- A CALL MORE, of none of the orders that have a fate
sealed_more : (alive : List Store) (sent : List Sent) (s : Sent) (e : Ended) (f : Fate) → (IsCallOf s e.name → ⊥) → SealedAs alive sent e f → SealedAs alive (s ∷ sent) e f
sealed_more alive sent s e fate.Done other h = h
sealed_more alive sent s e fate.Never other (inl h) = inl h
sealed_more alive sent s e fate.Never other (inr h) = inr (either_of (λ c. IsCallOf c e.name → ⊥) s sent other h)
sealed_more alive sent s e fate.Unknown other h = either_of (λ c. IsCallOf c e.name → (t : Store) → Among t alive → _) s sent (λ is. absurd (other is)) h

pub makes_stays : (w : Both) (i : ℕ) (s : Sent) (p : Process) → Stays w → (is_ask s.called.kind ≡ false → IsFirm s.called.since w.alive) → KeptGood w.server.notes (s ∷ w.sent) w.alive p → ((e : Ended) → IsToldBy (w.clients i) e → IsToldBy p e) → ((j : ℕ) → j ≢ i → KeptGood w.server.notes (s ∷ w.sent) w.alive (w.clients j)) → Stays (makes w i p s)
makes_stays w i s p x firm good keeps others = record {
  present = x.present;
  calls = either_of (λ c. is_ask c.called.kind ≡ false → IsFirm c.called.since w.alive) s w.sent firm x.calls;
  left = x.left;
  made = x.made;
  each = at_put_at (λ j y. KeptGood w.server.notes (s ∷ w.sent) w.alive y) w.clients i p good others;
  told = λ t m. at_put (λ j y. IsToldBy (w.clients j) t.ended → IsToldBy y t.ended) w.clients i p (keeps t.ended) (λ j y. y) t.client (x.told t m);
}

asks_stays : (w : Both) (i lane : ℕ) (since : Known) (knows : Option Known) → Stays w → Stays (makes w i (asked_on (w.clients i) lane (question_of (w.clients i) since knows)) (record { lane = lane; called = question_of (w.clients i) since knows }))
asks_stays w i lane since knows x =
    let p = w.clients i in
    let s : Sent = record { lane = lane; called = question_of p since knows } in
    let more = λ (e : Ended). sealed_more w.alive w.sent s e e.fate in
    makes_stays w i s (asked_on p lane s.called) x (λ e. absurd (apart refl e))
    (asker_good ByClock (Firm w.alive) (Sealed w.alive w.sent) (Sealed w.alive (s ∷ w.sent)) w.server.notes w.sent lane since knows p more (x.each i))
    (λ e t. record { there = t.there; kept = t.kept })
    (λ j other. beside_question ByClock (Firm w.alive) (Sealed w.alive w.sent) (Sealed w.alive (s ∷ w.sent)) w.server.notes w.sent lane since knows p more (w.clients j) (x.each j))

calls_stays : (w : Both) (h : Holds w) (x : Stays w) (i lane : ℕ) (c : Called) → call_of (w.clients i).client ((w.clients i).lanes lane) (w.clients i).stored (attempt_of (w.clients i)) ≡ Some c → Stays (makes w i (called_on (w.clients i) lane c) (record { lane = lane; called = c }))
calls_stays w h x i lane c e =
    let s : Sent = record { lane = lane; called = c } in
    let more = λ (f : Ended). sealed_more w.alive w.sent s f f.fate in
    let same : c.since.clock ≤ c.since.clock = omega arith in
    makes_stays w i s (called_on (w.clients i) lane c) x
    (λ k. its_since ByClock (Firm w.alive) (Sealed w.alive w.sent) (Sealed w.alive (s ∷ w.sent)) w h x.each i lane c e same more)
    (maker_is ByClock (Firm w.alive) (Sealed w.alive w.sent) (Sealed w.alive (s ∷ w.sent)) w h x.each i lane c e same more)
    (λ f t. record { there = t.there; kept = t.kept })
    (other_good ByClock (Firm w.alive) (Sealed w.alive w.sent) (Sealed w.alive (s ∷ w.sent)) w h x.each i lane c e same more)

module _ (w : Both) (h : Holds w) (x : Stays w) (i lane uid : ℕ) (q : Known) (knows : (w.clients i).client.known ≡ Some q) (free : ((w.clients i).lanes lane).order ≡ None) where
  abbrev its : Note
  its = its_note ByClock (Firm w.alive) (Sealed w.alive w.sent) w h x.each i lane uid q knows free

  abbrev then_lane : Lane
  then_lane = its_lane ByClock (Firm w.alive) (Sealed w.alive w.sent) w h x.each i lane uid q knows free

  pub notes_stays : Stays (record (with_client w i (noted_on (w.clients i) lane then_lane)) { server = noted w.server its })
  notes_stays = record {
    present = x.present;
    calls = x.calls;
    left = x.left;
    made = x.made;
    each = at_put (λ j y. KeptGood (its ∷ w.server.notes) w.sent w.alive y) w.clients i (noted_on (w.clients i) lane then_lane)
        (noter_good ByClock (Firm w.alive) (Sealed w.alive w.sent) w h x.each i lane uid q knows free)
        (noted_good ByClock (Firm w.alive) (Sealed w.alive w.sent) w h x.each i lane uid q knows free);
    told = λ t m. at_put (λ j y. IsToldBy (w.clients j) t.ended → IsToldBy y t.ended) w.clients i (noted_on (w.clients i) lane then_lane)
        (told_noted ByClock (Firm w.alive) (Sealed w.alive w.sent) w h x.each i lane uid q knows free t.ended) (λ j y. y) t.client (x.told t m);
  }

gives_stays : (w : Both) (h : Holds w) (x : Stays w) (i lane uid : ℕ) (l : Lane) (o : Order) → given_of (w.clients i).client ((w.clients i).lanes lane) uid ((w.clients i).number + 1) ≡ Some l → l.order ≡ Some o → Stays (record (with_client w i (noted_on (w.clients i) lane l)) { server = noted w.server (record { name = name_on lane o; since = o.since }) })
gives_stays w h x i lane uid l o e is =
    let p = w.clients i in
    let g = gave_is p.client (p.lanes lane) uid (p.number + 1) l e in
    let its : Order = record { uid = uid; number = (p.lanes lane).last + 1; tag = p.client.nonce; since = g.known } in
    let same : its ≡ o = some_is its o (sym (ap (λ (y : Lane). y.order) g.is) ∙ is) in
    subst (λ (y : Order). Stays (record (with_client w i (noted_on p lane l)) { server = noted w.server (record { name = name_on lane y; since = y.since }) })) same
    (subst (λ (y : Lane). Stays (record (with_client w i (noted_on p lane y)) { server = noted w.server (record { name = name_on lane its; since = its.since }) })) (sym g.is)
    (notes_stays w h x i lane uid g.known g.knows g.free))

-- a fate is told
tells_stays : (w : Both) (i : ℕ) (e : Ended) → Stays w → Among e (w.clients i).fates → e.record_number ≤ (w.clients i).stored → Stays (record w { told = record { client = i; ended = e } ∷ w.told })
tells_stays w i e x m within = record {
  present = x.present;
  calls = x.calls;
  left = x.left;
  made = x.made;
  each = x.each;
  told = either_of (λ t. IsToldBy (w.clients t.client) t.ended) (record { client = i; ended = e }) w.told
      (record { there = m; kept = λ k n. let s = (x.each i).orderly.store k n in let least = s.least in s.has e m (omega arith) }) x.told;
}

-- no store is set back
pub record AreKept (rules : Rules) : Type 0 where
  pub server : rules.server ≡ false
  pub clients : rules.clients ≡ false

-- EACH STEP
pub step_stays : (rules : Rules) (w v : Both) → AreKept rules → Holds w → Holds v → Stays w → Step rules w v → Stays v
step_stays rules w v k h h' x (handles s y said value result m d) = handled_stays rules.strict w s y said value result h x m d
step_stays rules w v k h h' x (works s d) = works_stays w s h h' x d
step_stays rules w v k h h' x (syncs kept some m) = synced_stays w kept h x some m
step_stays rules w v k h h' x (leaves r m firm) = left_stays w r h x firm
step_stays rules w v k h h' x (opens s nonce m drawn) = opened_stays w s nonce h h' x m
step_stays rules w v k h h' x (set_back may s nonce m drawn) = absurd (apart may k.server)
step_stays rules w v k h h' x (gives i lane uid l o e is) = gives_stays w h x i lane uid l o e is
step_stays rules w v k h h' x (calls i lane c e) = calls_stays w h x i lane c e
step_stays rules w v k h h' x (asks i lane since knows may) = asks_stays w i lane since knows x
step_stays rules w v k h h' x (ends i lane) = client_stays w i _ x (record { good = ended_ok ByClock (Firm w.alive) (Sealed w.alive w.sent) w.server.notes w.sent (w.clients i) lane (x.each i); keeps = λ e t. record { there = t.there; kept = t.kept } })
step_stays rules w v k h h' x (hears i lane c r m e) = client_stays w i _ x (heard_ok ByClock (Firm w.alive) (Sealed w.alive w.sent) w.server.notes w.sent (w.clients i) lane c r (x.each i) ((h.each i).mind.orders lane) (x.left r m) (h.each i).once (λ o is of same used. brings_of w h x i lane c r m e o is of same))
step_stays rules w v k h h' x (cancels i lane) = client_stays w i _ x (record { good = cancelled_ok ByClock (Firm w.alive) (Sealed w.alive w.sent) w.server.notes w.sent (w.clients i) lane ((h.each i).mind.orders lane) (λ e never heard none. subst (λ f. SealedAs w.alive w.sent e f) (sym never) (inr none)) (x.each i); keeps = λ e t. told_left ByClock (Firm w.alive) (Sealed w.alive w.sent) w.server.notes w.sent (w.clients i) lane _ _ e t })
step_stays rules w v k h h' x (adopts i all) = client_stays w i _ x (record { good = adopted_ok ByClock (Firm w.alive) (Sealed w.alive w.sent) w.server.notes w.sent (w.clients i) (x.each i); keeps = λ e t. record { there = t.there; kept = either_of (λ y. Among e y.fates) _ (w.clients i).alive t.there t.kept } })
step_stays rules w v k h h' x (stores i stored kept within some least) = client_stays w i _ x (record { good = stored_ok ByClock (Firm w.alive) (Sealed w.alive w.sent) w.server.notes w.sent (w.clients i) stored kept (x.each i) within some least; keeps = λ e t. record { there = t.there; kept = λ y n. t.kept y (some y n) } })
step_stays rules w v k h h' x (tells i e m within) = tells_stays w i e x m within
step_stays rules w v k h h' x (dies i nonce y m fresh) = client_stays w i _ x (record { good = opened_ok ByClock (Firm w.alive) (Sealed w.alive w.sent) w.server.notes w.sent (w.clients i) y nonce (x.each i) m; keeps = λ e t. record { there = t.kept y m; kept = either_of (λ z. Among e z.fates) y [] (t.kept y m) (λ z n. elim n [ ]) } })
step_stays rules w v k h h' x (restores may i nonce y m fresh) = absurd (apart may k.clients)

-- the first world
first_stays : (nonce : ℕ) (nonces : ℕ → ℕ) → Stays (first_both nonce nonces)
first_stays nonce nonces = record {
  present = inl refl;
  calls = λ s m e. elim m [ ];
  left = λ r m. elim m [ ];
  made = λ r m. elim m [ ];
  each = λ i. record {
    orderly = record {
      lanes = λ lane o e. absurd (none_is o e);
      store = either_of _ _ [] (record { least = omega arith; most = omega arith; has = λ e m within. m; less = λ e m. m; orders = λ lane o e. absurd (none_is o e) }) (λ k m. elim m [ ]);
      once = λ e f m n same. elim m [ ];
      named = λ e m. elim m [ ];
      within = omega arith;
    };
    mind = record { known = tt; orders = λ lane o e. absurd (none_is o e) };
    stopped = tt;
    store = either_of _ _ [] (record { known = tt; orders = λ lane o e. absurd (none_is o e) }) (λ k m. elim m [ ]);
    sealed = λ e m. elim m [ ];
  };
  told = λ t m. elim m [ ];
}

-- EACH HISTORY without a set back
pub stays_of : (rules : Rules) (w : Both) → AreKept rules → Runs rules w → Stays w
stays_of rules w k (begins nonce nonces differ) = first_stays nonce nonces
stays_of rules w k (both.goes {w = u} v r s) = let h = holds_of rules u r in step_stays rules u v k h (step_holds rules u v h s) (stays_of rules u k r) s
