-- What a client keeps in order while its store isn't set back.
use Rattle.std.proofs.Common.{◌≡◌, ◌≢◌, ◌+◌, ◌≤◌, ◌∙◌, ℕ, List, [], ◌∷◌, Bool, true, false, inl, inr, ap, sym, subst, arith, refl}
use Rattle.std.specs.Prelude.{Option, Some, None}
use Rattle.dt_orders_model.specs.declared.knowledge.Known.{Known}
use Rattle.dt_orders_model.specs.declared.lanes.Called.{Called}
use Rattle.dt_orders_model.specs.declared.lanes.Client.{Client}
use Rattle.dt_orders_model.specs.declared.lanes.Lane.{Lane}
use Rattle.dt_orders_model.specs.declared.lanes.Order.{Order}
use Rattle.dt_orders_model.specs.Histories.{Note}
use Rattle.dt_orders_model.specs.Judging.{is_ask}
use Rattle.dt_orders_model.specs.Lanes.{is_of}
use Rattle.dt_orders_model.specs.Stores.{Among, Name}
use Rattle.dt_orders_laws.proofs.Lists.{either_of}
use Rattle.dt_orders_world_laws.specs.Both.{AreAmong}
use Rattle.dt_orders_world_laws.specs.Clients.{Ended, Kept, Process, kept_of, name_on, opened_on, put_at, recorded, with_lane}
use Rattle.dt_orders_world_laws.specs.Wires.{Sent, name_of}
use Rattle.dt_orders_world_laws.proofs.Puts.{at_put, at_put_at, apart, none_is}

-- a call of an order
pub record IsCallOf (s : Sent) (o : Name) : Type 0 where
  pub kind : is_ask s.called.kind ≡ false
  pub name : name_of s ≡ o

-- a call's since isn't newer, by its clock
abbrev pub ByClock : Sent → Known → Type 0
ByClock s q = s.called.since.clock ≤ q.clock

-- AN ORDER OF A LANE, in memory. `R` says that a call's since isn't newer than the order's
pub record OrderOk (R : Sent → Known → Type 0) (sent : List Sent) (fates : List Ended) (alive : List Kept) (nonces : List ℕ) (waits : Option Called) (lane at : ℕ) (fresh : Bool) (o : Order) : Type 0 where
  pub over : (e : Ended) → Among e fates → name_on lane o ≢ e.name
  pub kept : (k : Kept) → Among k alive → at ≤ k.number → (k.lanes lane).order ≡ Some o
  pub newest : (s : Sent) → Among s sent → IsCallOf s (name_on lane o) → R s o.since
  pub waiting : (c : Called) → waits ≡ Some c → is_of (Some o) c ≡ true → c.since ≡ o.since
  pub uncalled : fresh ≡ true → (s : Sent) → Among s sent → IsCallOf s (name_on lane o) → ⊥
  pub mine : Among o.tag nonces

abbrev pub LaneOk : (Sent → Known → Type 0) → List Sent → List Ended → List Kept → List ℕ → Option Called → ℕ → Lane → Type 0
LaneOk R sent fates alive nonces waits lane l = (o : Order) → l.order ≡ Some o → OrderOk R sent fates alive nonces waits lane l.record_number l.is_fresh o

-- an order of a lane, in the store
pub record StoredOk (R : Sent → Known → Type 0) (sent : List Sent) (fates : List Ended) (nonces : List ℕ) (lane : ℕ) (o : Order) : Type 0 where
  pub over : (e : Ended) → Among e fates → name_on lane o ≢ e.name
  pub newest : (s : Sent) → Among s sent → IsCallOf s (name_on lane o) → R s o.since
  pub mine : Among o.tag nonces

pub record KeptOk (R : Sent → Known → Type 0) (sent : List Sent) (all : List Ended) (nonces : List ℕ) (stored last : ℕ) (k : Kept) : Type 0 where
  pub least : stored ≤ k.number
  pub most : k.number ≤ last
  pub has : (e : Ended) → Among e all → e.record_number ≤ k.number → Among e k.fates
  pub less : AreAmong k.fates all
  pub orders : (lane : ℕ) (o : Order) → (k.lanes lane).order ≡ Some o → StoredOk R sent k.fates nonces lane o

pub record NamedBy (notes : List Note) (nonces : List ℕ) (e : Ended) : Type 0 where
  pub note : Note
  pub there : Among note notes
  pub name : note.name ≡ e.name
  pub mine : Among e.name.tag nonces

pub record Orderly (R : Sent → Known → Type 0) (notes : List Note) (sent : List Sent) (p : Process) : Type 0 where
  pub lanes : (lane : ℕ) → LaneOk R sent p.fates p.alive p.nonces (p.waits lane) lane (p.lanes lane)
  pub store : (k : Kept) → Among k p.alive → KeptOk R sent p.fates p.nonces p.stored p.number k
  pub once : (e f : Ended) → Among e p.fates → Among f p.fates → e.name ≡ f.name → e ≡ f
  pub named : (e : Ended) → Among e p.fates → NamedBy notes p.nonces e
  pub within : p.stored ≤ p.number

module _ (R : Sent → Known → Type 0) (notes : List Note) (sent : List Sent) where
  abbrev In : Process → Type 0
  In = Orderly R notes sent

  -- a lane is put
  pub lane_in : (p : Process) (lane : ℕ) (l : Lane) → In p → LaneOk R sent p.fates p.alive p.nonces (p.waits lane) lane l → In (with_lane p lane l)
  lane_in p lane l i ok = record {
    lanes = at_put (λ n x. LaneOk R sent p.fates p.alive p.nonces (p.waits n) n x) p.lanes lane l ok i.lanes;
    store = i.store;
    once = i.once;
    named = i.named;
    within = i.within;
  }

  -- one with the same order, as it is in the same record
  pub same_in : (p : Process) (lane : ℕ) (l : Lane) → In p → l.order ≡ (p.lanes lane).order → l.record_number ≡ (p.lanes lane).record_number → (l.is_fresh ≡ true → (p.lanes lane).is_fresh ≡ true) → In (with_lane p lane l)
  same_in p lane l i order at fresh = lane_in p lane l i (λ o e. let x = i.lanes lane o (sym order ∙ e) in record {
    over = x.over;
    kept = λ k m within. x.kept k m (subst (λ (n : ℕ). n ≤ k.number) at within);
    newest = x.newest;
    waiting = x.waiting;
    uncalled = λ is. x.uncalled (fresh is);
    mine = x.mine;
  })

  -- a lane without an order
  pub free_in : (p : Process) (lane : ℕ) (l : Lane) → In p → l.order ≡ None → In (with_lane p lane l)
  free_in p lane l i none = lane_in p lane l i (λ o e. absurd (none_is o (sym none ∙ e)))

  -- another call waits, or none
  pub waits_in : (p : Process) (lane : ℕ) (called : Option Called) → In p → ((o : Order) → (p.lanes lane).order ≡ Some o → (c : Called) → called ≡ Some c → is_of (Some o) c ≡ true → c.since ≡ o.since) → In (record p { waits = put_at p.waits lane called })
  waits_in p lane called i ok = record {
    lanes = at_put_at (λ n x. LaneOk R sent p.fates p.alive p.nonces x n (p.lanes n)) p.waits lane called
        (λ o e. let x = i.lanes lane o e in record { over = x.over; kept = x.kept; newest = x.newest; waiting = ok o e; uncalled = x.uncalled; mine = x.mine })
        (λ n other. i.lanes n);
    store = i.store;
    once = i.once;
    named = i.named;
    within = i.within;
  }

  pub knows_in : (p : Process) (client : Client) → In p → In (record p { client = client })
  knows_in p client i = record { lanes = i.lanes; store = i.store; once = i.once; named = i.named; within = i.within }

  -- A RECORD is written
  pub recorded_in : (p : Process) → In p → In (recorded p)
  recorded_in p i = record {
    lanes = λ lane o e. let x = i.lanes lane o e in record {
      over = x.over;
      kept = either_of (λ k. (p.lanes lane).record_number ≤ k.number → (k.lanes lane).order ≡ Some o) (kept_of p) p.alive (λ within. e) x.kept;
      newest = x.newest;
      waiting = x.waiting;
      uncalled = x.uncalled;
      mine = x.mine;
    };
    store = either_of (KeptOk R sent p.fates p.nonces p.stored (p.number + 1)) (kept_of p) p.alive (record {
      least = let w = i.within in omega arith;
      most = omega arith;
      has = λ e m within. m;
      less = λ e m. m;
      orders = λ lane o e. let x = i.lanes lane o e in record { over = x.over; newest = x.newest; mine = x.mine };
    }) (λ k m. let x = i.store k m in record {
      least = x.least;
      most = let n = x.most in omega arith;
      has = x.has;
      less = x.less;
      orders = x.orders;
    });
    once = i.once;
    named = i.named;
    within = let w = i.within in omega arith;
  }

  -- A FATE of an order that no lane has any more
  pub fate_in : (p : Process) (e : Ended) → In p → ((lane : ℕ) (o : Order) → (p.lanes lane).order ≡ Some o → name_on lane o ≢ e.name) → ((f : Ended) → Among f p.fates → e.name ≢ f.name) → NamedBy notes p.nonces e → e.record_number ≡ p.number + 1 → In (record p { fates = e ∷ p.fates })
  fate_in p e i gone new named at = record {
    lanes = λ lane o is. let x = i.lanes lane o is in record {
      over = either_of (λ f. name_on lane o ≢ f.name) e p.fates (gone lane o is) x.over;
      kept = x.kept;
      newest = x.newest;
      waiting = x.waiting;
      uncalled = x.uncalled;
      mine = x.mine;
    };
    store = λ k m. let x = i.store k m in record {
      least = x.least;
      most = x.most;
      has = either_of (λ f. f.record_number ≤ k.number → Among f k.fates) e p.fates (λ within. let n = x.most in let a = at in absurd (omega arith)) x.has;
      less = λ f n. inr (x.less f n);
      orders = x.orders;
    };
    once = λ f g m n same. by f m g n same;
    named = either_of (NamedBy notes p.nonces) e p.fates named i.named;
    within = i.within;
  }
    where
      by : (f : Ended) → Among f (e ∷ p.fates) → (g : Ended) → Among g (e ∷ p.fates) → f.name ≡ g.name → f ≡ g
      by f (inl a) g (inl b) same = a ∙ sym b
      by f (inl a) g (inr n) same = absurd (new g n (sym (ap (λ (x : Ended). x.name) a) ∙ same))
      by f (inr m) g (inl b) same = absurd (new f m (sym (same ∙ ap (λ (x : Ended). x.name) b)))
      by f (inr m) g (inr n) same = i.once f g m n same

  pub stored_in : (p : Process) (stored : ℕ) (kept : List Kept) → In p → stored ≤ p.number → AreAmong kept p.alive → ((k : Kept) → Among k kept → stored ≤ k.number) → In (record p { stored = stored; alive = kept })
  stored_in p stored kept i within some least = record {
    lanes = λ lane o e. let x = i.lanes lane o e in record { over = x.over; kept = λ k m. x.kept k (some k m); newest = x.newest; waiting = x.waiting; uncalled = x.uncalled; mine = x.mine };
    store = λ k m. let x = i.store k (some k m) in record { least = least k m; most = x.most; has = x.has; less = x.less; orders = x.orders };
    once = i.once;
    named = i.named;
    within = within;
  }

  -- A NEW LIFE
  pub opened_in : (p : Process) (k : Kept) (nonce : ℕ) → In p → Among k p.alive → In (opened_on p k nonce)
  opened_in p k nonce i m = let x = i.store k m in record {
    lanes = λ lane o e. let y = x.orders lane o e in record {
      over = y.over;
      kept = either_of (λ z. 0 ≤ z.number → (z.lanes lane).order ≡ Some o) k [] (λ w. e) (λ z n. elim n [ ]);
      newest = y.newest;
      waiting = λ c is. absurd (none_is c is);
      uncalled = λ is. absurd (apart is refl);
      mine = inr y.mine;
    };
    store = either_of (KeptOk R sent k.fates (nonce ∷ p.nonces) k.number k.number) k [] (record {
      least = omega arith;
      most = omega arith;
      has = λ e n within. n;
      less = λ e n. n;
      orders = λ lane o e. let y = x.orders lane o e in record { over = y.over; newest = y.newest; mine = inr y.mine };
    }) (λ z n. elim n [ ]);
    once = λ e f a b same. i.once e f (x.less e a) (x.less f b) same;
    named = λ e a. let y = i.named e (x.less e a) in record { note = y.note; there = y.there; name = y.name; mine = inr y.mine };
    within = omega arith;
  }

  -- A CALL MORE, of an order that has its since, or of none of its own
  pub called_in : (s : Sent) (p : Process) → In p → ((lane : ℕ) (o : Order) → (p.lanes lane).order ≡ Some o → IsCallOf s (name_on lane o) → (R s o.since) × ((p.lanes lane).is_fresh ≡ false)) → ((k : Kept) → Among k p.alive → (lane : ℕ) (o : Order) → (k.lanes lane).order ≡ Some o → IsCallOf s (name_on lane o) → R s o.since) → Orderly R notes (s ∷ sent) p
  called_in s p i mine stored = record {
    lanes = λ lane o e. let x = i.lanes lane o e in record {
      over = x.over;
      kept = x.kept;
      newest = either_of (λ y. IsCallOf y (name_on lane o) → R y o.since) s sent (λ is. (mine lane o e is).0) x.newest;
      waiting = x.waiting;
      uncalled = λ fresh. either_of (λ y. IsCallOf y (name_on lane o) → ⊥) s sent (λ is. apart fresh (mine lane o e is).1) (x.uncalled fresh);
      mine = x.mine;
    };
    store = λ k m. let x = i.store k m in record {
      least = x.least;
      most = x.most;
      has = x.has;
      less = x.less;
      orders = λ lane o e. let y = x.orders lane o e in record { over = y.over; newest = either_of (λ z. IsCallOf z (name_on lane o) → R z o.since) s sent (stored k m lane o e) y.newest; mine = y.mine };
    };
    once = i.once;
    named = i.named;
    within = i.within;
  }

-- notes more
pub orderly_more : (R : Sent → Known → Type 0) (notes notes' : List Note) (sent : List Sent) (p : Process) → AreAmong notes notes' → Orderly R notes sent p → Orderly R notes' sent p
orderly_more R notes notes' sent p more i = record {
  lanes = i.lanes;
  store = i.store;
  once = i.once;
  named = λ e m. let x = i.named e m in record { note = x.note; there = more x.note x.there; name = x.name; mine = x.mine };
  within = i.within;
}
