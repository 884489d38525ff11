-- Where the wire keeps the order of calls: an order that is settled is handed out no more.
use Rattle.std.proofs.Common.{◌≡◌, ◌≢◌, ◌+◌, ◌∙◌, ℕ, List, [], ◌∷◌, Bool, true, false, ◌⊎◌, inl, inr, ap, sym, subst, arith, refl, length}
use Rattle.std.specs.Prelude.{Option, Some, None}
use Rattle.dt_orders_model.specs.declared.knowledge.Known.{Known}
use Rattle.dt_orders_model.specs.declared.lanes.Attempt.{Attempt}
use Rattle.dt_orders_model.specs.declared.lanes.Called.{Called}
use Rattle.dt_orders_model.specs.declared.lanes.Fate.{Fate}
use Rattle.dt_orders_model.specs.declared.lanes.Fate.TheVariants as fate
use Rattle.dt_orders_model.specs.declared.lanes.Lane.{Lane}
use Rattle.dt_orders_model.specs.declared.lanes.Order.{Order}
use Rattle.dt_orders_model.specs.declared.lanes.Word.{Word}
use Rattle.dt_orders_model.specs.declared.lanes.Word.TheVariants as word
use Rattle.dt_orders_model.specs.Histories.{Note, World, noted}
use Rattle.dt_orders_model.specs.Judging.{is_ask}
use Rattle.dt_orders_model.specs.Lanes.{call_of, given_of, hearing_of, is_ask_call, is_of, is_same_attempt}
use Rattle.dt_orders_model.specs.Stores.{Among, Name, heard}
use Rattle.dt_orders_laws.proofs.Lists.{either_of}
use Rattle.dt_orders_world_laws.specs.Both.{AreAmong, Both, MayAsk, Rules, Runs, Step, Told, adopts, asks, calls, cancels, dies, ends, first_both, gives, handled, handles, hears, leaves, makes, opens, restores, set_back, stores, syncs, tells, with_client, works}
use Rattle.dt_orders_world_laws.specs.Both as both
use Rattle.dt_orders_world_laws.specs.Clients.{Ended, Process, asked_on, attempt_of, called_on, cancelled_on, ended_on, heard_on, name_on, noted_on, put_at, question_of}
use Rattle.dt_orders_world_laws.specs.Ordered.{MayComeNext, RunsInOrder, WasMadeAfter, begins, goes, hands_out}
use Rattle.dt_orders_world_laws.specs.Wires.{Handles, Reply, Sent, name_of, reply_to}
use Rattle.dt_orders_world_laws.proofs.Asking.{asks_not}
use Rattle.dt_orders_world_laws.proofs.Facing.{AnyCommit, good_relates}
use Rattle.dt_orders_world_laws.proofs.Good.{Brings, Good, adopted_ok, cancelled_ok, ended_ok, heard_ok, opened_ok, stored_ok}
use Rattle.dt_orders_world_laws.proofs.Holding.{Holds}
use Rattle.dt_orders_world_laws.proofs.Keeping.{its_call}
use Rattle.dt_orders_world_laws.proofs.Noting.{asker_good, beside_question, its_lane, its_note, maker_is, noted_good, noter_good, other_good, others_tag}
use Rattle.dt_orders_world_laws.proofs.Orderly.{IsCallOf}
use Rattle.dt_orders_world_laws.proofs.Puts.{apart, at_put, at_put_at, none_is, some_is}
use Rattle.dt_orders_world_laws.proofs.Serving.{handling}
use Rattle.dt_orders_world_laws.proofs.Stepping.{call_is, gave_is, holds_of, nonces_cancelled, nonces_heard}
use Rattle.dt_orders_world_laws.proofs.Strict.{cancelled_waits, faces_of, heard_waits}

-- a history in order is one
pub runs_of : (rules : Rules) (w : Both) (out : List Sent) → RunsInOrder rules w out → Runs rules w
runs_of rules w out (begins nonce nonces differ) = both.begins nonce nonces differ
runs_of rules w out (hands_out {w = u} {out = o} s v said value result r m next d) = both.goes _ (runs_of rules u o r) (handles s v said value result m d)
runs_of rules w out (goes {w = u} v r s same) = both.goes v (runs_of rules u out r) s

-- CALLS ARE MADE ONCE
abbrev pub AreOnce : List Sent → Type 0
AreOnce [] = Unit {0}
AreOnce (s ∷ sent) = (Among s sent → ⊥) × AreOnce sent

later_there : (s c : Sent) (sent : List Sent) → WasMadeAfter s c sent → Among s sent
later_there s c [] a = elim a [ ]
later_there s c (x ∷ sent) (inl e) = inl (sym e.0)
later_there s c (x ∷ sent) (inr a) = inr (later_there s c sent a)

earlier_there : (s c : Sent) (sent : List Sent) → WasMadeAfter s c sent → Among c sent
earlier_there s c [] a = elim a [ ]
earlier_there s c (x ∷ sent) (inl e) = inr e.1
earlier_there s c (x ∷ sent) (inr a) = inr (earlier_there s c sent a)

pub not_both : (s c : Sent) (sent : List Sent) → AreOnce sent → WasMadeAfter s c sent → WasMadeAfter c s sent → ⊥
not_both s c [] once a b = elim a [ ]
not_both s c (x ∷ sent) once (inl e) (inl f) = once.0 (subst (λ (y : Sent). Among y sent) (sym f.0) e.1)
not_both s c (x ∷ sent) once (inl e) (inr b) = once.0 (subst (λ (y : Sent). Among y sent) (sym e.0) (earlier_there c s sent b))
not_both s c (x ∷ sent) once (inr a) (inl f) = once.0 (subst (λ (y : Sent). Among y sent) (sym f.0) (earlier_there s c sent a))
not_both s c (x ∷ sent) once (inr a) (inr b) = not_both s c sent once.1 a b

-- the last call of an order, which was handed out
pub record LastOut (out sent : List Sent) (o : Name) : Type 0 where
  pub call : Sent
  pub out_there : Among call out
  pub lane : call.lane ≡ o.lane
  pub newest : (d : Sent) → Among d sent → IsCallOf d o → (d ≡ call) ⊎ WasMadeAfter call d sent

abbrev pub NoMore : List Sent → List Sent → Name → Type 0
NoMore out sent o = ((d : Sent) → Among d sent → IsCallOf d o → ⊥) ⊎ LastOut out sent o

abbrev pub GoneAs : List Sent → List Sent → Ended → Fate → Type 0
GoneAs out sent e fate.Done = Unit {0}
GoneAs out sent e fate.Never = NoMore out sent e.name
GoneAs out sent e fate.Unknown = NoMore out sent e.name

abbrev pub Gone : List Sent → List Sent → Ended → Type 0
Gone out sent e = GoneAs out sent e e.fate

abbrev pub AnyCall : Sent → Known → Type 0
AnyCall s q = Unit {0}

abbrev pub OrderGood : List Note → List Sent → List Sent → Process → Type 0
OrderGood notes out sent p = Good AnyCall AnyCommit (Gone out sent) notes sent p

-- a client's waiting call is its newest one on the lane
abbrev pub IsNewest : List Sent → Process → Type 0
IsNewest sent p = (lane : ℕ) (c : Called) → p.waits lane ≡ Some c → is_ask c.kind ≡ false → (d : Sent) → Among d sent → is_ask d.called.kind ≡ false → d.lane ≡ lane → Among d.called.tag p.nonces → (d ≡ record { lane = lane; called = c }) ⊎ WasMadeAfter (record { lane = lane; called = c }) d sent

pub record Ordered (w : Both) (out : List Sent) : Type 0 where
  pub once : AreOnce w.sent
  pub made : (r : Reply) → Among r w.made → Among r.call out
  pub newest : (i : ℕ) → IsNewest w.sent (w.clients i)
  pub each : (i : ℕ) → OrderGood w.server.notes out w.sent (w.clients i)

more_out : (out sent : List Sent) (s : Sent) (o : Name) → NoMore out sent o → NoMore (s ∷ out) sent o
more_out out sent s o (inl none) = inl none
more_out out sent s o (inr l) = inr (record { call = l.call; out_there = inr l.out_there; lane = l.lane; newest = l.newest })

gone_out : (out sent : List Sent) (s : Sent) (e : Ended) (f : Fate) → GoneAs out sent e f → GoneAs (s ∷ out) sent e f
gone_out out sent s e fate.Done y = tt
gone_out out sent s e fate.Never y = more_out out sent s e.name y
gone_out out sent s e fate.Unknown y = more_out out sent s e.name y

more_sent : (out sent : List Sent) (s : Sent) (o : Name) → (IsCallOf s o → ⊥) → NoMore out sent o → NoMore out (s ∷ sent) o
more_sent out sent s o other (inl none) = inl (either_of (λ d. IsCallOf d o → ⊥) s sent other none)
more_sent out sent s o other (inr l) = inr (record { call = l.call; out_there = l.out_there; lane = l.lane; newest = either_of (λ d. IsCallOf d o → (d ≡ l.call) ⊎ WasMadeAfter l.call d (s ∷ sent)) s sent (λ is. absurd (other is)) (λ d m is. still d (l.newest d m is)) })
  where
    still : (d : Sent) → (d ≡ l.call) ⊎ WasMadeAfter l.call d sent → (d ≡ l.call) ⊎ WasMadeAfter l.call d (s ∷ sent)
    still d (inl e) = inl e
    still d (inr a) = inr (inr a)

gone_sent : (out sent : List Sent) (s : Sent) (e : Ended) (f : Fate) → (IsCallOf s e.name → ⊥) → GoneAs out sent e f → GoneAs out (s ∷ sent) e f
gone_sent out sent s e fate.Done other y = tt
gone_sent out sent s e fate.Never other y = more_sent out sent s e.name other y
gone_sent out sent s e fate.Unknown other y = more_sent out sent s e.name other y

-- A CALL IS HANDED OUT
out_ordered : (strict : Bool) (w : Both) (out : List Sent) (s : Sent) (v : World) (said : Word) (value : ℕ) (result : List ℕ) → Holds w → Ordered w out → Among s w.sent → Handles strict w.server s v said result → Ordered (handled w v (reply_to s (heard v.present) said value result w.sent)) (s ∷ out)
out_ordered strict w out s v said value result h x m d = record {
  once = x.once;
  made = either_of (λ r. Among r.call (s ∷ out)) (reply_to s (heard v.present) said value result w.sent) w.made (inl refl) (λ r n. inr (x.made r n));
  newest = x.newest;
  each = λ i. good_relates AnyCall AnyCall (Gone out w.sent) (Gone (s ∷ out) w.sent) w.server.notes v.notes w.sent (handling strict w.server s h.reached (h.calls s m).noted v said result d).notes (w.clients i) (λ c n e q r. r) (λ e n. gone_out out w.sent s e e.fate) (x.each i);
}

-- A CLIENT STEPS by itself
client_ordered : (w : Both) (out : List Sent) (i : ℕ) (q : Process) → Ordered w out → OrderGood w.server.notes out w.sent q → IsNewest w.sent q → Ordered (with_client w i q) out
client_ordered w out i q x good newest = record {
  once = x.once;
  made = x.made;
  newest = at_put (λ j y. IsNewest w.sent y) w.clients i q newest x.newest;
  each = at_put (λ j y. OrderGood w.server.notes out w.sent y) w.clients i q good x.each;
}

-- with as many calls that wait, or one less
newest_by : (sent : List Sent) (p q : Process) (lane : ℕ) → q.waits ≡ put_at p.waits lane None → q.nonces ≡ p.nonces → IsNewest sent p → IsNewest sent q
newest_by sent p q lane waits nonces x n c e k d m l at tag = at_put (λ y z. z ≡ Some c → d.lane ≡ y → (d ≡ record { lane = y; called = c }) ⊎ WasMadeAfter (record { lane = y; called = c }) d sent) p.waits lane None
    (λ is. absurd (none_is c is)) (λ y is here. x y c is k d m l here (subst (λ (z : List ℕ). Among d.called.tag z) nonces tag)) n (sym (ap (λ (f : ℕ → Option Called). f n) waits) ∙ e) at

newest_same : (sent : List Sent) (p q : Process) → q.waits ≡ p.waits → q.nonces ≡ p.nonces → IsNewest sent p → IsNewest sent q
newest_same sent p q waits nonces x n c e k d m l at tag = x n c (sym (ap (λ (f : ℕ → Option Called). f n) waits) ∙ e) k d m l at (subst (λ (z : List ℕ). Among d.called.tag z) nonces tag)

-- AN ANSWER IS HEARD
module _ (w : Both) (out : List Sent) (h : Holds w) (x : Ordered w out) (i lane : ℕ) (c : Called) (r : Reply) (m : Among r w.left) (waiting : (w.clients i).waits lane ≡ Some c) where
  abbrev p : Process
  p = w.clients i

  abbrev its_reply : Among r w.made
  its_reply = h.left r m

  module _ (o : Order) (is : (p.lanes lane).order ≡ Some o) (of : is_of (Some o) c ≡ true) (same : is_same_attempt c.attempt r.answer.attempt ≡ true) where
    call : r.call ≡ record { lane = lane; called = c }
    call = its_call w.server.notes w.server.past w.sent p lane c r (h.each i) (h.made r its_reply) waiting h.alone same

    last : LastOut out w.sent (name_on lane o)
    last = record {
      call = r.call;
      out_there = x.made r its_reply;
      lane = ap (λ (s : Sent). s.lane) call;
      newest = λ d n d_is. subst (λ (s : Sent). (d ≡ s) ⊎ WasMadeAfter s d w.sent) (sym call)
          (x.newest i lane c waiting (asks_not o c (is_ask_call c.kind) refl of) d n d_is.kind (ap (λ (y : Name). y.lane) d_is.name) (subst (λ (y : Name). Among y.tag p.nonces) (sym d_is.name) ((x.each i).orderly.lanes lane o is).mine));
    }

    brings_by : (said : Word) → Brings AnyCall AnyCommit (Gone out w.sent) w.server.notes w.sent o lane (p.number + 1) r said
    brings_by word.Never = inr last
    brings_by word.Old = inr last
    brings_by word.Stale = inr last
    brings_by word.NotNow = λ d n d_is. tt
    brings_by word.Done = tt
    brings_by word.AtWork = tt
    brings_by word.Forked = tt
    brings_by word.Hello = tt
    brings_by word.Told = tt

  pub hears_ordered : Ordered (with_client w i (heard_on p lane c r)) out
  hears_ordered = client_ordered w out i (heard_on p lane c r) x
      (heard_ok AnyCall AnyCommit (Gone out w.sent) w.server.notes w.sent p lane c r (x.each i) ((h.each i).mind.orders lane) tt (h.each i).once (λ o is of same used. brings_by o is of same r.answer.word)).good
      (newest_by w.sent p (heard_on p lane c r) lane (heard_waits p lane c r (hearing_of p.client.known c r.answer)) (nonces_heard p lane c r) (x.newest i))

-- A CALL MORE
newest_more : (sent : List Sent) (s : Sent) (p : Process) → ((lane : ℕ) (c : Called) → p.waits lane ≡ Some c → is_ask c.kind ≡ false → is_ask s.called.kind ≡ false → s.lane ≡ lane → Among s.called.tag p.nonces → (s ≡ record { lane = lane; called = c }) ⊎ WasMadeAfter (record { lane = lane; called = c }) s (s ∷ sent)) → IsNewest sent p → IsNewest (s ∷ sent) p
newest_more sent s p mine x lane c e k = either_of (λ d. is_ask d.called.kind ≡ false → d.lane ≡ lane → Among d.called.tag p.nonces → (d ≡ record { lane = lane; called = c }) ⊎ WasMadeAfter (record { lane = lane; called = c }) d (s ∷ sent)) s sent (mine lane c e k) (λ d m l at tag. still d (x lane c e k d m l at tag))
  where
    still : (d : Sent) → (d ≡ record { lane = lane; called = c }) ⊎ WasMadeAfter (record { lane = lane; called = c }) d sent → (d ≡ record { lane = lane; called = c }) ⊎ WasMadeAfter (record { lane = lane; called = c }) d (s ∷ sent)
    still d (inl y) = inl y
    still d (inr y) = inr (inr y)

-- the caller's own: the new call waits on its lane
newest_made : (sent : List Sent) (s : Sent) (p q : Process) → q.waits ≡ put_at p.waits s.lane (Some s.called) → q.nonces ≡ p.nonces → IsNewest sent p → IsNewest (s ∷ sent) q
newest_made sent s p q waits nonces x n c e k d m l at tag = at_put_at (λ y z. z ≡ Some c → d.lane ≡ y → (d ≡ record { lane = y; called = c }) ⊎ WasMadeAfter (record { lane = y; called = c }) d (s ∷ sent)) p.waits s.lane (Some s.called) here there n (sym (ap (λ (f : ℕ → Option Called). f n) waits) ∙ e) at
  where
    its : Among d.called.tag p.nonces
    its = subst (λ (z : List ℕ). Among d.called.tag z) nonces tag

    newer : Among d (s ∷ sent) → (d ≡ s) ⊎ WasMadeAfter s d (s ∷ sent)
    newer (inl y) = inl y
    newer (inr y) = inr (inl (refl, y))

    here : Some s.called ≡ Some c → d.lane ≡ s.lane → (d ≡ record { lane = s.lane; called = c }) ⊎ WasMadeAfter (record { lane = s.lane; called = c }) d (s ∷ sent)
    here is lane = subst (λ (z : Called). (d ≡ record { lane = s.lane; called = z }) ⊎ WasMadeAfter (record { lane = s.lane; called = z }) d (s ∷ sent)) (some_is s.called c is) (newer m)

    still : (y : ℕ) → (d ≡ record { lane = y; called = c }) ⊎ WasMadeAfter (record { lane = y; called = c }) d sent → (d ≡ record { lane = y; called = c }) ⊎ WasMadeAfter (record { lane = y; called = c }) d (s ∷ sent)
    still y (inl a) = inl a
    still y (inr a) = inr (inr a)

    old : (y : ℕ) → p.waits y ≡ Some c → d.lane ≡ y → y ≢ s.lane → Among d (s ∷ sent) → (d ≡ record { lane = y; called = c }) ⊎ WasMadeAfter (record { lane = y; called = c }) d (s ∷ sent)
    old y is lane other (inl a) = absurd (other (sym lane ∙ ap (λ (z : Sent). z.lane) a))
    old y is lane other (inr a) = still y (x y c is k d a l lane its)

    there : (y : ℕ) → y ≢ s.lane → p.waits y ≡ Some c → d.lane ≡ y → (d ≡ record { lane = y; called = c }) ⊎ WasMadeAfter (record { lane = y; called = c }) d (s ∷ sent)
    there y other is lane = old y is lane other m

makes_ordered : (w : Both) (out : List Sent) (i : ℕ) (s : Sent) (q : Process) → Holds w → Ordered w out → s.called.attempt ≡ attempt_of (w.clients i) → q.waits ≡ put_at (w.clients i).waits s.lane (Some s.called) → q.nonces ≡ (w.clients i).nonces → OrderGood w.server.notes out (s ∷ w.sent) q → ((j : ℕ) → j ≢ i → OrderGood w.server.notes out (s ∷ w.sent) (w.clients j)) → ((j : ℕ) → j ≢ i → is_ask s.called.kind ≡ false → Among s.called.tag (w.clients j).nonces → ⊥) → Ordered (makes w i q s) out
makes_ordered w out i s q h x by waits nonces good others not_theirs = record {
  once = (λ m. let below = (h.each i).counts s m (ap (λ (a : Attempt). a.nonce) by) in let same : s.called.attempt.count ≡ (w.clients i).count = ap (λ (a : Attempt). a.count) by in omega arith, x.once);
  made = x.made;
  newest = at_put_at (λ j y. IsNewest (s ∷ w.sent) y) w.clients i q (newest_made w.sent s (w.clients i) q waits nonces (x.newest i))
      (λ j other. newest_more w.sent s (w.clients j) (λ lane c e k l at tag. absurd (not_theirs j other l tag)) (x.newest j));
  each = at_put_at (λ j y. OrderGood w.server.notes out (s ∷ w.sent) y) w.clients i q good others;
}

asks_ordered : (w : Both) (out : List Sent) (i lane : ℕ) (since : Known) (knows : Option Known) → Holds w → Ordered w out → Ordered (makes w i (asked_on (w.clients i) lane (question_of (w.clients i) since knows)) (record { lane = lane; called = question_of (w.clients i) since knows })) out
asks_ordered w out i lane since knows h x =
    let p = w.clients i in
    let s : Sent = record { lane = lane; called = question_of p since knows } in
    let more = λ (e : Ended). gone_sent out w.sent s e e.fate in
    makes_ordered w out i s (asked_on p lane s.called) h x refl refl refl
    (asker_good AnyCall AnyCommit (Gone out w.sent) (Gone out (s ∷ w.sent)) w.server.notes w.sent lane since knows p more (x.each i))
    (λ j other. beside_question AnyCall AnyCommit (Gone out w.sent) (Gone out (s ∷ w.sent)) w.server.notes w.sent lane since knows p more (w.clients j) (x.each j))
    (λ j other k tag. apart refl k)

calls_ordered : (w : Both) (out : List Sent) (i lane : ℕ) (c : Called) → Holds w → Ordered w out → call_of (w.clients i).client ((w.clients i).lanes lane) (w.clients i).stored (attempt_of (w.clients i)) ≡ Some c → Ordered (makes w i (called_on (w.clients i) lane c) (record { lane = lane; called = c })) out
calls_ordered w out i lane c h x e =
    let p = w.clients i in
    let s : Sent = record { lane = lane; called = c } in
    let is = call_is p.client (p.lanes lane) p.stored (attempt_of p) c e in
    let more = λ (f : Ended). gone_sent out w.sent s f f.fate in
    makes_ordered w out i s (called_on p lane c) h x (ap (λ (y : Called). y.attempt) is.is) refl refl
    (maker_is AnyCall AnyCommit (Gone out w.sent) (Gone out (s ∷ w.sent)) w h x.each i lane c e tt more)
    (other_good AnyCall AnyCommit (Gone out w.sent) (Gone out (s ∷ w.sent)) w h x.each i lane c e tt more)
    (λ j other k tag. others_tag AnyCall AnyCommit (Gone out w.sent) (Gone out (s ∷ w.sent)) w h x.each i lane c e tt more j other (name_of s) tag (record { kind = k; name = refl }))

notes_ordered : (w : Both) (out : List Sent) (h : Holds w) (x : Ordered w out) (i lane uid : ℕ) (q : Known) (knows : (w.clients i).client.known ≡ Some q) (free : ((w.clients i).lanes lane).order ≡ None) → Ordered (record (with_client w i (noted_on (w.clients i) lane (its_lane AnyCall AnyCommit (Gone out w.sent) w h x.each i lane uid q knows free))) { server = noted w.server (its_note AnyCall AnyCommit (Gone out w.sent) w h x.each i lane uid q knows free) }) out
notes_ordered w out h x i lane uid q knows free = record {
  once = x.once;
  made = x.made;
  newest = at_put (λ j y. IsNewest w.sent y) w.clients i _ (x.newest i) x.newest;
  each = at_put (λ j y. OrderGood (its_note AnyCall AnyCommit (Gone out w.sent) w h x.each i lane uid q knows free ∷ w.server.notes) out w.sent y) w.clients i _
      (noter_good AnyCall AnyCommit (Gone out w.sent) w h x.each i lane uid q knows free)
      (noted_good AnyCall AnyCommit (Gone out w.sent) w h x.each i lane uid q knows free);
}

gives_ordered : (w : Both) (out : List Sent) (h : Holds w) (x : Ordered w out) (i lane uid : ℕ) (l : Lane) (o : Order) → given_of (w.clients i).client ((w.clients i).lanes lane) uid ((w.clients i).number + 1) ≡ Some l → l.order ≡ Some o → Ordered (record (with_client w i (noted_on (w.clients i) lane l)) { server = noted w.server (record { name = name_on lane o; since = o.since }) }) out
gives_ordered w out h x i lane uid l o e is =
    let p = w.clients i in
    let g = gave_is p.client (p.lanes lane) uid (p.number + 1) l e in
    let mine : Order = record { uid = uid; number = (p.lanes lane).last + 1; tag = p.client.nonce; since = g.known } in
    let same : mine ≡ o = some_is mine o (sym (ap (λ (y : Lane). y.order) g.is) ∙ is) in
    subst (λ (y : Order). Ordered (record (with_client w i (noted_on p lane l)) { server = noted w.server (record { name = name_on lane y; since = y.since }) }) out) same
    (subst (λ (y : Lane). Ordered (record (with_client w i (noted_on p lane y)) { server = noted w.server (record { name = name_on lane mine; since = mine.since }) }) out) (sym g.is)
    (notes_ordered w out h x i lane uid g.known g.knows g.free))

not_longer : (r : Reply) (made : List Reply) → r ∷ made ≡ made → ⊥
not_longer r made e = let same : length (r ∷ made) ≡ length made = ap (λ (y : List Reply). length y) e in omega arith

-- EACH STEP but a handling
step_ordered : (rules : Rules) (w v : Both) (out : List Sent) → rules.clients ≡ false → Holds w → Ordered w out → Step rules w v → v.made ≡ w.made → Ordered v out
step_ordered rules w v out k h x (handles s y said value result m d) same = absurd (not_longer _ w.made same)
step_ordered rules w v out k h x (works s d) same = record { once = x.once; made = x.made; newest = x.newest; each = x.each }
step_ordered rules w v out k h x (syncs kept some m) same = record { once = x.once; made = x.made; newest = x.newest; each = x.each }
step_ordered rules w v out k h x (leaves r m firm) same = record { once = x.once; made = x.made; newest = x.newest; each = x.each }
step_ordered rules w v out k h x (opens s nonce m drawn) same = record { once = x.once; made = x.made; newest = x.newest; each = x.each }
step_ordered rules w v out k h x (set_back may s nonce m drawn) same = record { once = x.once; made = x.made; newest = x.newest; each = x.each }
step_ordered rules w v out k h x (gives i lane uid l o e is) same = gives_ordered w out h x i lane uid l o e is
step_ordered rules w v out k h x (calls i lane c e) same = calls_ordered w out i lane c h x e
step_ordered rules w v out k h x (asks i lane since knows may) same = asks_ordered w out i lane since knows h x
step_ordered rules w v out k h x (ends i lane) same = client_ordered w out i _ x (ended_ok AnyCall AnyCommit (Gone out w.sent) w.server.notes w.sent (w.clients i) lane (x.each i)) (newest_by w.sent (w.clients i) (ended_on (w.clients i) lane) lane refl refl (x.newest i))
step_ordered rules w v out k h x (hears i lane c r m e) same = hears_ordered w out h x i lane c r m e
step_ordered rules w v out k h x (cancels i lane) same = client_ordered w out i (cancelled_on (w.clients i) lane) x (cancelled_ok AnyCall AnyCommit (Gone out w.sent) w.server.notes w.sent (w.clients i) lane ((h.each i).mind.orders lane) (λ e never heard none. subst (λ (f : Fate). GoneAs out w.sent e f) (sym never) (inl none)) (x.each i)) (newest_same w.sent (w.clients i) (cancelled_on (w.clients i) lane) (cancelled_waits (w.clients i) lane) (nonces_cancelled (w.clients i) lane) (x.newest i))
step_ordered rules w v out k h x (adopts i all) same = client_ordered w out i _ x (adopted_ok AnyCall AnyCommit (Gone out w.sent) w.server.notes w.sent (w.clients i) (x.each i)) (x.newest i)
step_ordered rules w v out k h x (stores i stored kept within some least) same = client_ordered w out i _ x (stored_ok AnyCall AnyCommit (Gone out w.sent) w.server.notes w.sent (w.clients i) stored kept (x.each i) within some least) (x.newest i)
step_ordered rules w v out k h x (tells i e m within) same = record { once = x.once; made = x.made; newest = x.newest; each = x.each }
step_ordered rules w v out k h x (dies i nonce y m fresh) same = client_ordered w out i _ x (opened_ok AnyCall AnyCommit (Gone out w.sent) w.server.notes w.sent (w.clients i) y nonce (x.each i) m) (λ lane c e. absurd (none_is c e))
step_ordered rules w v out k h x (restores may i nonce y m fresh) same = absurd (apart may k)

first_ordered : (nonce : ℕ) (nonces : ℕ → ℕ) → Ordered (first_both nonce nonces) []
first_ordered nonce nonces = record {
  once = tt;
  made = λ r m. elim m [ ];
  newest = λ i lane c e. absurd (none_is c e);
  each = λ i. record {
    orderly = record {
      lanes = λ lane o e. absurd (none_is o e);
      store = either_of _ _ [] (record { least = omega arith; most = omega arith; has = λ e m within. m; less = λ e m. m; orders = λ lane o e. absurd (none_is o e) }) (λ k m. elim m [ ]);
      once = λ e f m n same. elim m [ ];
      named = λ e m. elim m [ ];
      within = omega arith;
    };
    mind = record { known = tt; orders = λ lane o e. tt };
    stopped = tt;
    store = either_of _ _ [] (record { known = tt; orders = λ lane o e. tt }) (λ k m. elim m [ ]);
    sealed = λ e m. elim m [ ];
  };
}

pub ordered_of : (rules : Rules) (w : Both) (out : List Sent) → rules.clients ≡ false → RunsInOrder rules w out → Ordered w out
ordered_of rules w out k (begins nonce nonces differ) = first_ordered nonce nonces
ordered_of rules w out k (hands_out {w = u} {out = o} s v said value result r m next d) = out_ordered rules.strict u o s v said value result (holds_of rules u (runs_of rules u o r)) (ordered_of rules u o k r) m d
ordered_of rules w out k (goes {w = u} v r s same) = step_ordered rules u v out k (holds_of rules u (runs_of rules u out r)) (ordered_of rules u out k r) s same

-- WHAT IS SETTLED is handed out no more
pub settled_in_order : (rules : Rules) (w : Both) (out : List Sent) (t : Told) (c : Sent) → rules.clients ≡ false → RunsInOrder rules w out → Among t w.told → (t.ended.fate ≡ fate.Never) ⊎ (t.ended.fate ≡ fate.Unknown) → Among c w.sent → IsCallOf c t.ended.name → MayComeNext w.sent out c → ⊥
settled_in_order rules w out t c k r m f there call next = by (gone f)
  where
    x : Ordered w out
    x = ordered_of rules w out k r

    its : Gone out w.sent t.ended
    its = (x.each t.client).sealed t.ended ((faces_of rules w k (runs_of rules w out r)).told t m).there

    gone : (t.ended.fate ≡ fate.Never) ⊎ (t.ended.fate ≡ fate.Unknown) → NoMore out w.sent t.ended.name
    gone (inl e) = subst (λ (y : Fate). GoneAs out w.sent t.ended y) e its
    gone (inr e) = subst (λ (y : Fate). GoneAs out w.sent t.ended y) e its

    last : (l : LastOut out w.sent t.ended.name) → (c ≡ l.call) ⊎ WasMadeAfter l.call c w.sent → ⊥
    last l (inl e) =
        let after = next l.call l.out_there (l.lane ∙ sym (ap (λ (y : Name). y.lane) call.name)) in
        let itself : WasMadeAfter l.call l.call w.sent = subst (λ (y : Sent). WasMadeAfter y l.call w.sent) e after in
        not_both l.call l.call w.sent x.once itself itself
    last l (inr a) = not_both l.call c w.sent x.once a (next l.call l.out_there (l.lane ∙ sym (ap (λ (y : Name). y.lane) call.name)))

    by : NoMore out w.sent t.ended.name → ⊥
    by (inl none) = none c there call
    by (inr l) = last l (l.newest c there call)
