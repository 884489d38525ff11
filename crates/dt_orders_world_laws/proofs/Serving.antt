-- A step of the server.
use Rattle.std.proofs.Common.{◌≡◌, ◌+◌, ◌∙◌, ℕ, List, [], ◌∷◌, Bool, true, false, ◌⊎◌, inl, inr, sym, subst, arith, refl}
use Rattle.std.specs.Prelude.{◌&&◌, not, if◌then◌else◌, Some}
use Rattle.dt_orders_model.specs.declared.knowledge.Known.{Known}
use Rattle.dt_orders_model.specs.declared.lanes.Word.{Word}
use Rattle.dt_orders_model.specs.declared.lanes.Word.TheVariants as word
use Rattle.dt_orders_model.specs.declared.requests.Verdict.{Verdict}
use Rattle.dt_orders_model.specs.declared.requests.Verdict.TheVariants as verdict
use Rattle.dt_orders_model.specs.Closing.{IsClosed}
use Rattle.dt_orders_model.specs.Fates.{WasExecuted}
use Rattle.dt_orders_model.specs.Histories.{Commits, Goes, IsDrawnAnew, Note, Reached, World, asked_of, commit, commits, goes, known_or, noted, verdict_at}
use Rattle.dt_orders_model.specs.Histories as history
use Rattle.dt_orders_model.specs.Judging.{is_ask, is_forked, is_met, judged_by}
use Rattle.dt_orders_model.specs.Stores.{Among, Entry, Name, Store, begun, executed, heard, place_of, reopened, row_of, shared, touched, withdrawn}
use Rattle.dt_orders_laws.proofs.Ends.{done_of_execution, done_of_row, never_of_row}
use Rattle.dt_orders_laws.proofs.Lists.{at_put, either_of}
use Rattle.dt_orders_laws.proofs.Moving.{lawful_of}
use Rattle.dt_orders_laws.proofs.Lawful.{note_heard, shared_below}
use Rattle.dt_orders_laws.proofs.Places.{shared_goes_on}
use Rattle.dt_orders_model.specs.Writing.{row_touched}
use Rattle.dt_orders_world_laws.proofs.Puts.{none_is, some_is}
use Rattle.dt_orders_laws.proofs.Settling.{Refuses, refused_is_closed, touched_number}
use Rattle.dt_orders_world_laws.specs.Both.{AreAmong, Both, handled, opened_server}
use Rattle.dt_orders_world_laws.specs.Wires.{Handles, Reply, Sent, Works, answers, begins, call_as, cancels, executes, fails, finishes, forgets, name_of, note_of, reply_to, says, touches, word_of}
use Rattle.dt_orders_world_laws.proofs.Holding.{Holds, IsOf, IsReply, SaysTrue, call_later, client_later, fate_later, reply_later}

-- A QUESTION is refused as forked, or read
abbrev IsAsked : Verdict → Type 0
IsAsked verdict.Forked = Unit {0}
IsAsked verdict.Read = Unit {0}
IsAsked _ = ⊥

asked_by : (t u : Bool) (x v : Verdict) → u ≡ true → (if t then verdict.Forked else if u then verdict.Read else x) ≡ v → IsAsked v
asked_by true u x v ask e = subst IsAsked e tt
asked_by false true x v ask e = subst IsAsked e tt
asked_by false false x v ask e = absurd (contra ask)
  where
    contra : false ≡ true → ⊥
    contra h = cc

-- what isn't is of an order
pub of_order : (strict : Bool) (s : Store) (c : Sent) (v : Verdict) → (IsAsked v → ⊥) → verdict_at strict s (call_as c) ≡ v → is_ask c.called.kind ≡ false
of_order strict s c v none e = by (is_ask c.called.kind) refl
  where
    by : (t : Bool) → is_ask c.called.kind ≡ t → is_ask c.called.kind ≡ false
    by true is = absurd (none (asked_by (is_forked c.called.knows (place_of (known_or c.called.since c.called.knows) s)) (is_ask c.called.kind) (if strict && not (is_met s.opening.nonce c.called.knows) then verdict.Hello else judged_by s.horizon (row_of (s.rows c.lane)) (asked_of (call_as c)) (shared c.called.since s)) v is e))
    by false is = is

-- A STORE AND THE NEXT ONE of its opening, or the same
pub record Next (s t : Store) : Type 0 where
  pub opening : t.opening ≡ s.opening
  pub older : t.older ≡ s.older
  pub clock : (t.clock ≡ s.clock) ⊎ (t.clock ≡ s.clock + 1)

-- WHAT HANDLING DOES to the server's history
pub record Handled (w v : World) (s : Sent) (said : Word) (result : List ℕ) : Type 0 where
  pub reached : Reached v
  pub past : AreAmong w.past v.past
  pub notes : AreAmong w.notes v.notes
  pub names : (n : Note) → Among n v.notes → (m : Note) × Among m w.notes × (m.name ≡ n.name)
  pub here : Among v.present v.past
  pub next : Next w.present v.present
  pub says : (heard_at : Known) (value : ℕ) (before : List Sent) → SaysTrue v.notes v.present (reply_to s heard_at said value result before) said

module _ (strict : Bool) (w : World) (s : Sent) (r : Reached w) (noted_call : is_ask s.called.kind ≡ false → Among (note_of s) w.notes) where
  abbrev Says : Word → World → List ℕ → Type 0
  Says said v result = (heard_at : Known) (value : ℕ) (before : List Sent) → SaysTrue v.notes v.present (reply_to s heard_at said value result before) said

  by_commit : (x : Store) (said : Word) (result : List ℕ) → Next w.present x → Commits w x → Says said (commit w x) result → Handled w (commit w x) s said result
  by_commit x said result next c truth = record {
    reached = goes (commit w x) r (commits x c);
    past = λ y m. inr m;
    notes = λ n m. m;
    names = λ n m. (n, m, refl);
    here = inl refl;
    next = next;
    says = truth;
  }

  by_itself : (said : Word) (result : List ℕ) → Says said w result → Handled w w s said result
  by_itself said result truth = record {
    reached = r;
    past = λ y m. m;
    notes = λ n m. m;
    names = λ n m. (n, m, refl);
    here = (lawful_of w r).here;
    next = record { opening = refl; older = refl; clock = inl refl };
    says = truth;
  }

  note_then : (v : Verdict) → (IsAsked v → ⊥) → verdict_at strict w.present (call_as s) ≡ v → Among (note_of s) w.notes
  note_then v none e = noted_call (of_order strict w.present s v none e)

  -- a row that was touched closes its number
  closed_touched : (e : Entry) → w.present.rows s.lane ≡ Some e → verdict_at strict w.present (call_as s) ≡ verdict.Touch → IsClosed w.present.horizon (row_of ((touched w.present s.lane e).rows s.lane)) s.called.number (shared s.called.since (touched w.present s.lane e))
  closed_touched e is v =
      let l = lawful_of w r in
      let m = note_then verdict.Touch (λ h. h) v in
      let less = shared_goes_on s.called.since w.present.clock w.present.opening w.present.older (note_heard w l (note_of s) m) in
      let below = shared_below s.called.since w.present (l.each w.present l.here).sound in
      at_put (λ lane x. lane ≡ s.lane → IsClosed w.present.horizon (row_of x) s.called.number (shared s.called.since (touched w.present s.lane e))) w.present.rows s.lane (Some (record e { row = row_touched (w.present.clock + 1) e.row }))
      (λ h. inl (touched_number strict w.present (call_as s) e is v, omega arith))
      (λ lane other h. absurd (other h)) s.lane refl

  said_by : (v : Verdict) (said : Word) → verdict_at strict w.present (call_as s) ≡ v → word_of v ≡ Some said → Says said w []
  said_by verdict.Never said e is = λ h value before. subst (SaysTrue w.notes w.present (reply_to s h said value [] before)) (some_is word.Never said is) (never_of_row w strict (call_as s) r e)
  said_by verdict.Old said e is = λ h value before. subst (SaysTrue w.notes w.present (reply_to s h said value [] before)) (some_is word.Old said is) (refused_is_closed strict w.present (call_as s) (subst Refuses (sym e) tt))
  said_by verdict.Stale said e is = λ h value before. subst (SaysTrue w.notes w.present (reply_to s h said value [] before)) (some_is word.Stale said is) (refused_is_closed strict w.present (call_as s) (subst Refuses (sym e) tt))
  said_by verdict.AtWork said e is = λ h value before. subst (SaysTrue w.notes w.present (reply_to s h said value [] before)) (some_is word.AtWork said is) tt
  said_by verdict.Forked said e is = λ h value before. subst (SaysTrue w.notes w.present (reply_to s h said value [] before)) (some_is word.Forked said is) tt
  said_by verdict.Hello said e is = λ h value before. subst (SaysTrue w.notes w.present (reply_to s h said value [] before)) (some_is word.Hello said is) tt
  said_by verdict.Read said e is = λ h value before. subst (SaysTrue w.notes w.present (reply_to s h said value [] before)) (some_is word.Told said is) tt
  said_by verdict.Execute said e is = absurd (none_is said is)
  said_by verdict.Cancel said e is = absurd (none_is said is)
  said_by verdict.Touch said e is = absurd (none_is said is)
  said_by verdict.Done said e is = absurd (none_is said is)

  answered : (entry : Entry) → w.present.rows s.lane ≡ Some entry → verdict_at strict w.present (call_as s) ≡ verdict.Done → WasExecuted w.present (name_of s) entry.result
  answered entry is e =
      let d = done_of_row w strict (call_as s) r e in
      let same : d.0 ≡ entry = some_is d.0 entry (sym d.1 ∙ is) in
      subst (λ (x : Entry). WasExecuted w.present (name_of s) x.result) same d.2

  pub handling : (v : World) (said : Word) (result : List ℕ) → Handles strict w s v said result → Handled w v s said result
  handling v said result (executes x e) =
      let m = note_then verdict.Execute (λ h. h) e in
      by_commit (executed w.present (name_of s) x) word.Done x (record { opening = refl; older = refl; clock = inr refl }) (history.executes strict (call_as s) x m e) (λ h value before. done_of_execution w strict (call_as s) x r m e)
  handling v said result (begins e) =
      let m = note_then verdict.Execute (λ h. h) e in
      by_commit (begun w.present (name_of s)) word.AtWork [] (record { opening = refl; older = refl; clock = inr refl }) (history.begins strict (call_as s) m e) (λ h value before. tt)
  handling v said result (fails e) =
      let m = note_then verdict.Execute (λ h. h) e in
      record {
        reached = goes _ r (history.fails strict (call_as s) m e);
        past = λ y n. n;
        notes = λ n x. inr x;
        names = either_of (λ n. (x : Note) × Among x w.notes × (x.name ≡ n.name)) (record { name = name_of s; since = heard w.present }) w.notes (note_of s, m, refl) (λ n x. (n, x, refl));
        here = (lawful_of w r).here;
        next = record { opening = refl; older = refl; clock = inl refl };
        says = λ h value before. inl refl;
      }
  handling v said result (cancels e) =
      let m = note_then verdict.Cancel (λ h. h) e in
      by_commit (withdrawn w.present (name_of s)) word.Never [] (record { opening = refl; older = refl; clock = inr refl }) (history.cancels strict (call_as s) m e) (λ h value before. record { stamp = w.present.clock + 1; there = inl refl })
  handling v said result (touches entry is e) =
      let m = note_then verdict.Touch (λ h. h) e in
      by_commit (touched w.present s.lane entry) word.Stale [] (record { opening = refl; older = refl; clock = inr refl }) (history.touches strict (call_as s) entry m e is) (λ h value before. closed_touched entry is e)
  handling v said result (answers entry is e) = by_itself word.Done entry.result (λ h value before. answered entry is e)
  handling v said result (says x y e is) = by_itself y [] (said_by x y e is)

-- A SERVER'S STEP leaves all else as it was
pub server_moves : (w : Both) (v : World) (alive : List Store) (made left : List Reply) → Holds w → Reached v → AreAmong w.server.past v.past → AreAmong w.server.notes v.notes → ((n : Note) → Among n v.notes → (m : Note) × Among m w.server.notes × (m.name ≡ n.name)) → AreAmong alive v.past → ((r : Reply) → Among r made → IsReply v.notes v.past w.sent r) → AreAmong left made → Holds (record w { server = v; alive = alive; made = made; left = left })
server_moves w v alive made left h reached past notes names there replies gone = record {
  reached = reached;
  alive = there;
  calls = λ s m. call_later w.server.notes v.notes w.server.past v.past notes past s (h.calls s m);
  callers = h.callers;
  alone = h.alone;
  tags = λ n m. let had = names n m in subst (λ (o : Name). IsOf w.clients o.tag) had.2 (h.tags had.0 had.1);
  apart = h.apart;
  made = replies;
  left = gone;
  each = λ i. client_later w.server.notes v.notes w.server.past v.past notes past w.sent (w.clients i) names (h.each i);
  told = λ t m. fate_later w.server.notes v.notes w.server.past v.past notes past t.ended t.ended.fate (h.told t m);
}

all_here : {A : Type 0} (xs : List A) → AreAmong xs xs
all_here xs = λ x m. m

-- the replies that were there
replies_later : (w : Both) (v : World) → Holds w → AreAmong w.server.past v.past → AreAmong w.server.notes v.notes → (r : Reply) → Among r w.made → IsReply v.notes v.past w.sent r
replies_later w v h past notes r m = reply_later w.server.notes v.notes w.server.past v.past notes past w.sent w.sent (λ s n. n) r (h.made r m)

pub handled_holds : (strict : Bool) (w : Both) (s : Sent) (v : World) (said : Word) (value : ℕ) (result : List ℕ) → Holds w → Among s w.sent → Handles strict w.server s v said result → Holds (handled w v (reply_to s (heard v.present) said value result w.sent))
handled_holds strict w s v said value result h m x =
    let d = handling strict w.server s h.reached (h.calls s m).noted v said result x in
    let r = reply_to s (heard v.present) said value result w.sent in
    server_moves w v (v.present ∷ w.alive) (r ∷ w.made) w.left h d.reached d.past d.notes d.names
    (either_of (λ y. Among y v.past) v.present w.alive d.here (λ y n. d.past y (h.alive y n)))
    (either_of (λ y. IsReply v.notes v.past w.sent y) r w.made (record { call = m; attempt = refl; store = v.present; there = d.here; is = refl; says = d.says (heard v.present) value w.sent }) (replies_later w v h d.past d.notes))
    (λ y n. inr (h.left y n))

pub works_holds : (w : Both) (s : Store) → Holds w → Works w.server s → Holds (record w { server = commit w.server s; alive = s ∷ w.alive })
works_holds w s h x =
    server_moves w (commit w.server s) (s ∷ w.alive) w.made w.left h (goes (commit w.server s) h.reached (commits s (by x))) (λ y m. inr m) (λ n m. m) (λ n m. (n, m, refl))
    (either_of (λ y. Among y (s ∷ w.server.past)) s w.alive (inl refl) (λ y n. inr (h.alive y n)))
    (replies_later w (commit w.server s) h (λ y m. inr m) (λ n m. m)) h.left
  where
    by : {y : Store} → Works w.server y → Commits w.server y
    by (finishes lane e result is at_work) = history.finishes lane e result is at_work
    by (forgets lane e is other) = history.forgets lane e is other

pub opened_holds : (w : Both) (s : Store) (nonce : ℕ) → Holds w → Among s w.server.past → IsDrawnAnew nonce w.server.past → Holds (opened_server w s nonce)
opened_holds w s nonce h m drawn =
    server_moves w (commit w.server (reopened s nonce)) (reopened s nonce ∷ []) w.made w.left h (history.set_back s nonce h.reached m drawn) (λ y n. inr n) (λ n x. x) (λ n x. (n, x, refl))
    (either_of (λ y. Among y (reopened s nonce ∷ w.server.past)) (reopened s nonce) [] (inl refl) (λ y n. elim n [ ]))
    (replies_later w (commit w.server (reopened s nonce)) h (λ y n. inr n) (λ n x. x)) h.left

pub synced_holds : (w : Both) (kept : List Store) → Holds w → AreAmong kept w.alive → Holds (record w { alive = kept })
synced_holds w kept h some = server_moves w w.server kept w.made w.left h h.reached (λ y n. n) (λ n x. x) (λ n x. (n, x, refl)) (λ y n. h.alive y (some y n)) h.made h.left

pub left_holds : (w : Both) (r : Reply) → Holds w → Among r w.made → Holds (record w { left = r ∷ w.left })
left_holds w r h m = server_moves w w.server w.alive w.made (r ∷ w.left) h h.reached (λ y n. n) (λ n x. x) (λ n x. (n, x, refl)) h.alive h.made (either_of (λ y. Among y w.made) r w.left m h.left)
