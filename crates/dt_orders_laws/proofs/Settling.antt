-- An order that is closed for each of its notes is settled.
use Rattle.std.proofs.Common.{◌≡◌, ◌≢◌, ◌+◌, ◌≤◌, ◌<◌, ◌∙◌, ℕ, suc, List, ◌∷◌, Bool, true, false, ◌⊎◌, inl, inr, ap, sym, subst, arith, refl}
use Rattle.std.specs.Prelude.{◌==◌, ◌&&◌, not, if◌then◌else◌, nat_le, nat_lt, Option, Some, None}
use Rattle.std.proofs.lemmas.Bool.Decides.{nat_tests}
use Rattle.dt_orders_model.specs.declared.knowledge.Known.{Known}
use Rattle.dt_orders_model.specs.declared.registers.Row.{Row}
use Rattle.dt_orders_model.specs.declared.registers.RowState.{RowState}
use Rattle.dt_orders_model.specs.declared.registers.RowState.TheVariants as state
use Rattle.dt_orders_model.specs.declared.requests.Asked.{Asked}
use Rattle.dt_orders_model.specs.declared.requests.Kind.{Kind}
use Rattle.dt_orders_model.specs.declared.requests.Kind.TheVariants as kind
use Rattle.dt_orders_model.specs.declared.requests.Verdict.{Verdict}
use Rattle.dt_orders_model.specs.declared.requests.Verdict.TheVariants as verdict
use Rattle.dt_orders_model.specs.Closing.{IsClosed, IsOpen}
use Rattle.dt_orders_model.specs.Histories.{Call, Commits, Goes, HasNoNewer, IsNew, Note, Onward, Reached, World, asked_of, begins, cancels, commit, commits, executes, fails, finishes, forgets, known_or, notes, on, starts, stays, touches, verdict_at}
use Rattle.dt_orders_model.specs.Judging.{is_ask, is_forked, is_met, judged_above, judged_by, said, stale_by, wanted}
use Rattle.dt_orders_model.specs.Stores.{Act, Among, Entry, Executed, Given, Name, Store, Taken, Withdrawn, executions, heard, is_executed, is_same, place_of, reopened, row_of, shared, touched}
use Rattle.dt_orders_model.specs.Writing.{row_touched}
use Rattle.dt_orders_laws.proofs.Closed.{KeepsClosed, open_is_not_closed}
use Rattle.dt_orders_laws.proofs.Lawful.{Lawful, drawn_of, new_is_untaken, note_heard, shared_below}
use Rattle.dt_orders_laws.proofs.Lists.{alike_of, at_put, either_of, same_by, same_itself}
use Rattle.dt_orders_laws.proofs.Moving.{does, lawful_of, moves, opened_by}
use Rattle.dt_orders_laws.proofs.Places.{shared_goes_on, shared_reopened}
use Rattle.dt_orders_laws.proofs.Sound.{grown}

-- closed for less too
pub closed_lower : (horizon : ℕ) (row : Option Row) (number at less : ℕ) → less ≤ at → IsClosed horizon row number at → IsClosed horizon row number less
closed_lower horizon None number at less h c = omega arith
closed_lower horizon (Some r) number at less h (inl c) = inl (c.0, omega (arith, c.1))
closed_lower horizon (Some r) number at less h (inr c) = inr (omega (arith, c))

pub record Sealed (w : World) (o : Name) : Type 0 where
  pub note : Note
  pub there : Among note w.notes
  pub same : is_same note.name o ≡ true
  pub closed : (n : Note) → Among n w.notes → is_same n.name o ≡ true → IsClosed w.present.horizon (row_of (w.present.rows o.lane)) o.number (shared n.since w.present)

turned : (a b : Name) → is_same a b ≡ true → is_same b a ≡ true
turned a b h = same_by a b a h (same_itself a)

pub apart : {b : Bool} → b ≡ true → b ≡ false → ⊥
apart x y = cc

module _ (w : World) (l : Lawful w) (o : Name) (sealed : Sealed w o) where
  -- no note of the order is open
  refused : (n : Note) → Among n w.notes → IsOpen w.present.horizon (row_of (w.present.rows n.name.lane)) n.name.number (shared n.since w.present) → (t : Bool) → is_same n.name o ≡ t → is_same n.name o ≡ false
  refused n m is_open false e = e
  refused n m is_open true e =
      let alike = alike_of n.name o e in
      let lane : IsOpen w.present.horizon (row_of (w.present.rows o.lane)) n.name.number (shared n.since w.present) = subst (λ (x : ℕ). IsOpen w.present.horizon (row_of (w.present.rows x)) n.name.number (shared n.since w.present)) alike.lane is_open in
      let number : IsOpen w.present.horizon (row_of (w.present.rows o.lane)) o.number (shared n.since w.present) = subst (λ (x : ℕ). IsOpen w.present.horizon (row_of (w.present.rows o.lane)) x (shared n.since w.present)) alike.number lane in
      absurd (open_is_not_closed w.present.horizon (row_of (w.present.rows o.lane)) o.number (shared n.since w.present) number (sealed.closed n m e))

  -- a note of another order
  sealed_noted : (n : Note) → is_same n.name o ≡ false → Sealed (record { present = w.present; past = w.past; notes = n ∷ w.notes }) o
  sealed_noted n other = record {
    note = sealed.note;
    there = inr sealed.there;
    same = sealed.same;
    closed = either_of (λ x. is_same x.name o ≡ true → IsClosed w.present.horizon (row_of (w.present.rows o.lane)) o.number (shared x.since w.present)) n w.notes (λ same. absurd (apart same other)) sealed.closed;
  }

  not_new : (p : Name) → IsNew p w.notes → (t : Bool) → is_same p o ≡ t → is_same p o ≡ false
  not_new p new false e = e
  not_new p new true e = absurd (new_is_untaken w.notes p new sealed.note sealed.there (same_by o sealed.note.name p (turned sealed.note.name o sealed.same) (turned p o e)))

  -- a commit
  sealed_grown : (horizon : ℕ) (rows : ℕ → Option Entry) (log : List Taken) (results : List Given) → KeepsClosed w.present.clock w.present.horizon w.present.rows horizon rows → Sealed (commit w (grown w.present horizon rows log results)) o
  sealed_grown horizon rows log results keeps = record {
    note = sealed.note;
    there = sealed.there;
    same = sealed.same;
    closed = λ n m same.
        let less = shared_goes_on n.since w.present.clock w.present.opening w.present.older (note_heard w l n m) in
        let below = shared_below n.since w.present (l.each w.present l.here).sound in
        closed_lower horizon (row_of (rows o.lane)) o.number (shared n.since w.present) (shared n.since (grown w.present horizon rows log results)) less
        (keeps.keeps o.lane o.number (shared n.since w.present) below (sealed.closed n m same));
  }

  -- an opening
  other_nonce : (nonce : ℕ) → ((s : Store) → Among s w.past → s.opening.nonce ≢ nonce) → (n : Note) → Among n w.notes → n.since.nonce ≢ nonce
  other_nonce nonce drawn n m e = let c = l.from n m in drawn c.store c.there (sym (ap (λ (q : Known). q.nonce) c.is) ∙ e)

  sealed_opened : (nonce : ℕ) → ((s : Store) → Among s w.past → s.opening.nonce ≢ nonce) → Sealed (commit w (reopened w.present nonce)) o
  sealed_opened nonce drawn = record {
    note = sealed.note;
    there = sealed.there;
    same = sealed.same;
    closed = λ n m same.
        let less = shared_reopened n.since w.present.clock nonce (w.present.opening ∷ w.present.older) (other_nonce nonce drawn n m) in
        closed_lower w.present.horizon (row_of (w.present.rows o.lane)) o.number (shared n.since w.present) (shared n.since (reopened w.present nonce)) less (sealed.closed n m same);
  }

  -- what another order's taking adds
  other_taken : (n : Name) (stamp : ℕ) (act : Act) → is_same n o ≡ false → executions o (record { name = n; stamp = stamp; act = act } ∷ w.present.log) ≡ executions o w.present.log
  other_taken n stamp act other = ap (λ (b : Bool). if b && is_executed act then suc (executions o w.present.log) else executions o w.present.log) other

-- SETTLED over a step: as often executed, and sealed on
pub record Settles (w v : World) (o : Name) : Type 0 where
  pub sealed : Sealed v o
  pub same : executions o v.present.log ≡ executions o w.present.log

settles_commit : (w : World) (s : Store) (l : Lawful w) (o : Name) → Sealed w o → Commits w s → Settles w (commit w s) o
settles_commit w s l o sealed (executes strict c result m e) =
    let k = (does w s l (executes strict c result m e)).keeps in
    let other = refused w l o sealed c.note m (opened_by w strict c verdict.Execute tt e) (is_same c.note.name o) refl in
    record { sealed = sealed_grown w l o sealed _ _ _ _ k; same = other_taken w l o sealed c.note.name (w.present.clock + 1) Executed other }
settles_commit w s l o sealed (begins strict c m e) =
    let k = (does w s l (begins strict c m e)).keeps in
    let other = refused w l o sealed c.note m (opened_by w strict c verdict.Execute tt e) (is_same c.note.name o) refl in
    record { sealed = sealed_grown w l o sealed _ _ _ _ k; same = other_taken w l o sealed c.note.name (w.present.clock + 1) Executed other }
settles_commit w s l o sealed (cancels strict c m e) =
    let k = (does w s l (cancels strict c m e)).keeps in
    let other = refused w l o sealed c.note m (opened_by w strict c verdict.Cancel tt e) (is_same c.note.name o) refl in
    record { sealed = sealed_grown w l o sealed _ _ _ _ k; same = other_taken w l o sealed c.note.name (w.present.clock + 1) Withdrawn other }
settles_commit w s l o sealed (touches strict c entry m e is) =
    record { sealed = sealed_grown w l o sealed _ _ _ _ (does w s l (touches strict c entry m e is)).keeps; same = refl }
settles_commit w s l o sealed (finishes lane entry result is at_work) =
    record { sealed = sealed_grown w l o sealed _ _ _ _ (does w s l (finishes lane entry result is at_work)).keeps; same = refl }
settles_commit w s l o sealed (forgets lane entry is other) =
    record { sealed = sealed_grown w l o sealed _ _ _ _ (does w s l (forgets lane entry is other)).keeps; same = refl }

settles : (w v : World) (l : Lawful w) (o : Name) → Sealed w o → Goes w v → Settles w v o
settles w v l o sealed (notes p s new m) = record { sealed = sealed_noted w l o sealed (record { name = p; since = heard s }) (not_new w l o sealed p new (is_same p o) refl); same = refl }
settles w v l o sealed (fails strict c m e) = record { sealed = sealed_noted w l o sealed (record { name = c.note.name; since = heard w.present }) (refused w l o sealed c.note m (opened_by w strict c verdict.Execute tt e) (is_same c.note.name o) refl); same = refl }
settles w v l o sealed (commits s c) = settles_commit w s l o sealed c
settles w v l o sealed (starts nonce drawn) = record { sealed = sealed_opened w l o sealed nonce (λ s m. (drawn_of nonce w.past drawn s m).0); same = refl }

pub settled_on : (w v : World) (l : Lawful w) (o : Name) → Sealed w o → Onward w v → Lawful v × Settles w v o
settled_on w v l o sealed stays = (l, record { sealed = sealed; same = refl })
settled_on w v l o sealed (on {u = u} x go g) =
    let a = settled_on w u l o sealed go in
    let b = settles u x a.0 o a.1.sealed g in
    ((moves u x a.0 g).lawful, record { sealed = b.sealed; same = b.same ∙ a.1.same })

-- WHO IS REFUSED for a row or for want of one is closed
abbrev pub Refuses : Verdict → Type 0
Refuses verdict.Old = Unit {0}
Refuses verdict.Stale = Unit {0}
Refuses _ = ⊥

behind : (t : Bool) (v w : Verdict) → (Refuses v → ⊥) → Refuses (if t then v else w) → Refuses w
behind true v w h refuses = absurd (h refuses)
behind false v w h refuses = refuses

said_refuses_none : (s : RowState) → Refuses (said s) → ⊥
said_refuses_none state.AtWork h = h
said_refuses_none state.Cancelled h = h
said_refuses_none state.Done h = h

wanted_refuses_none : (k : Kind) → Refuses (wanted k) → ⊥
wanted_refuses_none kind.Order h = h
wanted_refuses_none kind.Cancel h = h
wanted_refuses_none kind.Ask h = h

above_refuses : (floor at : ℕ) (k : Kind) (t : Bool) → nat_lt at floor ≡ t → Refuses (if t then verdict.Old else wanted k) → at < floor
above_refuses floor at k true e h = grind (arith, nat_tests)
above_refuses floor at k false e h = absurd (wanted_refuses_none k h)

stale_refuses : (stamp at : ℕ) (t : Bool) → nat_le stamp at ≡ t → Refuses (if t then verdict.Touch else verdict.Stale) → at < stamp
stale_refuses stamp at true e h = absurd h
stale_refuses stamp at false e h = grind (arith, nat_tests)

row_refuses : (horizon : ℕ) (r : Row) (a : Asked) (at : ℕ) (t u : Bool) → nat_le a.number r.number ≡ u → Refuses (if t then said r.state else if u then stale_by r at else judged_above r.born a.kind at) → IsClosed horizon (Some r) a.number at
row_refuses horizon r a at true u e h = absurd (said_refuses_none r.state h)
row_refuses horizon r a at false true e h = inl (grind (arith, nat_tests), stale_refuses r.stamp at (nat_le r.stamp at) refl h)
row_refuses horizon r a at false false e h = inr (above_refuses r.born at a.kind (nat_lt at r.born) refl h)

judged_refuses : (horizon : ℕ) (row : Option Row) (a : Asked) (at : ℕ) → Refuses (judged_by horizon row a at) → IsClosed horizon row a.number at
judged_refuses horizon None a at h = above_refuses horizon at a.kind (nat_lt at horizon) refl h
judged_refuses horizon (Some r) a at h = row_refuses horizon r a at (r.number == a.number && r.tag == a.tag) (nat_le a.number r.number) refl h

pub refused_is_closed : (strict : Bool) (s : Store) (c : Call) → Refuses (verdict_at strict s c) → IsClosed s.horizon (row_of (s.rows c.note.name.lane)) c.note.name.number (shared c.note.since s)
refused_is_closed strict s c h =
    let by = judged_by s.horizon (row_of (s.rows c.note.name.lane)) (asked_of c) (shared c.note.since s) in
    let met : Verdict = if strict && not (is_met s.opening.nonce c.knows) then verdict.Hello else by in
    let asks : Verdict = if is_ask c.kind then verdict.Read else met in
    judged_refuses s.horizon (row_of (s.rows c.note.name.lane)) (asked_of c) (shared c.note.since s)
    (behind (strict && not (is_met s.opening.nonce c.knows)) verdict.Hello by (λ x. x)
    (behind (is_ask c.kind) verdict.Read met (λ x. x)
    (behind (is_forked c.knows (place_of (known_or c.note.since c.knows) s)) verdict.Forked asks (λ x. x) h)))

-- a call with the newest commit of its order, that is closed, seals it
sealed_by : (w : World) (note : Note) → Among note w.notes → HasNoNewer w note → IsClosed w.present.horizon (row_of (w.present.rows note.name.lane)) note.name.number (shared note.since w.present) → Sealed w note.name
sealed_by w note m newest closed = record {
  note = note;
  there = m;
  same = same_itself note.name;
  closed = λ n noted same. closed_lower w.present.horizon (row_of (w.present.rows note.name.lane)) note.name.number (shared note.since w.present) (shared n.since w.present) (newest n noted same) closed;
}

refuses_of : (v : Verdict) → (v ≡ verdict.Old) ⊎ (v ≡ verdict.Stale) → Refuses v
refuses_of v (inl e) = subst Refuses (sym e) tt
refuses_of v (inr e) = subst Refuses (sym e) tt

-- UNKNOWN IS SETTLED
pub unknown_settled : (w v : World) (strict : Bool) (c : Call) → Reached w → Among c.note w.notes → HasNoNewer w c.note → (verdict_at strict w.present c ≡ verdict.Old) ⊎ (verdict_at strict w.present c ≡ verdict.Stale) → Onward w v → executions c.note.name v.present.log ≡ executions c.note.name w.present.log
unknown_settled w v strict c r m newest refusal onward =
    let closed = refused_is_closed strict w.present c (refuses_of (verdict_at strict w.present c) refusal) in
    let settled = settled_on w v (lawful_of w r) c.note.name (sealed_by w c.note m newest closed) onward in
    settled.1.same

-- WHO IS TOUCHED is stale by its number
abbrev pub Touches : Verdict → Type 0
Touches verdict.Touch = Unit {0}
Touches _ = ⊥

behind_touch : (t : Bool) (v w : Verdict) → (Touches v → ⊥) → Touches (if t then v else w) → Touches w
behind_touch true v w h touch = absurd (h touch)
behind_touch false v w h touch = touch

said_touches_none : (s : RowState) → Touches (said s) → ⊥
said_touches_none state.AtWork h = h
said_touches_none state.Cancelled h = h
said_touches_none state.Done h = h

wanted_touches_none : (k : Kind) → Touches (wanted k) → ⊥
wanted_touches_none kind.Order h = h
wanted_touches_none kind.Cancel h = h
wanted_touches_none kind.Ask h = h

above_touches_none : (t : Bool) (k : Kind) → Touches (if t then verdict.Old else wanted k) → ⊥
above_touches_none true k h = h
above_touches_none false k h = wanted_touches_none k h

touch_number : (r : Row) (a : Asked) (at : ℕ) (t u : Bool) → nat_le a.number r.number ≡ u → Touches (if t then said r.state else if u then stale_by r at else judged_above r.born a.kind at) → a.number ≤ r.number
touch_number r a at true u e h = absurd (said_touches_none r.state h)
touch_number r a at false true e h = grind (arith, nat_tests)
touch_number r a at false false e h = absurd (above_touches_none (nat_lt at r.born) a.kind h)

judged_touches : (horizon : ℕ) (e : Entry) (row : Option Entry) → row ≡ Some e → (a : Asked) (at : ℕ) → Touches (judged_by horizon (row_of row) a at) → a.number ≤ e.row.number
judged_touches horizon e row is a at h =
    let it : Touches (judged_by horizon (Some e.row) a at) = subst (λ (x : Option Entry). Touches (judged_by horizon (row_of x) a at)) is h in
    touch_number e.row a at (e.row.number == a.number && e.row.tag == a.tag) (nat_le a.number e.row.number) refl it

pub touched_number : (strict : Bool) (s : Store) (c : Call) (e : Entry) → s.rows c.note.name.lane ≡ Some e → verdict_at strict s c ≡ verdict.Touch → c.note.name.number ≤ e.row.number
touched_number strict s c e is v =
    let by = judged_by s.horizon (row_of (s.rows c.note.name.lane)) (asked_of c) (shared c.note.since s) in
    let met : Verdict = if strict && not (is_met s.opening.nonce c.knows) then verdict.Hello else by in
    let asks : Verdict = if is_ask c.kind then verdict.Read else met in
    let whole : Touches (verdict_at strict s c) = subst Touches (sym v) tt in
    judged_touches s.horizon e (s.rows c.note.name.lane) is (asked_of c) (shared c.note.since s)
    (behind_touch (strict && not (is_met s.opening.nonce c.knows)) verdict.Hello by (λ x. x)
    (behind_touch (is_ask c.kind) verdict.Read met (λ x. x)
    (behind_touch (is_forked c.knows (place_of (known_or c.note.since c.knows) s)) verdict.Forked asks (λ x. x) whole)))

-- after the touch its order is settled, whatever commits its notes name
touched_sealed : (w : World) (l : Lawful w) (strict : Bool) (c : Call) (e : Entry) → Among c.note w.notes → w.present.rows c.note.name.lane ≡ Some e → verdict_at strict w.present c ≡ verdict.Touch → Sealed (commit w (touched w.present c.note.name.lane e)) c.note.name
touched_sealed w l strict c e m is v = record {
  note = c.note;
  there = m;
  same = same_itself c.note.name;
  closed = λ n noted same.
      let less = shared_goes_on n.since w.present.clock w.present.opening w.present.older (note_heard w l n noted) in
      let below = shared_below n.since w.present (l.each w.present l.here).sound in
      at_put (λ lane x. lane ≡ c.note.name.lane → IsClosed w.present.horizon (row_of x) c.note.name.number (shared n.since (touched w.present c.note.name.lane e))) w.present.rows c.note.name.lane (Some (record e { row = row_touched (w.present.clock + 1) e.row }))
      (λ h. inl (touched_number strict w.present c e is v, omega arith))
      (λ lane other h. absurd (other h)) c.note.name.lane refl;
}

pub touched_settled : (w v : World) (strict : Bool) (c : Call) (e : Entry) → Reached w → Among c.note w.notes → w.present.rows c.note.name.lane ≡ Some e → verdict_at strict w.present c ≡ verdict.Touch → Onward (commit w (touched w.present c.note.name.lane e)) v → executions c.note.name v.present.log ≡ executions c.note.name w.present.log
touched_settled w v strict c e r m is t onward =
    let l = lawful_of w r in
    let after : World = commit w (touched w.present c.note.name.lane e) in
    let lawful = (does w (touched w.present c.note.name.lane e) l (touches strict c e m t is)).lawful in
    (settled_on after v lawful c.note.name (touched_sealed w l strict c e m is t) onward).1.same
