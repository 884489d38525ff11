-- What an answer says of an order.
use Rattle.std.proofs.Common.{◌≡◌, ◌+◌, ◌≤◌, ℕ, List, Bool, true, false, inl, inr, sym, subst, arith, refl}
use Rattle.std.specs.Prelude.{◌==◌, ◌&&◌, not, if◌then◌else◌, nat_le, nat_lt, Option, Some, None}
use Rattle.std.proofs.lemmas.Bool.{cases_lt}
use Rattle.std.proofs.lemmas.Bool.Decides.{nat_tests}
use Rattle.dt_orders_model.specs.declared.knowledge.Known.{Known}
use Rattle.dt_orders_model.specs.declared.registers.RowState.{RowState}
use Rattle.dt_orders_model.specs.declared.registers.RowState.TheVariants as state
use Rattle.dt_orders_model.specs.declared.requests.Kind.{Kind}
use Rattle.dt_orders_model.specs.declared.requests.Kind.TheVariants as kind
use Rattle.dt_orders_model.specs.declared.requests.Verdict.{Verdict}
use Rattle.dt_orders_model.specs.declared.requests.Verdict.TheVariants as verdict
use Rattle.dt_orders_model.specs.Closing.{IsClosed}
use Rattle.dt_orders_model.specs.Fates.{WasExecuted, WasWithdrawn}
use Rattle.dt_orders_model.specs.Histories.{Call, Commits, IsNew, cancels, commits, executes, goes, Onward, Reached, World, asked_of, commit, known_or, verdict_at}
use Rattle.dt_orders_model.specs.Judging.{is_ask, is_forked, is_met, judged_above, judged_by, said, stale_by, wanted}
use Rattle.dt_orders_model.specs.Stores.{Among, Entry, Executed, Name, Store, Taken, Withdrawn, executed, executions, heard, is_on, place_of, row_of, shared, withdrawn}
use Rattle.dt_orders_laws.proofs.Lawful.{new_is_untaken}
use Rattle.dt_orders_laws.proofs.Lists.{executed_is_taken, executed_more, had_result, its_execution, name_at, name_is, same_by, was_executed, was_withdrawn}
use Rattle.dt_orders_laws.proofs.Moving.{does, lawful_of, moves_on, reached_on}
use Rattle.dt_orders_laws.proofs.Sound.{IsRow, RowHolds, Sound, Told, TookAs}

-- verdicts by which a row's state is answered
abbrev pub Says : RowState → Verdict → Type 0
Says state.AtWork verdict.AtWork = Unit {0}
Says state.Cancelled verdict.Never = Unit {0}
Says state.Done verdict.Done = Unit {0}
Says _ _ = ⊥

-- a row of the order that was asked for, in this state
pub record HasRow (s : Store) (c : Call) (st : RowState) : Type 0 where
  pub entry : Entry
  pub there : s.rows c.note.name.lane ≡ Some entry
  pub number : entry.row.number ≡ c.note.name.number
  pub tag : entry.row.tag ≡ c.note.name.tag
  pub state : entry.row.state ≡ st

past_test : (st : RowState) (t : Bool) (v w : Verdict) → (Says st v → ⊥) → Says st (if t then v else w) → Says st w
past_test st true v w h says = absurd (h says)
past_test st false v w h says = says

not_forked : (st : RowState) → Says st verdict.Forked → ⊥
not_forked state.AtWork h = h
not_forked state.Cancelled h = h
not_forked state.Done h = h

not_read : (st : RowState) → Says st verdict.Read → ⊥
not_read state.AtWork h = h
not_read state.Cancelled h = h
not_read state.Done h = h

not_hello : (st : RowState) → Says st verdict.Hello → ⊥
not_hello state.AtWork h = h
not_hello state.Cancelled h = h
not_hello state.Done h = h

not_old : (st : RowState) → Says st verdict.Old → ⊥
not_old state.AtWork h = h
not_old state.Cancelled h = h
not_old state.Done h = h

not_touch : (st : RowState) → Says st verdict.Touch → ⊥
not_touch state.AtWork h = h
not_touch state.Cancelled h = h
not_touch state.Done h = h

not_stale : (st : RowState) → Says st verdict.Stale → ⊥
not_stale state.AtWork h = h
not_stale state.Cancelled h = h
not_stale state.Done h = h

not_execute : (st : RowState) → Says st verdict.Execute → ⊥
not_execute state.AtWork h = h
not_execute state.Cancelled h = h
not_execute state.Done h = h

not_cancel : (st : RowState) → Says st verdict.Cancel → ⊥
not_cancel state.AtWork h = h
not_cancel state.Cancelled h = h
not_cancel state.Done h = h

not_wanted : (st : RowState) (k : Kind) → Says st (wanted k) → ⊥
not_wanted st kind.Order h = not_execute st h
not_wanted st kind.Cancel h = not_cancel st h
not_wanted st kind.Ask h = not_read st h

not_above : (st : RowState) (t : Bool) (k : Kind) → Says st (if t then verdict.Old else wanted k) → ⊥
not_above st true k h = not_old st h
not_above st false k h = not_wanted st k h

not_by_stale : (st : RowState) (t : Bool) → Says st (if t then verdict.Touch else verdict.Stale) → ⊥
not_by_stale st true h = not_touch st h
not_by_stale st false h = not_stale st h

said_is : (st r : RowState) → Says st (said r) → r ≡ st
said_is state.AtWork state.AtWork h = refl
said_is state.AtWork state.Cancelled h = absurd h
said_is state.AtWork state.Done h = absurd h
said_is state.Cancelled state.AtWork h = absurd h
said_is state.Cancelled state.Cancelled h = refl
said_is state.Cancelled state.Done h = absurd h
said_is state.Done state.AtWork h = absurd h
said_is state.Done state.Cancelled h = absurd h
said_is state.Done state.Done h = refl

row_says : (s : Store) (c : Call) (st : RowState) (e : Entry) → s.rows c.note.name.lane ≡ Some e → (at : ℕ) → (t u : Bool) → (e.row.number == c.note.name.number && e.row.tag == c.note.name.tag) ≡ t → Says st (if t then said e.row.state else if u then stale_by e.row at else judged_above e.row.born c.kind at) → HasRow s c st
row_says s c st e there at true u is says = record { entry = e; there = there; number = grind (arith, nat_tests); tag = grind (arith, nat_tests); state = said_is st e.row.state says }
row_says s c st e there at false true is says = absurd (not_by_stale st (nat_le e.row.stamp at) says)
row_says s c st e there at false false is says = absurd (not_above st (nat_lt at e.row.born) c.kind says)

judged_says : (s : Store) (c : Call) (st : RowState) (e : Option Entry) → s.rows c.note.name.lane ≡ e → (at : ℕ) → Says st (judged_by s.horizon (row_of e) (asked_of c) at) → HasRow s c st
judged_says s c st None there at says = absurd (not_above st (nat_lt at s.horizon) c.kind says)
judged_says s c st (Some e) there at says = row_says s c st e there at (e.row.number == c.note.name.number && e.row.tag == c.note.name.tag) (nat_le c.note.name.number e.row.number) refl says

-- WHAT IS ANSWERED OF A ROW is in the row
pub says_row : (strict : Bool) (s : Store) (c : Call) (st : RowState) (v : Verdict) → Says st v → verdict_at strict s c ≡ v → HasRow s c st
says_row strict s c st v says e =
    let p = place_of (known_or c.note.since c.knows) s in
    let by = judged_by s.horizon (row_of (s.rows c.note.name.lane)) (asked_of c) (shared c.note.since s) in
    let met : Verdict = if strict && not (is_met s.opening.nonce c.knows) then verdict.Hello else by in
    let asks : Verdict = if is_ask c.kind then verdict.Read else met in
    let whole : Says st (verdict_at strict s c) = subst (λ (x : Verdict). Says st x) (sym e) says in
    judged_says s c st (s.rows c.note.name.lane) refl (shared c.note.since s)
    (past_test st (strict && not (is_met s.opening.nonce c.knows)) verdict.Hello by (not_hello st)
    (past_test st (is_ask c.kind) verdict.Read met (not_read st)
    (past_test st (is_forked c.knows p) verdict.Forked asks (not_forked st) whole)))

-- what its row tells
pub told_of : (s : Store) (c : Call) (st : RowState) → Sound s → (h : HasRow s c st) → Told s.log s.results c.note.name st h.entry.result
told_of s c st sound h =
    let row : IsRow s.clock s.horizon s.log s.results c.note.name.lane h.entry = subst (λ (x : Option Entry). RowHolds s.clock s.horizon s.log s.results c.note.name.lane x) h.there (sound.rows c.note.name.lane) in
    let name = name_is c.note.name.lane h.entry.row.number c.note.name.number h.entry.row.tag c.note.name.tag h.number h.tag in
    let at : Told s.log s.results (name_at c.note.name.lane h.entry.row.number h.entry.row.tag) st h.entry.result = subst (λ (x : RowState). Told s.log s.results (name_at c.note.name.lane h.entry.row.number h.entry.row.tag) x h.entry.result) h.state row.told in
    subst (λ (o : Name). Told s.log s.results o st h.entry.result) name at

-- ONCE AT MOST
pub once_at_most : (w : World) (s : Store) (o : Name) → Reached w → Among s w.past → executions o s.log ≤ 1
once_at_most w s o r m =
    let a = ((lawful_of w r).each s m).sound.once o in
    let b = executed_is_taken o s.log in
    omega arith

-- executed exactly once, by a sound store that has its taking and its result
pub once_exactly : (s : Store) (o : Name) (result : List ℕ) → Sound s → TookAs s.log o Executed → Among (record { name = o; result = result }) s.results → WasExecuted s o result
once_exactly s o result sound took given =
    let a = sound.once o in
    let b = executed_is_taken o s.log in
    let c = was_executed o s.log took.0 took.1 in
    let d = sound.results o in
    let e = had_result o s.results result given in
    record { once = omega arith; given = given; alone = omega arith }

-- the present store of a history is sound
pub sound_now : (w : World) → Reached w → Sound w.present
sound_now w r = let l = lawful_of w r in (l.each w.present l.here).sound

-- and the one after a commit
pub sound_then : (w : World) (s : Store) → Reached w → Commits w s → Sound s
sound_then w s r c = let l = (does w s (lawful_of w r) c).lawful in (l.each s (inl refl)).sound

-- DONE, as an answer of a row
pub done_of_row : (w : World) (strict : Bool) (c : Call) → Reached w → verdict_at strict w.present c ≡ verdict.Done → (e : Entry) × (w.present.rows c.note.name.lane ≡ Some e) × WasExecuted w.present c.note.name e.result
done_of_row w strict c r e =
    let sound = sound_now w r in
    let row = says_row strict w.present c state.Done verdict.Done tt e in
    let told = told_of w.present c state.Done sound row in
    (row.entry, row.there, once_exactly w.present c.note.name row.entry.result sound told.0 told.1)

-- DONE, as the answer of its execution
pub done_of_execution : (w : World) (strict : Bool) (c : Call) (result : List ℕ) → Reached w → Among c.note w.notes → verdict_at strict w.present c ≡ verdict.Execute → WasExecuted (executed w.present c.note.name result) c.note.name result
done_of_execution w strict c result r m e =
    once_exactly (executed w.present c.note.name result) c.note.name result (sound_then w (executed w.present c.note.name result) r (executes strict c result m e)) (w.present.clock + 1, inl refl) (inl refl)

-- DONE stays, where the history has it
pub done_among : (s t : Store) (o : Name) (result : List ℕ) → Sound t → ((d : Taken) → Among d s.log → Among d t.log) → 1 ≤ executions o t.log → Among (record { name = o; result = result }) t.results → WasExecuted t o result
done_among s t o result sound log some given =
    let a = sound.once o in
    let b = executed_is_taken o t.log in
    let d = sound.results o in
    let e = had_result o t.results result given in
    record { once = omega arith; given = given; alone = omega arith }

pub done_stays : (w v : World) (o : Name) (result : List ℕ) → Reached w → Onward w v → WasExecuted w.present o result → WasExecuted v.present o result
done_stays w v o result r onward x =
    let m = moves_on w v (lawful_of w r) onward in
    done_among w.present v.present o result (sound_now v (reached_on w v r onward)) m.log (executed_more o w.present.log v.present.log m.log (let e = x.once in omega arith)) (m.results (record { name = o; result = result }) x.given)

-- NEVER, as an answer of a row
pub never_of_row : (w : World) (strict : Bool) (c : Call) → Reached w → verdict_at strict w.present c ≡ verdict.Never → WasWithdrawn w.present c.note.name
never_of_row w strict c r e =
    let told = told_of w.present c state.Cancelled (sound_now w r) (says_row strict w.present c state.Cancelled verdict.Never tt e) in
    record { stamp = told.0; there = told.1 }

-- NEVER: what was withdrawn isn't executed
pub never_by : (s : Store) (o : Name) → Sound s → WasWithdrawn s o → executions o s.log ≡ 0
never_by s o sound x =
    let a = sound.once o in
    let b = was_withdrawn o s.log x.stamp x.there in
    omega arith

pub never_stays : (w v : World) (o : Name) → Reached w → Onward w v → WasWithdrawn w.present o → executions o v.present.log ≡ 0
never_stays w v o r onward x =
    let m = moves_on w v (lawful_of w r) onward in
    never_by v.present o (sound_now v (reached_on w v r onward)) (record { stamp = x.stamp; there = m.log (record { name = o; stamp = x.stamp; act = Withdrawn }) x.there })

-- A CLOSED NUMBER stays closed
pub closed_stays : (w v : World) (lane number at : ℕ) → Reached w → Onward w v → at ≤ w.present.clock → IsClosed w.present.horizon (row_of (w.present.rows lane)) number at → IsClosed v.present.horizon (row_of (v.present.rows lane)) number at
closed_stays w v lane number at r onward below c = (moves_on w v (lawful_of w r) onward).keeps.keeps lane number at below c

-- WHO IS SERVED knows of nothing that isn't on the path
served : (t : Bool) (w : Verdict) → ((if t then verdict.Forked else w) ≡ verdict.Forked → ⊥) → t ≡ false
served true w h = absurd (h refl)
served false w h = refl

pub served_is_on : (strict : Bool) (s : Store) (c : Call) (q : Known) → c.knows ≡ Some q → (verdict_at strict s c ≡ verdict.Forked → ⊥) → is_on q s ≡ true
served_is_on strict s c q knows h =
    let by = judged_by s.horizon (row_of (s.rows c.note.name.lane)) (asked_of c) (shared c.note.since s) in
    let met : Verdict = if strict && not (is_met s.opening.nonce c.knows) then verdict.Hello else by in
    let asks : Verdict = if is_ask c.kind then verdict.Read else met in
    let not_off = served (is_forked c.knows (place_of (known_or c.note.since c.knows) s)) asks h in
    let it : not (is_on q s) ≡ false = subst (λ (x : Option Known). is_forked x (place_of (known_or c.note.since x) s) ≡ false) knows not_off in
    negated (is_on q s) it
  where
    negated : (b : Bool) → not b ≡ false → b ≡ true
    negated true e = refl
    negated false e = cc

pub path_of : (w : World) (strict : Bool) (s : Store) (c : Call) → Reached w → Among s w.past → c.knows ≡ Some (heard s) → (verdict_at strict w.present c ≡ verdict.Forked → ⊥) → (d : Taken) → Among d s.log → Among d w.present.log
path_of w strict s c r m knows h =
    let l = lawful_of w r in
    (l.path s w.present m l.here (served_is_on strict w.present c (heard s) knows h)).log

pub never_on_path : (w : World) (strict : Bool) (s : Store) (c : Call) (o : Name) → Reached w → Among s w.past → c.knows ≡ Some (heard s) → (verdict_at strict w.present c ≡ verdict.Forked → ⊥) → WasWithdrawn s o → executions o w.present.log ≡ 0
never_on_path w strict s c o r m knows h x = never_by w.present o (sound_now w r) (record { stamp = x.stamp; there = path_of w strict s c r m knows h (record { name = o; stamp = x.stamp; act = Withdrawn }) x.there })

pub done_on_path : (w : World) (strict : Bool) (s : Store) (c : Call) (o : Name) → Reached w → Among s w.past → c.knows ≡ Some (heard s) → (verdict_at strict w.present c ≡ verdict.Forked → ⊥) → executions o s.log ≡ 1 → executions o w.present.log ≡ 1
done_on_path w strict s c o r m knows h once =
    let some = executed_more o s.log w.present.log (path_of w strict s c r m knows h) (omega arith) in
    let a = (sound_now w r).once o in
    let b = executed_is_taken o w.present.log in
    omega arith

pub never_answered : (w v : World) (strict : Bool) (c : Call) → Reached w → verdict_at strict w.present c ≡ verdict.Never → Onward w v → executions c.note.name v.present.log ≡ 0
never_answered w v strict c r e onward = never_stays w v c.note.name r onward (never_of_row w strict c r e)

pub never_written : (w v : World) (strict : Bool) (c : Call) → Reached w → Among c.note w.notes → verdict_at strict w.present c ≡ verdict.Cancel → Onward (commit w (withdrawn w.present c.note.name)) v → executions c.note.name v.present.log ≡ 0
never_written w v strict c r m e onward =
    let after : World = commit w (withdrawn w.present c.note.name) in
    never_stays after v c.note.name (goes after r (commits (withdrawn w.present c.note.name) (cancels strict c m e))) onward (record { stamp = w.present.clock + 1; there = inl refl })

-- WHAT WASN'T NOTED isn't executed
pub unnoted : (w : World) (s : Store) (o : Name) → Reached w → Among s w.past → IsNew o w.notes → executions o s.log ≡ 0
unnoted w s o r m new =
    elim (cases_lt 0 (executions o s.log)) [
      | inl some ↦
          let d = its_execution o s.log (omega arith) in
          let had = ((lawful_of w r).each s m).noted d.0 d.1 in
          absurd (new_is_untaken w.notes o new had.note had.there (same_by d.0.name had.note.name o had.same d.2))
      | inr none ↦ omega arith
    ]
