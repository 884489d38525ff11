-- What each small step of a flow keeps of a log that follows it.
use Rattle.std.proofs.Common.{ℕ, zero, suc, ◌≡◌, ◌⊎◌, ◌+◌, ◌-◌, ◌<◌, ◌≤◌, ◌==◌, ◌&&◌, Bool, true, false, not, List, [], ◌∷◌, ◌++◌, length, map, Option, Some, None, refl, sym, ap, subst, ◌∙◌, inl, inr, arith, append_assoc, length-append}
use Rattle.std.specs.Prelude.{if◌then◌else◌}
use Rattle.std.proofs.lemmas.Bool.{and_right, both_ways, cases_Bool, cases_lt}
use Rattle.std.proofs.lemmas.Bool.Decides.{nat_tests}
use Rattle.std.proofs.lemmas.List.{length-map}
use Rattle.dt_items.specs.declared.item.Item.{Item}
use Rattle.dt_units.specs.declared.parameters.Params.{Params}
use Rattle.dt_flow_model.specs.declared.rows.Fate.{Fate}
use Rattle.dt_flow_model.specs.declared.rows.Taken.{Taken}
use Rattle.dt_flow_model.specs.Flow.{FlowState, Run, run_after}
use Rattle.dt_flow_model.specs.Ledger.{first_unsent, is_open, is_open_in, is_unsent, note_first, open_row, row_at, settle}
use Rattle.dt_flow_model.specs.Facts as facts
use Rattle.dt_flow_model.specs.Facts.{Facts, NeverFall, rows_out}
use Rattle.dt_flow_model.specs.Numbering.{number_of}
use Rattle.dt_flow_model.specs.SendRecord.{Segment, SendRecord, items_in}
use Rattle.dt_flow_laws.proofs.Ledger.{fall_end, length_out, open_here, row_right}
use Rattle.dt_world_laws.specs.Follow.{flow_ledger}
use Rattle.dt_audit.specs.LogRows.{FlowLog, is_sent, is_unsent_in, places_where}
use Rattle.dt_audit_laws.specs.Following.{FollowsFlow}
use Rattle.dt_audit_laws.specs.Numbering.{IsNumbered}
use Rattle.dt_audit_laws.specs.Showing.{AllUnsent, Shows, UnsentFrom, UnsentLast, shown, shown_given}
use Rattle.dt_audit_laws.proofs.Reporting.{count_append, out_count}
use Rattle.dt_audit_laws.proofs.Shown.{waits_not}

-- NOTHING CHANGES that a log shows
pub same_follows : (p : Params) (s t : FlowState) (log : FlowLog) → t.taken ≡ s.taken → t.given ≡ s.given → t.sender_life ≡ s.sender_life → IsNumbered p t.run log → FollowsFlow p s log → FollowsFlow p t log
same_follows p s t log rows given life numbered f = record {
  shows = record { taken = f.shows.taken ∙ ap (map shown) (sym rows); given = f.shows.given ∙ ap (map shown_given) (sym given) };
  numbered = numbered;
  above = λ place h. f.above place (ap (λ r. is_sent r place) (sym rows) ∙ h);
  last = λ some. ap (λ r. is_sent r (log.edge - 1)) rows ∙ f.last some;
  unsent = subst (λ r. UnsentLast t.sender_life r) (sym rows) (subst (λ n. UnsentLast n s.taken) (sym life) f.unsent);
}

-- only the first place of the run matters to a log
pub run_numbered : (p : Params) (run : Option Run) (r : Run) (base now next : ℕ) (log : FlowLog) → run ≡ Some r → 0 < next → IsNumbered p run log → IsNumbered p (run_after run base now next) log
run_numbered p run r base now zero log is some h = absurd (omega arith)
run_numbered p None r base now (suc next) log is some h = absurd cc
run_numbered p (Some q) r base now (suc next) log is some h = h

-- OCTETS THAT WEREN'T SENT
all_append : (life : ℕ) (rows more : List Taken) → AllUnsent life rows → AllUnsent life more → AllUnsent life (rows ++ more)
all_append life [] more h k = k
all_append life (row ∷ rows) more h k = (h.0, h.1, all_append life rows more h.2 k)

pub unsent_append : (life from : ℕ) (rows more : List Taken) → UnsentFrom life from rows → AllUnsent life more → UnsentFrom life from (rows ++ more)
unsent_append life zero rows more h k = all_append life rows more h k
unsent_append life (suc from) [] more h k = elim h [ ]
unsent_append life (suc from) (row ∷ rows) more h k = (h.0, unsent_append life from rows more h.1 k)

pub new_unsent : (life : ℕ) (items : List Item) → AllUnsent life (map (open_row life None) items)
new_unsent life [] = tt
new_unsent life (item ∷ items) = (refl, open_here life None item, new_unsent life items)

-- sent octets stand below those
row_unsent : (life : ℕ) (rows : List Taken) (place : ℕ) → AllUnsent life rows → is_sent rows place ≡ false
row_unsent life [] place h = refl
row_unsent life (row ∷ rows) zero h = ap not h.0
row_unsent life (row ∷ rows) (suc place) h = row_unsent life rows place h.2

pub sent_below : (life from : ℕ) (rows : List Taken) (place : ℕ) → UnsentFrom life from rows → is_sent rows place ≡ true → place < from
sent_below life zero rows place h k = absurd (both_ways _ (row_unsent life rows place h) k)
sent_below life (suc from) [] place h k = elim h [ ]
sent_below life (suc from) (row ∷ rows) zero h k = omega arith
sent_below life (suc from) (row ∷ rows) (suc place) h k = omega (arith, sent_below life from rows place h.1 k)

-- the leftmost of them is the first
pub first_from : (life from : ℕ) (rows : List Taken) → UnsentFrom life from rows → from < length rows → first_unsent life rows ≡ from
first_from life zero [] h lt = absurd (omega arith)
first_from life zero (row ∷ rows) h lt = rw (h.1, h.0) refl
first_from life (suc from) [] h lt = elim h [ ]
first_from life (suc from) (row ∷ rows) h lt = rw (waits_not life row h.0) (ap suc (first_from life from rows h.1 (omega arith)))

-- SENDING
pub noted_sent : (at place count : ℕ) (rows : List Taken) (p : ℕ) → is_sent (note_first at place count rows) p ≡ true → (is_sent rows p ≡ true) ⊎ (p < place + count)
noted_sent at place count [] p h = inl h
noted_sent at zero zero (row ∷ rows) p h = inl h
noted_sent at zero (suc count) (row ∷ rows) zero h = inr (omega arith)
noted_sent at zero (suc count) (row ∷ rows) (suc p) h = elim (noted_sent at zero count rows p h) [ inl before ↦ inl before | inr lt ↦ inr (omega arith) ]
noted_sent at (suc place) count (row ∷ rows) zero h = inl h
noted_sent at (suc place) count (row ∷ rows) (suc p) h = elim (noted_sent at place count rows p h) [ inl before ↦ inl before | inr lt ↦ inr (omega arith) ]

pub noted_there : (at place count : ℕ) (rows : List Taken) (p : ℕ) → place ≤ p → p < place + count → p < length rows → is_sent (note_first at place count rows) p ≡ true
noted_there at place count [] p le lt there = absurd (omega arith)
noted_there at zero zero (row ∷ rows) p le lt there = absurd (omega arith)
noted_there at zero (suc count) (row ∷ rows) zero le lt there = refl
noted_there at zero (suc count) (row ∷ rows) (suc p) le lt there = noted_there at zero count rows p (omega arith) (omega arith) (omega arith)
noted_there at (suc place) count (row ∷ rows) zero le lt there = absurd (omega arith)
noted_there at (suc place) count (row ∷ rows) (suc p) le lt there = noted_there at place count rows p (omega arith) (omega arith) (omega arith)

noted_all : (life at count : ℕ) (rows : List Taken) → AllUnsent life rows → count ≤ length rows → UnsentFrom life count (note_first at 0 count rows)
noted_all life at zero [] h le = tt
noted_all life at zero (row ∷ rows) h le = h
noted_all life at (suc count) [] h le = absurd (omega arith)
noted_all life at (suc count) (row ∷ rows) h le = (refl, noted_all life at count rows h.2 (omega arith))

pub noted_unsent : (life at from count : ℕ) (rows : List Taken) → UnsentFrom life from rows → from + count ≤ length rows → UnsentFrom life (from + count) (note_first at from count rows)
noted_unsent life at zero count rows h le = let e : 0 + count ≡ count = omega arith in rw e (noted_all life at count rows h (omega arith))
noted_unsent life at (suc from) count [] h le = elim h [ ]
noted_unsent life at (suc from) count (row ∷ rows) h le = let e : suc from + count ≡ suc (from + count) = omega arith in rw e (h.0, noted_unsent life at from count rows h.1 (omega arith))

-- SETTLING: how many of the first rows pass a test
abbrev pub opens_below : (Taken → Bool) → ℕ → List Taken → ℕ
opens_below test zero rows = 0
opens_below test (suc from) [] = 0
opens_below test (suc from) (row ∷ rows) = if test row then suc (opens_below test from rows) else opens_below test from rows

pub opens_more : (test : Taken → Bool) (from more : ℕ) (rows : List Taken) → from ≤ more → opens_below test from rows ≤ opens_below test more rows
opens_more test zero more rows le = omega arith
opens_more test (suc from) zero rows le = absurd (omega arith)
opens_more test (suc from) (suc more) [] le = omega arith
opens_more test (suc from) (suc more) (row ∷ rows) le =
    let rest = opens_more test from more rows (omega arith) in
    elim (cases_Bool (test row)) [ inl y ↦ rw y (omega (arith, rest)) | inr n ↦ rw n rest ]

pub opens_front : (test : Taken → Bool) (at : ℕ) (xs ys : List Taken) → opens_below test (length xs) (xs ++ ys) ≡ length (places_where test at xs)
opens_front test at [] ys = refl
opens_front test at (x ∷ xs) ys =
    let rest = opens_front test (suc at) xs ys in
    elim (cases_Bool (test x)) [ inl y ↦ rw y (ap suc rest) | inr n ↦ rw n rest ]

-- settling the leftmost open ones, which were sent, changes nothing of those that weren't
pub settle_unsent : (life : ℕ) (fate : Fate) (count from : ℕ) (rows : List Taken) → UnsentFrom life from rows → count ≤ opens_below (is_open_in life) from rows → UnsentFrom life from (settle life fate count rows)
settle_unsent life fate zero from rows h le = h
settle_unsent life fate (suc count) zero rows h le = absurd (omega arith)
settle_unsent life fate (suc count) (suc from) [] h le = elim h [ ]
settle_unsent life fate (suc count) (suc from) (row ∷ rows) h le =
    elim (cases_Bool (is_open_in life row)) [
      | inl y ↦ rw y (h.0, settle_unsent life fate count from rows h.1 (let le' = rw y at le in omega (arith, le')))
      | inr n ↦ rw n (h.0, settle_unsent life fate (suc count) from rows h.1 (rw n at le))
    ]

-- outstanding octets were sent
mapped_sent : (life first : ℕ) (items : List Item) (more : List Taken) (k : ℕ) → k < length items → is_sent (map (open_row life (Some first)) items ++ more) k ≡ true
mapped_sent life first [] more k h = absurd (omega arith)
mapped_sent life first (item ∷ items) more zero h = refl
mapped_sent life first (item ∷ items) more (suc k) h = mapped_sent life first items more k (omega arith)

sent_right : (xs ys : List Taken) (p k : ℕ) → p ≡ length xs + k → is_sent (xs ++ ys) p ≡ is_sent ys k
sent_right xs ys p k e = ap (λ (row : Taken). not (is_unsent row.first)) (row_right xs ys p k e)

pub out_sent : (clock life : ℕ) (gs : List Segment) (more : List Taken) (k : ℕ) → k < items_in gs → is_sent (rows_out clock life gs ++ more) k ≡ true
out_sent clock life [] more k h = absurd (omega arith)
out_sent clock life (g ∷ gs) more k h =
    let here = map (open_row life (Some (g.first - clock))) g.items in
    let long : length here ≡ length g.items = length-map g.items (open_row life (Some (g.first - clock))) in
    ap (λ rows. is_sent rows k) (append_assoc here (rows_out clock life gs) more)
    ∙ (elim (cases_lt k (length g.items)) [
      | inl lt ↦ mapped_sent life (g.first - clock) g.items (rows_out clock life gs ++ more) k lt
      | inr ge ↦ sent_right here (rows_out clock life gs ++ more) k (k - length g.items) (omega (arith, long)) ∙ out_sent clock life gs more (k - length g.items) (omega arith)
    ])

-- so they stand below those that weren't, and as many are open there
pub outstanding_below : (p : Params) (s : FlowState) (x : SendRecord) (from : ℕ) → s.sender ≡ Some x → Facts p s → UnsentFrom s.sender_life from s.taken → items_in x.outstanding ≤ opens_below (is_open_in s.sender_life) from s.taken
outstanding_below p s x from is f h =
    let old = f.send_side.old in
    let life = s.sender_life in
    let out = rows_out s.sender_zero s.sender_life x.outstanding in
    let waiting = map (open_row s.sender_life None) x.waiting in
    let ledger : s.taken ≡ old ++ (out ++ waiting) = rw is at f.send_side.ledger in
    let split : s.taken ≡ (old ++ out) ++ waiting = ledger ∙ sym (append_assoc old out waiting) in
    let long : length (old ++ out) ≡ length old + items_in x.outstanding = length-append old out ∙ ap (λ n. length old + n) (length_out s.sender_zero s.sender_life x.outstanding) in
    let front : opens_below (is_open_in s.sender_life) (length (old ++ out)) s.taken ≡ length (places_where (is_open_in s.sender_life) 0 (old ++ out)) =
    ap (opens_below (is_open_in s.sender_life) (length (old ++ out))) split ∙ opens_front (is_open_in s.sender_life) 0 (old ++ out) waiting in
    let a = count_append (is_open_in s.sender_life) 0 old out in
    let b = out_count s.sender_zero s.sender_life (0 + length old) x.outstanding in
    elim (cases_lt 0 (items_in x.outstanding)) [
      | inl some ↦
          let last : is_sent s.taken (length old + items_in x.outstanding - 1) ≡ true =
          ap (λ rows. is_sent rows (length old + items_in x.outstanding - 1)) ledger
          ∙ sent_right old (out ++ waiting) (length old + items_in x.outstanding - 1) (items_in x.outstanding - 1) (omega (arith, some))
          ∙ out_sent s.sender_zero s.sender_life x.outstanding waiting (items_in x.outstanding - 1) (omega (arith, some)) in
          let below = sent_below s.sender_life from s.taken (length old + items_in x.outstanding - 1) h last in
          omega (arith, opens_more (is_open_in s.sender_life) (length (old ++ out)) from s.taken (omega (arith, long, below)), front, a, b)
      | inr none ↦ omega arith
    ]

-- A LATER LIFE
pub fall_unsent : (life least : ℕ) (rows : List Taken) → NeverFall least life (facts.lives_of rows) → UnsentFrom (life + 1) (length rows) rows
fall_unsent life least [] h = tt
fall_unsent life least (row ∷ rows) h =
    let most = fall_end row.life life (facts.lives_of rows) h.1 in
    let other : (row.life == life + 1) ≡ false = grind (arith, nat_tests) in
    (and_right (is_unsent row.first) (row.life == life + 1) other, fall_unsent life row.life rows h.1)

-- A LINE OF THE FLOW leaves edge and next number, and no octet is sent
pub kept_follows : (p : Params) (s t : FlowState) (log next : FlowLog) → Shows (flow_ledger t) next → t.run ≡ s.run → next.edge ≡ log.edge → next.next ≡ log.next → ((place : ℕ) → is_sent t.taken place ≡ is_sent s.taken place)
    → UnsentLast t.sender_life t.taken → FollowsFlow p s log → FollowsFlow p t next
kept_follows p s t log next shows run edge number same unsent f = record {
  shows = shows;
  numbered = subst (λ r. IsNumbered p r next) (sym run) (numbered_as s.run f.numbered);
  above = λ place h. omega (arith, edge, f.above place (sym (same place) ∙ h));
  last = λ some. same (next.edge - 1) ∙ ap (λ e. is_sent s.taken (e - 1)) edge ∙ f.last (omega (arith, edge));
  unsent = unsent;
}
  where
    numbered_as : (r : Option Run) → IsNumbered p r log → IsNumbered p r next
    numbered_as None h = edge ∙ h
    numbered_as (Some r) h = (omega (arith, edge, h.0), number ∙ h.1 ∙ ap (λ e. number_of p (e - r.base)) (sym edge))

-- THE RUN BEHIND A FIRST TRANSMISSION: its base is as far below the place as the offset says
pub base_after : (run : Option Run) (base now n place : ℕ) → (n ≡ 0 → base ≡ place) → (0 < n → (r : Run) × (run ≡ Some r) × (r.base + n ≡ place)) → (r : Run) × (run_after run base now n ≡ Some r) × (r.base + n ≡ place)
base_after run base now zero place first on = (record { base = base; began = now; sent = now }, refl, omega (arith, first refl))
base_after None base now (suc n) place first on = let r = on (omega arith) in absurd (let e = r.1 in cc)
base_after (Some r) base now (suc n) place first on =
    let q = on (omega arith) in
    let same : r ≡ q.0 = (let e = q.1 in cc) in
    (record { base = r.base; began = r.began; sent = now }, refl, omega (arith, q.2, ap (λ (k : Run). k.base) same))

-- the row at the leftmost place that waits
pub first_is : (life : ℕ) (rows : List Taken) → first_unsent life rows < length rows → is_unsent_in life (row_at rows (first_unsent life rows)) ≡ true
first_is life [] lt = absurd (omega arith)
first_is life (row ∷ rows) lt =
    elim (cases_Bool (is_open_in life row && is_unsent row.first)) [
      | inl y ↦ rw y (by (is_open row.fate) (row.life == life) (is_unsent row.first) y)
      | inr n ↦ rw n (first_is life rows (let lt' = rw n at lt in omega (arith, lt')))
    ]
  where
    by : (a b c : Bool) → ((a && b) && c) ≡ true → (c && b) ≡ true
    by true true true h = refl
    by true true false h = h
    by true false c h = absurd cc
    by false b c h = absurd cc

pub unsent_not : (life from : ℕ) (rows : List Taken) (place : ℕ) → UnsentFrom life from rows → place < from → is_unsent_in life (row_at rows place) ≡ false
unsent_not life zero rows place h lt = absurd (omega arith)
unsent_not life (suc from) [] place h lt = elim h [ ]
unsent_not life (suc from) (row ∷ rows) zero h lt = h.0
unsent_not life (suc from) (row ∷ rows) (suc place) h lt = unsent_not life from rows place h.1 (omega arith)
