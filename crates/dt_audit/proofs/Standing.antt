-- What the notes of a flow say of its rows, and that each line keeps it: the notes pass where the rows do, and have the same flaw where they don't.
use Rattle.std.proofs.Common.{ℕ, zero, suc, ◌≡◌, ◌+◌, ◌-◌, ◌<◌, ◌≤◌, ◌==◌, ◌&&◌, Bool, true, false, not, List, [], ◌∷◌, ◌++◌, length, map, take, drop, max, Option, None, Some, Result, Ok, Err, refl, sym, ap, ◌∙◌, subst, inl, inr, arith, append-nil, length-append}
use Rattle.std.specs.Prelude.{◌||◌, if◌then◌else◌, nat_le, nat_lt}
use Rattle.std.specs.List.{list_all, list_any}
use Rattle.std.proofs.lemmas.Bool.{and_left, and_parts, and_right, cases_Bool, cases_lt, eqb-true, ltb-false}
use Rattle.std.proofs.lemmas.Bool.Decides.{nat_tests}
use Rattle.std.proofs.lemmas.List.{length-map}
use Rattle.std.proofs.lemmas.List.Folds.{list_any-append}
use Rattle.dt_flow_model.specs.declared.rows.Fate.{Fate}
use Rattle.dt_flow_model.specs.declared.rows.Fate.TheVariants.{Open, Acked, Uncertain}
use Rattle.dt_flow_model.specs.declared.rows.Taken.{Taken}
use Rattle.dt_flow_model.specs.declared.rows.Given.{Given}
use Rattle.dt_flow_model.specs.Facts as facts
use Rattle.dt_flow_model.specs.Facts.{last_of}
use Rattle.dt_flow_model.specs.Ledger.{given_rows, is_given, is_open, is_open_in, is_unsent, open_row, row_at, take_rows, top, top_from}
use Rattle.dt_flow_laws.proofs.Ledger.{lives_append, settle_firsts, settle_length, settle_lives, took_firsts}
use Rattle.dt_units.specs.Numbers.{number_after, number_distance}
use Rattle.dt_audit.specs.declared.flow_facts.FlowFact.{FlowFact}
use Rattle.dt_audit.specs.declared.flow_facts.FlowFact.TheVariants as changes
use Rattle.dt_audit.specs.declared.flow_facts.Lives.{Lives}
use Rattle.dt_audit.specs.declared.flaws.Flaw.{Flaw}
use Rattle.dt_audit.specs.declared.gaps.Gap.{Gap}
use Rattle.dt_audit.specs.FlowNotes.{Notes, goes_on, holds, in_life, is_reported, no_notes, note, note_accepted, note_at, note_given, notes_after, was_sent, with_gap}
use Rattle.dt_audit.specs.LogRows.{FlowLog, accept_at, accept_sent, all_passed, behind_last, blank, first_place, follows, give, is_passed, is_sent, is_uncertain, is_unsent_in, no_rows, open_places, place_back, places_where, rows_after, send_rows, unsent_places, with_fate}
use Rattle.dt_audit.proofs.Regions.{NonePasses, Region, new_open, new_unsent, region_above, region_all, region_append, region_behind, region_below, region_count, region_none, region_some, region_within, send_at, send_at_above, send_at_below, send_keeps, send_region, settle_keeps, settle_region}
use Rattle.dt_audit.proofs.Sound.{Sound, length-blank, length-send, sound_acknowledged, sound_given, sound_given_up, sound_later, sound_sent, sound_took, top_given}

-- no row is of a later life
abbrev pub Within : ℕ → List ℕ → Type 0
Within most [] = Unit {0}
Within most (life ∷ lives) = (life ≤ most) × Within most lives

pub record Stands (n : Notes) (l : FlowLog) : Type 0 where
  pub count : length l.taken ≡ n.taken
  pub opens : Region (is_open_in n.life) n.open_from l.taken
  pub unsents : Region (is_unsent_in n.life) n.unsent_from l.taken
  pub lives : Within n.life (facts.lives_of l.taken)
  pub edge : l.edge ≡ n.edge
  pub next : l.next ≡ n.next
  pub top_is : top l.given ≡ n.top
  pub goes : (life place : ℕ) → follows life place (last_of None l.given) ≡ goes_on life place n
  pub sent : (place : ℕ) → is_sent l.taken place ≡ was_sent place n
  -- what is remembered of earlier lives is below the rows of this one that weren't sent
  pub earlier : (place : ℕ) → n.unsent_from ≤ place → list_any (holds place) n.gaps ≡ false
  pub sound : Sound n.life l

-- two verdicts on a line agree
abbrev pub Agrees : ℕ → Result Notes Flaw → Result FlowLog Flaw → Type 0
Agrees life (Ok n) (Ok l) = Stands n l × (n.life ≡ life)
Agrees life (Ok n) (Err flaw) = ⊥
Agrees life (Err flaw) (Ok l) = ⊥
Agrees life (Err flaw) (Err other) = flaw ≡ other

agree_if : (life : ℕ) (a b : Bool) (x y : Result Notes Flaw) (x' y' : Result FlowLog Flaw) → a ≡ b → (b ≡ true → Agrees life x x') → (b ≡ false → Agrees life y y') → Agrees life (if a then x else y) (if b then x' else y')
agree_if life true true x y x' y' e on off = on refl
agree_if life false false x y x' y' e on off = off refl
agree_if life true false x y x' y' e on off = absurd cc
agree_if life false true x y x' y' e on off = absurd cc

-- A LIFE BEGINS
not_of : (life later : ℕ) → life < later → (life == later) ≡ false
not_of life later lt = grind (arith, nat_tests)

none_open : (most life : ℕ) (rows : List Taken) → most < life → Within most (facts.lives_of rows) → NonePasses (is_open_in life) rows
none_open most life [] lt h = tt
none_open most life (row ∷ rows) lt h = (and_right _ _ (not_of row.life life (omega (arith, h.0))), none_open most life rows lt h.1)

none_unsent : (most life : ℕ) (rows : List Taken) → most < life → Within most (facts.lives_of rows) → NonePasses (is_unsent_in life) rows
none_unsent most life [] lt h = tt
none_unsent most life (row ∷ rows) lt h = (and_right _ _ (not_of row.life life (omega (arith, h.0))), none_unsent most life rows lt h.1)

within_more : (most more : ℕ) (lives : List ℕ) → most ≤ more → Within most lives → Within more lives
within_more most more [] le h = tt
within_more most more (life ∷ lives) le h = (omega (arith, h.0), within_more most more lives le h.1)

-- the places that are remembered, with those of the last life
gaps_hold : (from to place : ℕ) (gaps : List Gap) → list_any (holds place) (with_gap from to gaps) ≡ (list_any (holds place) gaps || (nat_le from place && nat_lt place to))
gaps_hold from to place gaps =
    elim (cases_Bool (nat_lt from to)) [
      | inl y ↦ rw y (list_any-append (holds place) gaps ((record { from = from; to = to }) ∷ []) ∙ ap (λ b. list_any (holds place) gaps || b) (or_nothing (nat_le from place && nat_lt place to)))
      | inr n ↦ rw n (sym (or_no (list_any (holds place) gaps) _ (empty n)))
    ]
  where
    or_nothing : (b : Bool) → (b || false) ≡ b
    or_nothing true = refl
    or_nothing false = refl

    or_no : (a b : Bool) → b ≡ false → (a || b) ≡ a
    or_no true b h = refl
    or_no false b h = h

    empty : nat_lt from to ≡ false → (nat_le from place && nat_lt place to) ≡ false
    empty n = elim (cases_lt place from) [
      | inl below ↦ let a : nat_le from place ≡ false = grind (arith, nat_tests) in and_left _ _ a
      | inr above ↦ let a : nat_lt place to ≡ false = grind (arith, nat_tests) in and_right _ _ a
    ]

begun_sent : (place from taken : ℕ) (held : Bool) → from ≤ taken → (from ≤ place → held ≡ false) → (nat_lt place from && not held) ≡ (nat_lt place taken && not (held || (nat_le from place && nat_lt place taken)))
begun_sent place from taken held le earlier =
    elim (cases_lt place from) [
      | inl below ↦
          let a : nat_lt place from ≡ true = grind (arith, nat_tests) in
          let b : nat_lt place taken ≡ true = grind (arith, nat_tests) in
          let c : nat_le from place ≡ false = grind (arith, nat_tests) in
          rw (a, b, c) (same held)
      | inr above ↦
          let a : nat_lt place from ≡ false = grind (arith, nat_tests) in
          let c : nat_le from place ≡ true = grind (arith, nat_tests) in
          let d : held ≡ false = earlier above in
          rw (a, c, d) (neither (nat_lt place taken))
    ]
  where
    same : (b : Bool) → not b ≡ not (b || false)
    same true = refl
    same false = refl

    neither : (b : Bool) → false ≡ (b && not b)
    neither true = refl
    neither false = refl

pub life_begins : (life : ℕ) (n : Notes) (l : FlowLog) → n.life < life → Stands n l → Stands (record n { life = life; open_from = n.taken; unsent_from = n.taken; gaps = with_gap n.unsent_from n.taken n.gaps }) l
life_begins life n l lt s =
    let within : n.unsent_from ≤ n.taken = omega (arith, region_within (is_unsent_in n.life) n.unsent_from l.taken s.unsents, s.count) in
    record {
      count = s.count;
      opens = subst (λ k. Region (is_open_in life) k l.taken) s.count (region_none (is_open_in life) l.taken (none_open n.life life l.taken lt s.lives));
      unsents = subst (λ k. Region (is_unsent_in life) k l.taken) s.count (region_none (is_unsent_in life) l.taken (none_unsent n.life life l.taken lt s.lives));
      lives = within_more n.life life (facts.lives_of l.taken) (omega arith) s.lives;
      edge = s.edge;
      next = s.next;
      top_is = s.top_is;
      goes = s.goes;
      sent = λ place. s.sent place ∙ begun_sent place n.unsent_from n.taken (list_any (holds place) n.gaps) within (s.earlier place) ∙ ap (λ b. nat_lt place n.taken && not b) (sym (gaps_hold n.unsent_from n.taken place n.gaps));
      earlier = λ place le. gaps_hold n.unsent_from n.taken place n.gaps ∙ (let a = s.earlier place (omega arith) in let b : nat_lt place n.taken ≡ false = grind (arith, nat_tests) in rw (a, b) (and_right _ _ refl));
      sound = sound_later n.life life l (omega arith) s.sound;
    }

pub entered : (life : ℕ) (n : Notes) (l : FlowLog) → n.life ≤ life → Stands n l → Stands (in_life life n) l × ((in_life life n).life ≡ life)
entered life n l le s =
    elim (cases_Bool (n.life == life)) [
      | inl y ↦ rw y (s, eqb-true _ _ y)
      | inr other ↦ rw other (life_begins life n l (grind (arith, nat_tests)) s, refl)
    ]

-- TOOK
within_append : (most : ℕ) (xs ys : List ℕ) → Within most xs → Within most ys → Within most (xs ++ ys)
within_append most [] ys h k = k
within_append most (x ∷ xs) ys h k = (h.0, within_append most xs ys h.1 k)

new_within : (life count : ℕ) → Within life (facts.lives_of (map (open_row life None) (blank count)))
new_within life zero = tt
new_within life (suc count) = (omega arith, new_within life count)

pub took : (life count : ℕ) (n : Notes) (l : FlowLog) → n.life ≡ life → Stands n l → Stands (record n { taken = n.taken + count }) (record { taken = take_rows life (blank count) l.taken; given = l.given; edge = l.edge; next = l.next })
took life count n l same s =
    let new = map (open_row n.life None) (blank count) in
    subst (λ from. Stands (record n { taken = n.taken + count }) (record { taken = take_rows from (blank count) l.taken; given = l.given; edge = l.edge; next = l.next })) same
    (record {
      count = omega (arith, length-append l.taken new, length-map (blank count) (open_row n.life None), length-blank count, s.count);
      opens = region_append (is_open_in n.life) n.open_from l.taken new s.opens (new_open n.life count);
      unsents = region_append (is_unsent_in n.life) n.unsent_from l.taken new s.unsents (new_unsent n.life count);
      lives = subst (Within n.life) (sym (lives_append l.taken new)) (within_append n.life (facts.lives_of l.taken) (facts.lives_of new) s.lives (new_within n.life count));
      edge = s.edge;
      next = s.next;
      top_is = s.top_is;
      goes = s.goes;
      sent = λ place. ap (λ (first : Option ℕ). not (is_unsent first)) (took_firsts n.life (blank count) l.taken place) ∙ s.sent place;
      earlier = s.earlier;
      sound = sound_took n.life n.life count l s.sound;
    })

-- SENT
send_lives : (life count : ℕ) (rows : List Taken) → facts.lives_of (send_rows life count rows) ≡ facts.lives_of rows
send_lives life zero rows = refl
send_lives life (suc count) [] = refl
send_lives life (suc count) (row ∷ rows) =
    elim (cases_Bool (is_unsent_in life row)) [
      | inl y ↦ rw y (ap (λ ls. row.life ∷ ls) (send_lives life count rows))
      | inr n ↦ rw n (ap (λ ls. row.life ∷ ls) (send_lives life (suc count) rows))
    ]

-- the edge after those that are sent
edge_after : (life from count edge : ℕ) (rows : List Taken) → Region (is_unsent_in life) from rows → from + count ≤ length rows
    → behind_last edge (take count (places_where (is_unsent_in life) 0 rows)) ≡ (if count == 0 then edge else from + count)
edge_after life from zero edge rows h le = refl
edge_after life from (suc count) edge rows h le =
    let some : (suc count == 0) ≡ false = grind (arith, nat_tests) in
    let e = region_behind (is_unsent_in life) from rows 0 count edge h (omega arith) in
    rw some (e ∙ omega arith)

-- which places were sent then
sent_after : (place from count : ℕ) (held before after : Bool) → before ≡ (nat_lt place from && not held) → (from ≤ place → held ≡ false) → (place < from → after ≡ before) → (from + count ≤ place → after ≡ before)
    → (from ≤ place → place < from + count → after ≡ true) → after ≡ (nat_lt place (from + count) && not held)
sent_after place from count held before after is earlier below above here =
    elim (cases_lt place from) [
      | inl lt ↦
          let a : nat_lt place from ≡ true = grind (arith, nat_tests) in
          let b : nat_lt place (from + count) ≡ true = grind (arith, nat_tests) in
          rw b (below lt ∙ is ∙ rw a refl)
      | inr ge ↦
          let a : nat_lt place from ≡ false = grind (arith, nat_tests) in
          let d : held ≡ false = earlier ge in
          elim (cases_lt place (from + count)) [
            | inl lt ↦ let b : nat_lt place (from + count) ≡ true = grind (arith, nat_tests) in rw (b, d) (here ge lt)
            | inr ge' ↦ let b : nat_lt place (from + count) ≡ false = grind (arith, nat_tests) in rw b (above ge' ∙ is ∙ rw a refl)
          ]
    ]

pub sent_rows : (life number count : ℕ) (n : Notes) (l : FlowLog) → n.life ≡ life → n.unsent_from + count ≤ length l.taken → Stands n l
    → Stands (record n { unsent_from = n.unsent_from + count; edge = if count == 0 then n.edge else n.unsent_from + count; next = number_after number count })
    (record { taken = send_rows life count l.taken; given = l.given; edge = behind_last l.edge (take count (unsent_places life l)); next = number_after number count })
sent_rows life number count n l same fits s =
    subst (λ from. Stands (record n { unsent_from = n.unsent_from + count; edge = if count == 0 then n.edge else n.unsent_from + count; next = number_after number count })
    (record { taken = send_rows from count l.taken; given = l.given; edge = behind_last l.edge (take count (unsent_places from l)); next = number_after number count })) same
    (record {
      count = length-send n.life count l.taken ∙ s.count;
      opens = send_keeps n.life (is_open_in n.life) n.open_from count l.taken (λ row. refl) s.opens;
      unsents = send_region n.life n.unsent_from count l.taken s.unsents fits;
      lives = subst (Within n.life) (sym (send_lives n.life count l.taken)) s.lives;
      edge = edge_after n.life n.unsent_from count l.edge l.taken s.unsents fits ∙ ap (λ e. if count == 0 then e else n.unsent_from + count) s.edge;
      next = refl;
      top_is = s.top_is;
      goes = s.goes;
      sent = λ place.
          sent_after place n.unsent_from count (list_any (holds place) n.gaps) (is_sent l.taken place) (is_sent (send_rows n.life count l.taken) place) (s.sent place) (s.earlier place)
          (λ lt. ap (λ (r : Taken). not (is_unsent r.first)) (send_at_below n.life n.unsent_from count l.taken place s.unsents lt))
          (λ ge. ap (λ (r : Taken). not (is_unsent r.first)) (send_at_above n.life n.unsent_from count l.taken place s.unsents ge))
          (λ ge lt. send_at n.life n.unsent_from count l.taken place s.unsents fits ge lt);
      earlier = λ place le. s.earlier place (omega arith);
      sound = sound_sent n.life n.life count (behind_last l.edge (take count (unsent_places n.life l))) (number_after number count) l s.sound;
    })

-- SETTLED AND UNCERTAIN
settled_rows : (life : ℕ) (fate : Fate) (count : ℕ) (n : Notes) (l : FlowLog) → n.life ≡ life → is_open fate ≡ false → n.open_from + count ≤ length l.taken → Stands n l → Sound n.life (with_fate n.life fate count l)
    → Stands (record n { open_from = n.open_from + count }) (with_fate life fate count l)
settled_rows life fate count n l same closed fits s sound =
    subst (λ from. Stands (record n { open_from = n.open_from + count }) (with_fate from fate count l)) same
    (record {
      count = settle_length n.life fate count l.taken ∙ s.count;
      opens = settle_region n.life fate n.open_from count l.taken closed s.opens fits;
      unsents = settle_keeps n.life fate (is_unsent_in n.life) n.unsent_from count l.taken (λ row. refl) s.unsents;
      lives = subst (Within n.life) (sym (settle_lives n.life fate count l.taken)) s.lives;
      edge = s.edge;
      next = s.next;
      top_is = s.top_is;
      goes = s.goes;
      sent = λ place. ap (λ (first : Option ℕ). not (is_unsent first)) (settle_firsts n.life fate count l.taken place) ∙ s.sent place;
      earlier = s.earlier;
      sound = sound;
    })

-- an open row of this life is given exactly where it is below the top
given_below : (most p : ℕ) (given : List Given) → facts.Rising most given → top_from most given ≤ p → is_given given p ≡ false
given_below most p [] h le = refl
given_below most p (g ∷ gs) h le =
    let behind = top_above (suc g.place) gs h.1 in
    let other : (g.place == p) ≡ false = grind (arith, nat_tests) in
    rw other (given_below (suc g.place) p gs h.1 le)
  where
    top_above : (n : ℕ) (given : List Given) → facts.Rising n given → n ≤ top_from n given
    top_above n [] h = omega arith
    top_above n (g ∷ gs) h = omega (arith, h.0, top_above (suc g.place) gs h.1)

row_open : (life : ℕ) (row : Taken) → is_open_in life row ≡ true → (row.fate ≡ Open) × (row.life ≡ life)
row_open life row h = let parts = and_parts _ _ h in (by row.fate parts.0, eqb-true _ _ parts.1)
  where
    by : (fate : Fate) → is_open fate ≡ true → fate ≡ Open
    by Open e = refl
    by Acked e = absurd cc
    by Uncertain e = absurd cc

pub open_given : (n : Notes) (l : FlowLog) (place : ℕ) → Stands n l → n.open_from ≤ place → place < length l.taken → is_given l.given place ≡ nat_lt place n.top
open_given n l place s ge lt =
    let here = row_open n.life (row_at l.taken place) (region_above (is_open_in n.life) n.open_from l.taken place s.opens ge lt) in
    let top_is = s.top_is in
    elim (cases_lt place n.top) [
      | inl below ↦
          let a : nat_lt place n.top ≡ true = grind (arith, nat_tests) in
          elim (cases_Bool (is_given l.given place)) [
            | inl y ↦ y ∙ sym a
            | inr off ↦
                let uncertain = s.sound.skipped place (omega arith) off (omega (arith, here.1)) in
                let both : Uncertain ≡ Open = sym uncertain ∙ here.0 in absurd cc
          ]
      | inr above ↦
          let a : nat_lt place n.top ≡ false = grind (arith, nat_tests) in
          given_below 0 place l.given s.sound.rising (omega arith) ∙ sym a
    ]

-- those that are settled are all given exactly where they end at the top or below
pub settled_given : (count : ℕ) (n : Notes) (l : FlowLog) → n.open_from + count ≤ length l.taken → Stands n l → list_all (is_given l.given) (take count (open_places n.life l)) ≡ ((count == 0) || nat_le (n.open_from + count) n.top)
settled_given zero n l fits s = refl
settled_given (suc count) n l fits s =
    let some : (suc count == 0) ≡ false = grind (arith, nat_tests) in
    elim (cases_lt n.top (n.open_from + suc count)) [
      | inl past ↦
          let a : nat_le (n.open_from + suc count) n.top ≡ false = grind (arith, nat_tests) in
          let last : ℕ = n.open_from + count in
          let bad : is_given l.given (n.open_from + count) ≡ false = open_given n l (n.open_from + count) s (omega arith) (omega arith) ∙ (let b : nat_lt (n.open_from + count) n.top ≡ false = grind (arith, nat_tests) in b) in
          rw (some, a) (region_some (is_open_in n.life) (is_given l.given) n.open_from (suc count) l.taken 0 (n.open_from + count) s.opens fits (omega arith) (omega arith) bad)
      | inr within ↦
          let a : nat_le (n.open_from + suc count) n.top ≡ true = grind (arith, nat_tests) in
          rw (some, a) (region_all (is_open_in n.life) (is_given l.given) n.open_from (suc count) l.taken 0 s.opens fits
          (λ k ge lt. open_given n l k s (omega arith) (omega arith) ∙ (let b : nat_lt k n.top ≡ true = grind (arith, nat_tests) in b)))
    ]

-- ACCEPTED
-- a row that was sent is there
sent_within : (rows : List Taken) (place : ℕ) → is_sent rows place ≡ true → place < length rows
sent_within [] place h = absurd cc
sent_within (row ∷ rows) zero h = omega arith
sent_within (row ∷ rows) (suc place) h = omega (arith, sent_within rows place h)

-- the rows between the last given one and a place are passed where each of them is; and they aren't where one isn't
pub passed_all : (test : Taken → Bool) (rows : List Taken) (from count : ℕ) → ((p : ℕ) → from ≤ p → p < from + count → p < length rows → test (row_at rows p) ≡ true) → list_all test (take count (drop from rows)) ≡ true
passed_all test [] from count on = none from count
  where
    none : (from count : ℕ) → list_all test (take count (drop from [])) ≡ true
    none zero zero = refl
    none zero (suc count) = refl
    none (suc from) zero = refl
    none (suc from) (suc count) = refl
passed_all test (row ∷ rows) zero zero on = refl
passed_all test (row ∷ rows) zero (suc count) on = rw (on 0 (omega arith) (omega arith) (omega arith)) (passed_all test rows zero count (λ p a b c. on (suc p) (omega arith) (omega arith) (omega arith)))
passed_all test (row ∷ rows) (suc from) count on = passed_all test rows from count (λ p a b c. on (suc p) (omega arith) (omega arith) (omega arith))

passed_not : (test : Taken → Bool) (rows : List Taken) (from count p : ℕ) → from ≤ p → p < from + count → p < length rows → test (row_at rows p) ≡ false → list_all test (take count (drop from rows)) ≡ false
passed_not test [] from count p a b c bad = absurd (omega arith)
passed_not test (row ∷ rows) zero zero p a b c bad = absurd (omega arith)
passed_not test (row ∷ rows) zero (suc count) zero a b c bad = rw bad refl
passed_not test (row ∷ rows) zero (suc count) (suc p) a b c bad = and_right (test row) _ (passed_not test rows zero count p (omega arith) (omega arith) (omega arith) bad)
passed_not test (row ∷ rows) (suc from) count zero a b c bad = absurd (omega arith)
passed_not test (row ∷ rows) (suc from) count (suc p) a b c bad = passed_not test rows from count p (omega arith) (omega arith) (omega arith) bad

-- above the top a row is passed exactly where it isn't open in this life
not_open_passed : (life : ℕ) (row : Taken) → is_open_in life row ≡ false → (row.fate ≡ Acked → ⊥) → row.life ≤ life → is_passed life row ≡ true
not_open_passed life row h not_acked le = by row.fate refl h
  where
    by : (fate : Fate) → row.fate ≡ fate → (is_open fate && (row.life == life)) ≡ false → (is_uncertain fate || nat_lt row.life life) ≡ true
    by Open e k = grind (arith, nat_tests)
    by Acked e k = absurd (not_acked e)
    by Uncertain e k = refl

open_not_passed : (life : ℕ) (row : Taken) → row.fate ≡ Open → row.life ≡ life → is_passed life row ≡ false
open_not_passed life row unsettled same =
    let later : nat_lt row.life life ≡ false = grind (arith, nat_tests) in
    rw (unsettled, later) refl

within_at : (most : ℕ) (rows : List Taken) (place : ℕ) → Within most (facts.lives_of rows) → (row_at rows place).life ≤ most
within_at most [] place h = omega arith
within_at most (row ∷ rows) zero h = h.0
within_at most (row ∷ rows) (suc place) h = within_at most rows place h.1

pub all_reported : (place : ℕ) (n : Notes) (l : FlowLog) → top l.given ≤ place → place < length l.taken → Stands n l → all_passed n.life place l ≡ is_reported place n
all_reported place n l above there s =
    let top_is = s.top_is in
    elim (cases_lt (max n.top n.open_from) place) [
      | inl past ↦
          let a : nat_le place (max n.top n.open_from) ≡ false = grind (arith, nat_tests) in
          let p = place - 1 in
          let here = row_open n.life (row_at l.taken (place - 1)) (region_above (is_open_in n.life) n.open_from l.taken (place - 1) s.opens (omega arith) (omega arith)) in
          passed_not (is_passed n.life) l.taken (top l.given) (place - top l.given) (place - 1) (omega arith) (omega arith) (omega arith) (open_not_passed n.life (row_at l.taken (place - 1)) here.0 here.1) ∙ sym a
      | inr reported ↦
          let a : nat_le place (max n.top n.open_from) ≡ true = grind (arith, nat_tests) in
          passed_all (is_passed n.life) l.taken (top l.given) (place - top l.given)
          (λ p ge lt inside.
          not_open_passed n.life (row_at l.taken p) (region_below (is_open_in n.life) n.open_from l.taken p s.opens (omega arith))
          (λ acked. let given = s.sound.acked p acked in let off = given_below 0 p l.given s.sound.rising (omega arith) in absurd cc)
          (within_at n.life l.taken p s.lives))
          ∙ sym a
    ]

-- octets are given
last_append : (before : Option Given) (xs ys : List Given) → last_of before (xs ++ ys) ≡ last_of (last_of before xs) ys
last_append before [] ys = refl
last_append before (x ∷ xs) ys = last_append (Some x) xs ys

last_follows : (of_life : ℕ) (run : Bool) (at count life place : ℕ) (before : Option Given) → follows life place (last_of before (given_rows of_life 0 run at (blank (suc count)))) ≡ ((at + suc count == place) && (of_life == life))
last_follows of_life run at zero life place before = let e : at + 1 ≡ suc at = omega arith in rw e refl
last_follows of_life run at (suc count) life place before =
    let e : at + suc (suc count) ≡ suc at + suc count = omega arith in
    rw e (last_follows of_life false (suc at) count life place (Some (record { place = at; octet = 0; begin = false; end = false; run = run; life = of_life; at = 0 })))

pub given_rows_stand : (to_life : ℕ) (run : Bool) (place count : ℕ) (n : Notes) (l : FlowLog) → top l.given ≤ place → place + count ≤ length l.taken
    → (run ≡ false → follows to_life place (last_of None l.given) ≡ true) → all_passed n.life place l ≡ true → Stands n l → Stands (note_given to_life place count n) (give to_life run place count l)
given_rows_stand to_life run place zero n l above fits goes passed s =
    subst (λ given. Stands n (record { taken = l.taken; given = given; edge = l.edge; next = l.next })) (sym (append-nil l.given)) s
given_rows_stand to_life run place (suc count) n l above fits goes passed s =
    let some : (suc count == 0) ≡ false = grind (arith, nat_tests) in
    let new = given_rows to_life 0 run place (blank (suc count)) in
    rw some (record {
      count = s.count;
      opens = s.opens;
      unsents = s.unsents;
      lives = s.lives;
      edge = s.edge;
      next = s.next;
      top_is = top_given to_life run place count l.given;
      goes = λ life at.
          let positive : nat_lt 0 (place + suc count) ≡ true = grind (arith, nat_tests) in
          ap (follows life at) (last_append None l.given new) ∙ last_follows to_life run place count life at (last_of None l.given) ∙ rw positive refl;
      sent = s.sent;
      earlier = s.earlier;
      sound = sound_given n.life to_life run place count l s.sound above fits goes passed;
    })

or_on : (run b : Bool) → not (run || b) ≡ false → run ≡ false → b ≡ true
or_on true b h e = absurd cc
or_on false true h e = refl
or_on false false h e = absurd cc

accept_agrees : (lives : Lives) (run : Bool) (place count : ℕ) (n : Notes) (l : FlowLog) → n.life ≡ lives.sender → is_sent l.taken place ≡ true → is_sent l.taken (place + count - 1) ≡ true → Stands n l
    → Agrees lives.sender (note_accepted lives.receiver run place count n) (accept_sent lives run place count l)
accept_agrees lives run place count n l same first last s =
    let there = sent_within l.taken place first in
    let end = sent_within l.taken (place + count - 1) last in
    agree_if lives.sender _ _ _ _ _ _ (ap (λ t. nat_lt place t) (sym s.top_is)) (λ off. refl) (λ above.
    let above' : top l.given ≤ place = ltb-false _ _ above in
    agree_if lives.sender _ _ _ _ _ _ (ap (λ b. not (run || b)) (sym (s.goes lives.receiver place))) (λ off. refl) (λ goes.
    agree_if lives.sender _ _ _ _ _ _ (sym (all_reported place n l above' there s) ∙ ap (λ life. all_passed life place l) same)
    (λ passed. (
      given_rows_stand lives.receiver run place count n l above' (omega arith) (λ e. or_on run _ goes e) (ap (λ life. all_passed life place l) same ∙ passed) s,
      given_life n lives.receiver place count ∙ same,
    ))
    (λ off. refl)))
  where
    given_life : (n : Notes) (life place count : ℕ) → (note_given life place count n).life ≡ n.life
    given_life n life place zero = refl
    given_life n life place (suc count) = let some : (suc count == 0) ≡ false = grind (arith, nat_tests) in rw some refl

-- EACH LINE
at_place_agrees : (lives : Lives) (run : Bool) (count : ℕ) (found : Option ℕ) (n : Notes) (l : FlowLog) → n.life ≡ lives.sender → Stands n l → Agrees lives.sender (note_at lives.receiver run count found n) (accept_at lives run count found l)
at_place_agrees lives run count None n l same s = refl
at_place_agrees lives run count (Some place) n l same s =
    agree_if lives.sender _ _ _ _ _ _ (both (sym (s.sent place)) (sym (s.sent (place + count - 1))))
    (λ sent. let parts = and_parts _ _ sent in accept_agrees lives run place count n l same parts.0 parts.1 s)
    (λ off. refl)
  where
    both : {a b c d : Bool} → a ≡ c → b ≡ d → (a && b) ≡ (c && d)
    both p q = cc

pub change_agrees : (lives : Lives) (change : FlowFact) (n : Notes) (l : FlowLog) → n.life ≡ lives.sender → Stands n l → Agrees lives.sender (note lives.receiver change n) (rows_after lives change l)
change_agrees lives (changes.Took count) n l same s = (took lives.sender count n l same s, same)
change_agrees lives (changes.Sent number count) n l same s =
    let waiting : length (unsent_places lives.sender l) ≡ n.taken - n.unsent_from =
    ap (λ life. length (unsent_places life l)) (sym same) ∙ region_count (is_unsent_in n.life) n.unsent_from l.taken 0 s.unsents ∙ ap (λ k. k - n.unsent_from) s.count in
    let within = region_within (is_unsent_in n.life) n.unsent_from l.taken s.unsents in
    agree_if lives.sender _ _ _ _ _ _ (ap (λ k. nat_lt k count) (sym waiting)) (λ off. refl)
    (λ enough. let le = ltb-false _ _ enough in (sent_rows lives.sender number count n l same (omega (arith, s.count)) s, same))
change_agrees lives (changes.Settled count) n l same s =
    let waiting : length (open_places lives.sender l) ≡ n.taken - n.open_from =
    ap (λ life. length (open_places life l)) (sym same) ∙ region_count (is_open_in n.life) n.open_from l.taken 0 s.opens ∙ ap (λ k. k - n.open_from) s.count in
    let within = region_within (is_open_in n.life) n.open_from l.taken s.opens in
    agree_if lives.sender _ _ _ _ _ _ (ap (λ k. nat_lt k count) (sym waiting)) (λ off. refl)
    (λ enough.
    let le = ltb-false _ _ enough in
    let fits : n.open_from + count ≤ length l.taken = omega (arith, s.count) in
    let places : take count (open_places lives.sender l) ≡ take count (open_places n.life l) = ap (λ life. take count (open_places life l)) (sym same) in
    agree_if lives.sender _ _ _ _ _ _ (sym (settled_given count n l fits s) ∙ ap (λ ps. list_all (is_given l.given) ps) (sym places))
    (λ all. (settled_rows lives.sender Acked count n l same refl fits s (sound_acknowledged n.life n.life count l s.sound (ap (λ ps. list_all (is_given l.given) ps) (sym places) ∙ all)), same))
    (λ off. refl))
change_agrees lives (changes.Uncertain count) n l same s =
    let waiting : length (open_places lives.sender l) ≡ n.taken - n.open_from =
    ap (λ life. length (open_places life l)) (sym same) ∙ region_count (is_open_in n.life) n.open_from l.taken 0 s.opens ∙ ap (λ k. k - n.open_from) s.count in
    let within = region_within (is_open_in n.life) n.open_from l.taken s.opens in
    agree_if lives.sender _ _ _ _ _ _ (ap (λ k. nat_lt k count) (sym waiting)) (λ off. refl)
    (λ enough. let le = ltb-false _ _ enough in (settled_rows lives.sender Uncertain count n l same refl (omega (arith, s.count)) s (sound_given_up n.life n.life count l s.sound), same))
change_agrees lives (changes.Accepted number count run) n l same s =
    subst (λ found. Agrees lives.sender (note_at lives.receiver run count found n) (accept_at lives run count (first_place number l) l))
    (ap (λ edge. place_back edge (number_distance l.next number)) s.edge ∙ ap (λ next. place_back n.edge (number_distance next number)) s.next)
    (at_place_agrees lives run count (first_place number l) n l same s)

pub line_agrees : (lives : Lives) (change : FlowFact) (n : Notes) (l : FlowLog) → n.life ≤ lives.sender → Stands n l → Agrees lives.sender (notes_after lives change n) (rows_after lives change l)
line_agrees lives change n l le s =
    let in_it = entered lives.sender n l le s in
    change_agrees lives change (in_life lives.sender n) l in_it.1 in_it.0

pub nothing_stands : Stands no_notes no_rows
nothing_stands = record {
  count = refl;
  opens = tt;
  unsents = tt;
  lives = tt;
  edge = refl;
  next = refl;
  top_is = refl;
  goes = λ life place. refl;
  sent = λ place. let none : nat_lt place 0 ≡ false = grind (arith, nat_tests) in sym (and_left _ _ none);
  earlier = λ place le. refl;
  sound = record {
    rising = tt;
    below = tt;
    joined = tt;
    taken_blank = tt;
    given_blank = tt;
    skipped = λ place lt off of_life. absurd (omega arith);
    acked = λ place e. absurd cc;
  };
}
