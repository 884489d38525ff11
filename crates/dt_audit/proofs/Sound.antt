-- What every line that passes keeps of a flow's rows, and that such rows are safe.
use Rattle.std.proofs.Common.{ℕ, zero, suc, ◌≡◌, ◌⊎◌, ◌+◌, ◌-◌, ◌<◌, ◌≤◌, ◌==◌, Bool, true, false, List, [], ◌∷◌, ◌++◌, length, map, take, drop, Option, None, Some, refl, sym, ap, ◌∙◌, subst, inl, inr, arith, length-append, add-zero}
use Rattle.std.specs.Prelude.{◌||◌, nat_lt}
use Rattle.std.specs.List.{list_all}
use Rattle.std.proofs.lemmas.Bool.{and_parts, both_ways, cases_Bool, cases_lt, eqb-true}
use Rattle.std.proofs.lemmas.Bool.Decides.{nat_tests}
use Rattle.dt_flow_model.specs.declared.rows.Fate.{Fate}
use Rattle.dt_flow_model.specs.declared.rows.Fate.TheVariants.{Open, Acked, Uncertain}
use Rattle.dt_flow_model.specs.declared.rows.Taken.{Taken}
use Rattle.dt_flow_model.specs.declared.rows.Given.{Given}
use Rattle.dt_flow_model.specs.Facts.{Joined, JoinsTo, Rising, last_of}
use Rattle.dt_flow_model.specs.Ledger.{given_at, given_rows, is_given, is_open_in, item_of, no_item, open_row, row_at, sent_item_of, settle, take_rows, top, top_from}
use Rattle.dt_flow_model.specs.Safe.{Follows, SafeLedger}
use Rattle.dt_flow_laws.proofs.Ledger.{over_at, over_settle, row_left, settle_acked, settle_length, took_acked}
use Rattle.dt_flow_laws.proofs.Frame.{rising_append, rising_rows, top_append, top_rows}
use Rattle.dt_flow_laws.proofs.SafeOf.{rising_at}
use Rattle.dt_audit.specs.LogRows.{FlowLog, all_passed, blank, follows, give, is_passed, is_uncertain, is_unsent_in, open_places, places_where, send_rows, with_fate}

-- each given row is of a place below
abbrev pub PlacesBelow : ℕ → List Given → Type 0
PlacesBelow most [] = Unit {0}
PlacesBelow most (row ∷ rows) = (row.place < most) × PlacesBelow most rows

-- no row shows an octet or a mark
abbrev pub TakenBlank : List Taken → Type 0
TakenBlank [] = Unit {0}
TakenBlank (row ∷ rows) = (item_of row ≡ no_item) × TakenBlank rows

abbrev pub GivenBlank : List Given → Type 0
GivenBlank [] = Unit {0}
GivenBlank (row ∷ rows) = (sent_item_of row ≡ no_item) × GivenBlank rows

pub record Sound (life : ℕ) (l : FlowLog) : Type 0 where
  pub rising : Rising 0 l.given
  pub below : PlacesBelow (length l.taken) l.given
  pub joined : Joined None l.given
  pub taken_blank : TakenBlank l.taken
  pub given_blank : GivenBlank l.given
  pub skipped : (place : ℕ) → place < top l.given → is_given l.given place ≡ false → life ≤ (row_at l.taken place).life → (row_at l.taken place).fate ≡ Uncertain
  pub acked : (place : ℕ) → (row_at l.taken place).fate ≡ Acked → is_given l.given place ≡ true

-- SOUND ROWS ARE SAFE
below_at : (most : ℕ) (given : List Given) (k : ℕ) → PlacesBelow most given → k < length given → (given_at given k).place < most
below_at most [] k h lt = absurd (omega arith)
below_at most (g ∷ gs) zero h lt = h.0
below_at most (g ∷ gs) (suc k) h lt = below_at most gs k h.1 (omega arith)

taken_blank_at : (rows : List Taken) (place : ℕ) → TakenBlank rows → item_of (row_at rows place) ≡ no_item
taken_blank_at [] place h = refl
taken_blank_at (row ∷ rows) zero h = h.0
taken_blank_at (row ∷ rows) (suc place) h = taken_blank_at rows place h.1

given_blank_at : (given : List Given) (k : ℕ) → GivenBlank given → sent_item_of (given_at given k) ≡ no_item
given_blank_at [] k h = refl
given_blank_at (row ∷ rows) zero h = h.0
given_blank_at (row ∷ rows) (suc k) h = given_blank_at rows k h.1

first_joined : (given : List Given) → Joined None given → 0 < length given → (given_at given 0).run ≡ true
first_joined [] h lt = absurd (omega arith)
first_joined (g ∷ gs) h lt = elim (cases_Bool g.run) [ inl y ↦ y | inr n ↦ elim (h.0 n) [ ] ]

joined_at : (before : Option Given) (given : List Given) (k : ℕ) → Joined before given → suc k < length given → (given_at given (suc k)).run ≡ false → Follows (given_at given k) (given_at given (suc k))
joined_at before [] k h lt off = absurd (omega arith)
joined_at before (g ∷ []) k h lt off = absurd (omega arith)
joined_at before (g ∷ g' ∷ gs) zero h lt off = let j = h.1.0 off in record { place = omega (arith, j.0); life = j.1 }
joined_at before (g ∷ g' ∷ gs) (suc k) h lt off = joined_at (Some g) (g' ∷ gs) k h.1 (omega arith) off

pub sound_is_safe : (life : ℕ) (l : FlowLog) → Sound life l → SafeLedger life l.taken l.given []
sound_is_safe life l s = record {
  in_order = λ j k lt lt'. rising_at 0 l.given j k s.rising lt lt';
  in_ledger = λ k lt. below_at (length l.taken) l.given k s.below lt;
  intact = λ k lt. taken_blank_at l.taken (given_at l.given k).place s.taken_blank ∙ sym (given_blank_at l.given k s.given_blank);
  skips_reported = s.skipped;
  acknowledged_given = s.acked;
  first_runs = λ lt. first_joined l.given s.joined lt;
  unbroken = λ k lt off. let e : k + 1 ≡ suc k = omega arith in rw e (joined_at None l.given k s.joined (omega arith) (rw e at off));
  read_within = λ life. omega arith;
  one_entry = λ j k lt lt'. absurd (omega arith);
}

-- a later life of the sender
pub sound_later : (life later : ℕ) (l : FlowLog) → life ≤ later → Sound life l → Sound later l
sound_later life later l le s = record {
  rising = s.rising;
  below = s.below;
  joined = s.joined;
  taken_blank = s.taken_blank;
  given_blank = s.given_blank;
  skipped = λ place lt off of_life. s.skipped place lt off (omega arith);
  acked = s.acked;
}

-- WHAT LINES KEEP
pub top_below : (n most : ℕ) (given : List Given) → n ≤ most → PlacesBelow most given → top_from n given ≤ most
top_below n most [] le h = le
top_below n most (g ∷ gs) le h = top_below (suc g.place) most gs (omega (arith, h.0)) h.1

below_more : (most more : ℕ) (given : List Given) → most ≤ more → PlacesBelow most given → PlacesBelow more given
below_more most more [] le h = tt
below_more most more (g ∷ gs) le h = (omega (arith, h.0), below_more most more gs le h.1)

-- TOOK
blank_append : (rows more : List Taken) → TakenBlank rows → TakenBlank more → TakenBlank (rows ++ more)
blank_append [] more h k = k
blank_append (row ∷ rows) more h k = (h.0, blank_append rows more h.1 k)

new_blank : (life count : ℕ) → TakenBlank (map (open_row life None) (blank count))
new_blank life zero = tt
new_blank life (suc count) = (refl, new_blank life count)

pub sound_took : (life from count : ℕ) (l : FlowLog) → Sound life l → Sound life (record { taken = take_rows from (blank count) l.taken; given = l.given; edge = l.edge; next = l.next })
sound_took life from count l s =
    let new = map (open_row from None) (blank count) in
    let fits : top l.given ≤ length l.taken = top_below 0 (length l.taken) l.given (omega arith) s.below in
    record {
      rising = s.rising;
      below = below_more (length l.taken) _ l.given (omega (arith, length-append l.taken new)) s.below;
      joined = s.joined;
      taken_blank = blank_append l.taken new s.taken_blank (new_blank from count);
      given_blank = s.given_blank;
      skipped = λ place lt off of_life. let same = row_left l.taken new place (omega arith) in ap (λ (r : Taken). r.fate) same ∙ s.skipped place lt off (subst (λ (r : Taken). life ≤ r.life) same of_life);
      acked = λ place e. s.acked place (took_acked from (blank count) l.taken place e);
    }

-- SENT: rows keep their life, their fate and their octet
abbrev SentKeeps : List Taken → List Taken → ℕ → Type 0
SentKeeps rows after place = ((row_at after place).life ≡ (row_at rows place).life) × ((row_at after place).fate ≡ (row_at rows place).fate)

pub send_kept : (life count : ℕ) (rows : List Taken) (place : ℕ) → SentKeeps rows (send_rows life count rows) place
send_kept life zero rows place = (refl, refl)
send_kept life (suc count) [] place = (refl, refl)
send_kept life (suc count) (row ∷ rows) zero =
    elim (cases_Bool (is_unsent_in life row)) [ inl y ↦ rw y (refl, refl) | inr n ↦ rw n (refl, refl) ]
send_kept life (suc count) (row ∷ rows) (suc place) =
    elim (cases_Bool (is_unsent_in life row)) [ inl y ↦ rw y (send_kept life count rows place) | inr n ↦ rw n (send_kept life (suc count) rows place) ]

pub length-send : (life count : ℕ) (rows : List Taken) → length (send_rows life count rows) ≡ length rows
length-send life zero rows = refl
length-send life (suc count) [] = refl
length-send life (suc count) (row ∷ rows) =
    elim (cases_Bool (is_unsent_in life row)) [ inl y ↦ rw y (ap suc (length-send life count rows)) | inr n ↦ rw n (ap suc (length-send life (suc count) rows)) ]

send_blank : (life count : ℕ) (rows : List Taken) → TakenBlank rows → TakenBlank (send_rows life count rows)
send_blank life zero rows h = h
send_blank life (suc count) [] h = tt
send_blank life (suc count) (row ∷ rows) h =
    elim (cases_Bool (is_unsent_in life row)) [ inl y ↦ rw y (h.0, send_blank life count rows h.1) | inr n ↦ rw n (h.0, send_blank life (suc count) rows h.1) ]

pub sound_sent : (life from count edge next : ℕ) (l : FlowLog) → Sound life l → Sound life (record { taken = send_rows from count l.taken; given = l.given; edge = edge; next = next })
sound_sent life from count edge next l s = record {
  rising = s.rising;
  below = below_more (length l.taken) _ l.given (omega (arith, length-send from count l.taken)) s.below;
  joined = s.joined;
  taken_blank = send_blank from count l.taken s.taken_blank;
  given_blank = s.given_blank;
  skipped = λ place lt off of_life. let same = send_kept from count l.taken place in same.1 ∙ s.skipped place lt off (subst (λ n. life ≤ n) same.0 of_life);
  acked = λ place e. let same = send_kept from count l.taken place in s.acked place (sym same.1 ∙ e);
}

-- SETTLED AND UNCERTAIN
settle_blank : (life : ℕ) (fate : Fate) (count : ℕ) (rows : List Taken) → TakenBlank rows → TakenBlank (settle life fate count rows)
settle_blank life fate zero rows h = h
settle_blank life fate (suc count) [] h = tt
settle_blank life fate (suc count) (row ∷ rows) h =
    elim (cases_Bool (is_open_in life row)) [ inl y ↦ rw y (h.0, settle_blank life fate count rows h.1) | inr n ↦ rw n (h.0, settle_blank life fate (suc count) rows h.1) ]

sound_settled : (life from : ℕ) (fate : Fate) (count : ℕ) (l : FlowLog) → Sound life l → ((place : ℕ) → (row_at (settle from fate count l.taken) place).fate ≡ Acked → is_given l.given place ≡ true) → Sound life (with_fate from fate count l)
sound_settled life from fate count l s given =
    let fits : top l.given ≤ length l.taken = top_below 0 (length l.taken) l.given (omega arith) s.below in
    record {
      rising = s.rising;
      below = below_more (length l.taken) _ l.given (omega (arith, settle_length from fate count l.taken)) s.below;
      joined = s.joined;
      taken_blank = settle_blank from fate count l.taken s.taken_blank;
      given_blank = s.given_blank;
      skipped = λ place lt off of_life.
          let kept = over_at l.taken (settle from fate count l.taken) (over_settle from fate count l.taken) place (omega arith) in
          let before = s.skipped place lt off (subst (λ n. life ≤ n) kept.life of_life) in
          kept.fate (λ e. let both : Uncertain ≡ Open = sym before ∙ e in absurd cc) ∙ before;
      acked = given;
    }

pub sound_given_up : (life from count : ℕ) (l : FlowLog) → Sound life l → Sound life (with_fate from Uncertain count l)
sound_given_up life from count l s = sound_settled life from Uncertain count l s (λ place e. s.acked place (settle_acked from Uncertain count l.taken (λ h. absurd cc) place e))

-- a row that becomes acknowledged is one of those that are tested
newly_acked : (life at count : ℕ) (rows : List Taken) (given : List Given) (place : ℕ) → list_all (is_given given) (take count (places_where (is_open_in life) at rows)) ≡ true
    → (row_at (settle life Acked count rows) place).fate ≡ Acked → ((row_at rows place).fate ≡ Acked) ⊎ (is_given given (at + place) ≡ true)
newly_acked life at zero rows given place all e = inl e
newly_acked life at (suc count) [] given place all e = inl e
newly_acked life at (suc count) (row ∷ rows) given zero all e =
    elim (cases_Bool (is_open_in life row)) [
      | inl y ↦ let all' = and_parts _ _ (rw y at all) in inr (rw add-zero all'.0)
      | inr n ↦ inl (rw n at e)
    ]
newly_acked life at (suc count) (row ∷ rows) given (suc place) all e =
    let next : at + suc place ≡ suc at + place = omega arith in
    elim (cases_Bool (is_open_in life row)) [
      | inl y ↦ let all' = and_parts _ _ (rw y at all) in rw next (newly_acked life (suc at) count rows given place all'.1 (rw y at e))
      | inr n ↦ rw next (newly_acked life (suc at) (suc count) rows given place (rw n at all) (rw n at e))
    ]

pub sound_acknowledged : (life from count : ℕ) (l : FlowLog) → Sound life l → list_all (is_given l.given) (take count (open_places from l)) ≡ true → Sound life (with_fate from Acked count l)
sound_acknowledged life from count l s all = sound_settled life from Acked count l s (λ place e.
    elim (newly_acked from 0 count l.taken l.given place all e) [
      | inl before ↦ s.acked place before
      | inr given ↦ let same : 0 + place ≡ place = omega arith in rw same at given
    ])

-- ACCEPTED
or_false : (a b : Bool) → (a || b) ≡ false → (a ≡ false) × (b ≡ false)
or_false true b h = absurd cc
or_false false b h = (refl, h)

or_left : (a b : Bool) → a ≡ true → (a || b) ≡ true
or_left true b h = refl
or_left false b h = absurd cc

pub given_append : (xs ys : List Given) (place : ℕ) → is_given (xs ++ ys) place ≡ (is_given xs place || is_given ys place)
given_append [] ys place = refl
given_append (x ∷ xs) ys place = ap (λ b. (x.place == place) || b) (given_append xs ys place) ∙ regroup (x.place == place) (is_given xs place) (is_given ys place)
  where
    regroup : (a b c : Bool) → (a || (b || c)) ≡ ((a || b) || c)
    regroup true b c = refl
    regroup false b c = refl

given_here : (life : ℕ) (run : Bool) (place count p : ℕ) → place ≤ p → p < place + count → is_given (given_rows life 0 run place (blank count)) p ≡ true
given_here life run place zero p le lt = absurd (omega arith)
given_here life run place (suc count) p le lt =
    elim (cases_lt place p) [
      | inl below ↦ let other : (place == p) ≡ false = grind (arith, nat_tests) in rw other (given_here life false (suc place) count p (omega arith) (omega arith))
      | inr above ↦ let same : (place == p) ≡ true = grind (arith, nat_tests) in rw same refl
    ]

below_append : (most : ℕ) (xs ys : List Given) → PlacesBelow most xs → PlacesBelow most ys → PlacesBelow most (xs ++ ys)
below_append most [] ys h k = k
below_append most (x ∷ xs) ys h k = (h.0, below_append most xs ys h.1 k)

new_below : (life : ℕ) (run : Bool) (place count most : ℕ) → place + count ≤ most → PlacesBelow most (given_rows life 0 run place (blank count))
new_below life run place zero most le = tt
new_below life run place (suc count) most le = (omega arith, new_below life false (suc place) count most (omega arith))

given_blank_append : (xs ys : List Given) → GivenBlank xs → GivenBlank ys → GivenBlank (xs ++ ys)
given_blank_append [] ys h k = k
given_blank_append (x ∷ xs) ys h k = (h.0, given_blank_append xs ys h.1 k)

new_given_blank : (life : ℕ) (run : Bool) (place count : ℕ) → GivenBlank (given_rows life 0 run place (blank count))
new_given_blank life run place zero = tt
new_given_blank life run place (suc count) = (refl, new_given_blank life false (suc place) count)

joined_append : (before : Option Given) (xs ys : List Given) → Joined before xs → Joined (last_of before xs) ys → Joined before (xs ++ ys)
joined_append before [] ys h k = k
joined_append before (x ∷ xs) ys h k = (h.0, joined_append (Some x) xs ys h.1 k)

new_joined : (life : ℕ) (run : Bool) (place count : ℕ) (before : Option Given) → ((row : Given) → row.place ≡ place → row.life ≡ life → run ≡ false → JoinsTo before row) → Joined before (given_rows life 0 run place (blank count))
new_joined life run place zero before on = tt
new_joined life run place (suc count) before on =
    (on _ refl refl, new_joined life false (suc place) count (Some _) (λ row at of_life off. (sym at, sym of_life)))

joins_by : (life place : ℕ) (before : Option Given) (row : Given) → row.place ≡ place → row.life ≡ life → follows life place before ≡ true → JoinsTo before row
joins_by life place None row at of_life h = absurd cc
joins_by life place (Some last) row at of_life h =
    let parts = and_parts _ _ h in
    let next : suc last.place ≡ place = eqb-true _ _ parts.0 in
    let same : last.life ≡ life = eqb-true _ _ parts.1 in (omega arith, omega arith)

-- the rows between the last given one and a place are passed
passed_at : (test : Taken → Bool) (rows : List Taken) (from count p : ℕ) → list_all test (take count (drop from rows)) ≡ true → from ≤ p → p < from + count → p < length rows → test (row_at rows p) ≡ true
passed_at test [] from count p all le lt there = absurd (omega arith)
passed_at test (row ∷ rows) zero zero p all le lt there = absurd (omega arith)
passed_at test (row ∷ rows) zero (suc count) zero all le lt there = (and_parts _ _ all).0
passed_at test (row ∷ rows) zero (suc count) (suc p) all le lt there = passed_at test rows zero count p (and_parts _ _ all).1 (omega arith) (omega arith) (omega arith)
passed_at test (row ∷ rows) (suc from) count zero all le lt there = absurd (omega arith)
passed_at test (row ∷ rows) (suc from) count (suc p) all le lt there = passed_at test rows from count p all (omega arith) (omega arith) (omega arith)

uncertain_by : (life : ℕ) (row : Taken) → is_passed life row ≡ true → life ≤ row.life → row.fate ≡ Uncertain
uncertain_by life row h le = by row.fate h
  where
    later : nat_lt row.life life ≡ false
    later = grind (arith, nat_tests)

    by : (fate : Fate) → (is_uncertain fate || nat_lt row.life life) ≡ true → fate ≡ Uncertain
    by Open e = absurd (both_ways (nat_lt row.life life) later e)
    by Acked e = absurd (both_ways (nat_lt row.life life) later e)
    by Uncertain e = refl

pub length-blank : (count : ℕ) → length (blank count) ≡ count
length-blank zero = refl
length-blank (suc count) = ap suc (length-blank count)

pub top_given : (life : ℕ) (run : Bool) (place count : ℕ) (given : List Given) → top (given ++ given_rows life 0 run place (blank (suc count))) ≡ place + suc count
top_given life run place count given =
    top_append 0 given (given_rows life 0 run place (blank (suc count)))
    ∙ top_rows life 0 run place (top given) (blank (suc count)) (omega (arith, length-blank (suc count)))
    ∙ ap (λ n. place + n) (length-blank (suc count))

-- so many octets are given from a place on
pub sound_given : (life to_life : ℕ) (run : Bool) (place count : ℕ) (l : FlowLog) → Sound life l → top l.given ≤ place → place + suc count ≤ length l.taken
    → (run ≡ false → follows to_life place (last_of None l.given) ≡ true) → all_passed life place l ≡ true → Sound life (give to_life run place (suc count) l)
sound_given life to_life run place count l s above fits goes passed =
    let new = given_rows to_life 0 run place (blank (suc count)) in
    let top_is : top (l.given ++ new) ≡ place + suc count = top_given to_life run place count l.given in
    record {
      rising = rising_append 0 l.given new s.rising (rising_rows to_life 0 run place (top l.given) (blank (suc count)) above);
      below = below_append (length l.taken) l.given new s.below (new_below to_life run place (suc count) (length l.taken) fits);
      joined = joined_append None l.given new s.joined (new_joined to_life run place (suc count) (last_of None l.given) (λ row at of_life off. joins_by to_life place (last_of None l.given) row at of_life (goes off)));
      taken_blank = s.taken_blank;
      given_blank = given_blank_append l.given new s.given_blank (new_given_blank to_life run place (suc count));
      skipped = λ p lt off of_life.
          let parts = or_false _ _ (sym (given_append l.given new p) ∙ off) in
          elim (cases_lt p (top l.given)) [
            | inl below ↦ s.skipped p below parts.0 of_life
            | inr here ↦
                elim (cases_lt p place) [
                  | inl between ↦ uncertain_by life (row_at l.taken p) (passed_at (is_passed life) l.taken (top l.given) (place - top l.given) p passed here (omega arith) (omega arith)) of_life
                  | inr given ↦ let yes = given_here to_life run place (suc count) p given (omega arith) in absurd cc
                ]
          ];
      acked = λ p e. given_append l.given new p ∙ or_left _ _ (s.acked p e);
    }
