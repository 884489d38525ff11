-- Rows of which the first fail a test and all others pass it.
use Rattle.std.proofs.Common.{ℕ, zero, suc, ◌≡◌, ◌+◌, ◌-◌, ◌<◌, ◌≤◌, Bool, true, false, List, [], ◌∷◌, ◌++◌, length, map, take, None, Some, refl, ap, ◌∙◌, inl, inr, arith, add-zero}
use Rattle.std.specs.List.{list_all}
use Rattle.std.proofs.lemmas.Bool.{cases_Bool, cases_lt}
use Rattle.std.proofs.lemmas.Bool.Decides.{nat_tests}
use Rattle.dt_flow_model.specs.declared.rows.Fate.{Fate}
use Rattle.dt_flow_model.specs.declared.rows.Taken.{Taken}
use Rattle.dt_flow_model.specs.Ledger.{is_open, is_open_in, open_row, row_at, settle}
use Rattle.dt_audit.specs.LogRows.{behind_last, blank, is_sent, is_unsent_in, places_where, send_rows}

-- each row passes, and none does
abbrev pub AllPass : (Taken → Bool) → List Taken → Type 0
AllPass test [] = Unit {0}
AllPass test (row ∷ rows) = (test row ≡ true) × AllPass test rows

abbrev pub NonePasses : (Taken → Bool) → List Taken → Type 0
NonePasses test [] = Unit {0}
NonePasses test (row ∷ rows) = (test row ≡ false) × NonePasses test rows

-- the first `from` rows, which are there, fail, and all others pass
abbrev pub Region : (Taken → Bool) → ℕ → List Taken → Type 0
Region test zero rows = AllPass test rows
Region test (suc from) [] = ⊥
Region test (suc from) (row ∷ rows) = (test row ≡ false) × Region test from rows

module _ (test : Taken → Bool) where
  pub region_within : (from : ℕ) (rows : List Taken) → Region test from rows → from ≤ length rows
  region_within zero rows h = omega arith
  region_within (suc from) [] h = elim h [ ]
  region_within (suc from) (row ∷ rows) h = omega (arith, region_within from rows h.1)

  pub region_below : (from : ℕ) (rows : List Taken) (place : ℕ) → Region test from rows → place < from → test (row_at rows place) ≡ false
  region_below zero rows place h lt = absurd (omega arith)
  region_below (suc from) [] place h lt = elim h [ ]
  region_below (suc from) (row ∷ rows) zero h lt = h.0
  region_below (suc from) (row ∷ rows) (suc place) h lt = region_below from rows place h.1 (omega arith)

  pass_at : (rows : List Taken) (place : ℕ) → AllPass test rows → place < length rows → test (row_at rows place) ≡ true
  pass_at [] place h lt = absurd (omega arith)
  pass_at (row ∷ rows) zero h lt = h.0
  pass_at (row ∷ rows) (suc place) h lt = pass_at rows place h.1 (omega arith)

  pub region_above : (from : ℕ) (rows : List Taken) (place : ℕ) → Region test from rows → from ≤ place → place < length rows → test (row_at rows place) ≡ true
  region_above zero rows place h le lt = pass_at rows place h lt
  region_above (suc from) [] place h le lt = elim h [ ]
  region_above (suc from) (row ∷ rows) zero h le lt = absurd (omega arith)
  region_above (suc from) (row ∷ rows) (suc place) h le lt = region_above from rows place h.1 (omega arith) (omega arith)

  pass_append : (rows more : List Taken) → AllPass test rows → AllPass test more → AllPass test (rows ++ more)
  pass_append [] more h k = k
  pass_append (row ∷ rows) more h k = (h.0, pass_append rows more h.1 k)

  pub region_append : (from : ℕ) (rows more : List Taken) → Region test from rows → AllPass test more → Region test from (rows ++ more)
  region_append zero rows more h k = pass_append rows more h k
  region_append (suc from) [] more h k = elim h [ ]
  region_append (suc from) (row ∷ rows) more h k = (h.0, region_append from rows more h.1 k)

  pub region_none : (rows : List Taken) → NonePasses test rows → Region test (length rows) rows
  region_none [] h = tt
  region_none (row ∷ rows) h = (h.0, region_none rows h.1)

  -- the places of the rows that pass
  pass_count : (rows : List Taken) (at : ℕ) → AllPass test rows → length (places_where test at rows) ≡ length rows
  pass_count [] at h = refl
  pass_count (row ∷ rows) at h = rw h.0 (ap suc (pass_count rows (suc at) h.1))

  pub region_count : (from : ℕ) (rows : List Taken) (at : ℕ) → Region test from rows → length (places_where test at rows) ≡ length rows - from
  region_count zero rows at h = let e = pass_count rows at h in omega arith
  region_count (suc from) [] at h = elim h [ ]
  region_count (suc from) (row ∷ rows) at h = rw h.0 (let e = region_count from rows (suc at) h.1 in omega arith)

  pass_behind : (rows : List Taken) (at count before : ℕ) → AllPass test rows → count < length rows → behind_last before (take (suc count) (places_where test at rows)) ≡ at + suc count
  pass_behind [] at count before h lt = absurd (omega arith)
  pass_behind (row ∷ []) at zero before h lt = rw h.0 (omega arith)
  pass_behind (row ∷ r ∷ rows) at zero before h lt = rw h.0 (omega arith)
  pass_behind (row ∷ rows) at (suc count) before h lt = rw h.0 (let e = pass_behind rows (suc at) count (suc at) h.1 (omega arith) in omega arith)

  pub region_behind : (from : ℕ) (rows : List Taken) (at count before : ℕ) → Region test from rows → from + count < length rows → behind_last before (take (suc count) (places_where test at rows)) ≡ at + from + suc count
  region_behind zero rows at count before h lt = let e = pass_behind rows at count before h (omega arith) in omega arith
  region_behind (suc from) [] at count before h lt = elim h [ ]
  region_behind (suc from) (row ∷ rows) at count before h lt = rw h.0 (let e = region_behind from rows (suc at) count before h.1 (omega arith) in omega arith)

-- what holds of the places of all rows that pass, and of one of them
module _ (test : Taken → Bool) (good : ℕ → Bool) where
  pass_all : (count : ℕ) (rows : List Taken) (at : ℕ) → AllPass test rows → count ≤ length rows → ((k : ℕ) → at ≤ k → k < at + count → good k ≡ true) → list_all good (take count (places_where test at rows)) ≡ true
  pass_all zero rows at h le on = refl
  pass_all (suc count) [] at h le on = absurd (omega arith)
  pass_all (suc count) (row ∷ rows) at h le on =
      let here : good at ≡ true = on at (omega arith) (omega arith) in
      rw (h.0, here) (pass_all count rows (suc at) h.1 (omega arith) (λ k a b. on k (omega arith) (omega arith)))

  pub region_all : (from count : ℕ) (rows : List Taken) (at : ℕ) → Region test from rows → from + count ≤ length rows → ((k : ℕ) → at + from ≤ k → k < at + from + count → good k ≡ true) → list_all good (take count (places_where test at rows)) ≡ true
  region_all zero count rows at h le on = pass_all count rows at h (omega arith) (λ k a b. on k (omega arith) (omega arith))
  region_all (suc from) count [] at h le on = elim h [ ]
  region_all (suc from) count (row ∷ rows) at h le on = rw h.0 (region_all from count rows (suc at) h.1 (omega arith) (λ k a b. on k (omega arith) (omega arith)))

  pass_some : (count : ℕ) (rows : List Taken) (at k : ℕ) → AllPass test rows → count ≤ length rows → at ≤ k → k < at + count → good k ≡ false → list_all good (take count (places_where test at rows)) ≡ false
  pass_some zero rows at k h le a b bad = absurd (omega arith)
  pass_some (suc count) [] at k h le a b bad = absurd (omega arith)
  pass_some (suc count) (row ∷ rows) at k h le a b bad =
      rw h.0 (elim (cases_Bool (good at)) [
        | inl y ↦
            elim (cases_lt at k) [
              | inl lt ↦ rw y (pass_some count rows (suc at) k h.1 (omega arith) (omega arith) (omega arith) bad)
              | inr ge ↦ let same : at ≡ k = omega arith in let bad' : good at ≡ false = rw same bad in absurd cc
            ]
        | inr n ↦ rw n refl
      ])

  pub region_some : (from count : ℕ) (rows : List Taken) (at k : ℕ) → Region test from rows → from + count ≤ length rows → at + from ≤ k → k < at + from + count → good k ≡ false → list_all good (take count (places_where test at rows)) ≡ false
  region_some zero count rows at k h le a b bad = pass_some count rows at k h (omega arith) (omega arith) (omega arith) bad
  region_some (suc from) count [] at k h le a b bad = elim h [ ]
  region_some (suc from) count (row ∷ rows) at k h le a b bad = rw h.0 (region_some from count rows (suc at) k h.1 (omega arith) (omega arith) (omega arith) bad)

-- SETTLING
closed_row : (life : ℕ) (fate : Fate) (row : Taken) → is_open fate ≡ false → is_open_in life (record row { fate = fate }) ≡ false
closed_row life fate row closed = rw closed refl

pub settle_region : (life : ℕ) (fate : Fate) (from count : ℕ) (rows : List Taken) → is_open fate ≡ false → Region (is_open_in life) from rows → from + count ≤ length rows → Region (is_open_in life) (from + count) (settle life fate count rows)
settle_region life fate from zero rows closed h le = rw add-zero h
settle_region life fate zero (suc count) [] closed h le = absurd (omega arith)
settle_region life fate zero (suc count) (row ∷ rows) closed h le =
    let e : 0 + suc count ≡ suc (0 + count) = omega arith in
    rw (h.0, e) (closed_row life fate row closed, settle_region life fate zero count rows closed h.1 (omega arith))
settle_region life fate (suc from) (suc count) [] closed h le = elim h [ ]
settle_region life fate (suc from) (suc count) (row ∷ rows) closed h le =
    let e : suc from + suc count ≡ suc (from + suc count) = omega arith in
    rw (h.0, e) (h.0, settle_region life fate from (suc count) rows closed h.1 (omega arith))

-- another test stays where it doesn't go by the fate
pub settle_keeps : (life : ℕ) (fate : Fate) (test : Taken → Bool) (from count : ℕ) (rows : List Taken) → ((row : Taken) → test (record row { fate = fate }) ≡ test row) → Region test from rows → Region test from (settle life fate count rows)
settle_keeps life fate test from zero rows same h = h
settle_keeps life fate test zero (suc count) [] same h = tt
settle_keeps life fate test (suc from) (suc count) [] same h = elim h [ ]
settle_keeps life fate test zero (suc count) (row ∷ rows) same h =
    elim (cases_Bool (is_open_in life row)) [
      | inl y ↦ rw y (same row ∙ h.0, settle_keeps life fate test zero count rows same h.1)
      | inr n ↦ rw n (h.0, settle_keeps life fate test zero (suc count) rows same h.1)
    ]
settle_keeps life fate test (suc from) (suc count) (row ∷ rows) same h =
    elim (cases_Bool (is_open_in life row)) [
      | inl y ↦ rw y (same row ∙ h.0, settle_keeps life fate test from count rows same h.1)
      | inr n ↦ rw n (h.0, settle_keeps life fate test from (suc count) rows same h.1)
    ]

-- SENDING
abbrev pub sent_row : Taken → Taken
sent_row row = record row { first = Some 0 }

pub send_region : (life from count : ℕ) (rows : List Taken) → Region (is_unsent_in life) from rows → from + count ≤ length rows → Region (is_unsent_in life) (from + count) (send_rows life count rows)
send_region life from zero rows h le = rw add-zero h
send_region life zero (suc count) [] h le = absurd (omega arith)
send_region life zero (suc count) (row ∷ rows) h le =
    let e : 0 + suc count ≡ suc (0 + count) = omega arith in
    rw (h.0, e) (refl, send_region life zero count rows h.1 (omega arith))
send_region life (suc from) (suc count) [] h le = elim h [ ]
send_region life (suc from) (suc count) (row ∷ rows) h le =
    let e : suc from + suc count ≡ suc (from + suc count) = omega arith in
    rw (h.0, e) (h.0, send_region life from (suc count) rows h.1 (omega arith))

pub send_keeps : (life : ℕ) (test : Taken → Bool) (from count : ℕ) (rows : List Taken) → ((row : Taken) → test (sent_row row) ≡ test row) → Region test from rows → Region test from (send_rows life count rows)
send_keeps life test from zero rows same h = h
send_keeps life test zero (suc count) [] same h = tt
send_keeps life test (suc from) (suc count) [] same h = elim h [ ]
send_keeps life test zero (suc count) (row ∷ rows) same h =
    elim (cases_Bool (is_unsent_in life row)) [
      | inl y ↦ rw y (same row ∙ h.0, send_keeps life test zero count rows same h.1)
      | inr n ↦ rw n (h.0, send_keeps life test zero (suc count) rows same h.1)
    ]
send_keeps life test (suc from) (suc count) (row ∷ rows) same h =
    elim (cases_Bool (is_unsent_in life row)) [
      | inl y ↦ rw y (same row ∙ h.0, send_keeps life test from count rows same h.1)
      | inr n ↦ rw n (h.0, send_keeps life test from (suc count) rows same h.1)
    ]

-- the row at a place that is sent, and at any other
pub send_at_below : (life from count : ℕ) (rows : List Taken) (place : ℕ) → Region (is_unsent_in life) from rows → place < from → row_at (send_rows life count rows) place ≡ row_at rows place
send_at_below life from zero rows place h lt = refl
send_at_below life zero (suc count) rows place h lt = absurd (omega arith)
send_at_below life (suc from) (suc count) [] place h lt = elim h [ ]
send_at_below life (suc from) (suc count) (row ∷ rows) zero h lt = rw h.0 refl
send_at_below life (suc from) (suc count) (row ∷ rows) (suc place) h lt = rw h.0 (send_at_below life from (suc count) rows place h.1 (omega arith))

pub send_at_above : (life from count : ℕ) (rows : List Taken) (place : ℕ) → Region (is_unsent_in life) from rows → from + count ≤ place → row_at (send_rows life count rows) place ≡ row_at rows place
send_at_above life from zero rows place h le = refl
send_at_above life zero (suc count) [] place h le = refl
send_at_above life zero (suc count) (row ∷ rows) zero h le = absurd (omega arith)
send_at_above life zero (suc count) (row ∷ rows) (suc place) h le = rw h.0 (send_at_above life zero count rows place h.1 (omega arith))
send_at_above life (suc from) (suc count) [] place h le = elim h [ ]
send_at_above life (suc from) (suc count) (row ∷ rows) zero h le = absurd (omega arith)
send_at_above life (suc from) (suc count) (row ∷ rows) (suc place) h le = rw h.0 (send_at_above life from (suc count) rows place h.1 (omega arith))

pub send_at : (life from count : ℕ) (rows : List Taken) (place : ℕ) → Region (is_unsent_in life) from rows → from + count ≤ length rows → from ≤ place → place < from + count → is_sent (send_rows life count rows) place ≡ true
send_at life from zero rows place h le a b = absurd (omega arith)
send_at life zero (suc count) [] place h le a b = absurd (omega arith)
send_at life zero (suc count) (row ∷ rows) zero h le a b = rw h.0 refl
send_at life zero (suc count) (row ∷ rows) (suc place) h le a b = rw h.0 (send_at life zero count rows place h.1 (omega arith) (omega arith) (omega arith))
send_at life (suc from) (suc count) [] place h le a b = elim h [ ]
send_at life (suc from) (suc count) (row ∷ rows) zero h le a b = absurd (omega arith)
send_at life (suc from) (suc count) (row ∷ rows) (suc place) h le a b = rw h.0 (send_at life from (suc count) rows place h.1 (omega arith) (omega arith) (omega arith))

-- new rows are open in their life, and weren't sent in it
pub new_open : (life count : ℕ) → AllPass (is_open_in life) (map (open_row life None) (blank count))
new_open life zero = tt
new_open life (suc count) = (grind (arith, nat_tests), new_open life count)

pub new_unsent : (life count : ℕ) → AllPass (is_unsent_in life) (map (open_row life None) (blank count))
new_unsent life zero = tt
new_unsent life (suc count) = (grind (arith, nat_tests), new_unsent life count)
