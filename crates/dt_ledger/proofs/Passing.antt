-- Rows that are passed stay passed, whatever changes.
use Rattle.std.proofs.Common.{ℕ, zero, suc, ◌≡◌, ◌+◌, ◌<◌, ◌≤◌, Bool, true, false, List, [], ◌∷◌, ◌++◌, length, map, get_or, None, Some, refl, ap, subst, inl, inr, arith}
use Rattle.std.proofs.Math.ListN.{set}
use Rattle.std.specs.Prelude.{◌&&◌, ◌==◌}
use Rattle.std.proofs.lemmas.Bool.{cases_Bool}
use Rattle.std.proofs.lemmas.Bool.Decides.{nat_tests}
use Rattle.dt_items.specs.declared.item.Item.{Item}
use Rattle.dt_flow_model.specs.declared.rows.Fate.{Fate}
use Rattle.dt_flow_model.specs.declared.rows.Taken.{Taken}
use Rattle.dt_flow_model.specs.Ledger.{first_unsent, is_open, is_open_in, is_unsent, open_row, settle}
use Rattle.dt_ledger.specs.Rows.{LivesUpTo, NoneBelow, change_at, waits_in, with_fate}

module _ (test : Taken → Bool) where
  pub none_less : (m n : ℕ) (rows : List Taken) → m ≤ n → NoneBelow test n rows → NoneBelow test m rows
  none_less zero n rows l h = tt
  none_less (suc m) zero rows l h = absurd (omega arith)
  none_less (suc m) (suc n) [] l h = tt
  none_less (suc m) (suc n) (row ∷ rows) l h = (h.0, none_less m n rows (omega arith) h.1)

  none_next : (n : ℕ) (rows : List Taken) (d : Taken) → n < length rows → test (get_or rows n d) ≡ false → NoneBelow test n rows → NoneBelow test (suc n) rows
  none_next n [] d l e h = tt
  none_next zero (row ∷ rows) d l e h = (e, tt)
  none_next (suc n) (row ∷ rows) d l e h = (h.0, none_next n rows d (omega arith) e h.1)

  none_set : (n : ℕ) (rows : List Taken) (x : Taken) → test x ≡ false → NoneBelow test n rows → NoneBelow test (suc n) (set rows n x)
  none_set n [] x e h = tt
  none_set zero (row ∷ rows) x e h = (e, tt)
  none_set (suc n) (row ∷ rows) x e h = (h.0, none_set n rows x e h.1)

  -- the same, one place on
  pub none_on : (n : ℕ) (rows : List Taken) (d : Taken) → n < length rows → test (get_or rows n d) ≡ false → NoneBelow test n rows → NoneBelow test (n + 1) rows
  none_on n rows d l e h = let next : suc n ≡ n + 1 = omega arith in subst (λ (k : ℕ). NoneBelow test k rows) next (none_next n rows d l e h)

  pub none_on_set : (n : ℕ) (rows : List Taken) (x : Taken) → test x ≡ false → NoneBelow test n rows → NoneBelow test (n + 1) (set rows n x)
  none_on_set n rows x e h = let next : suc n ≡ n + 1 = omega arith in subst (λ (k : ℕ). NoneBelow test k (set rows n x)) next (none_set n rows x e h)

  pub none_append : (n : ℕ) (rows more : List Taken) → n ≤ length rows → NoneBelow test n rows → NoneBelow test n (rows ++ more)
  none_append zero rows more l h = tt
  none_append (suc n) [] more l h = absurd (omega arith)
  none_append (suc n) (row ∷ rows) more l h = (h.0, none_append n rows more (omega arith) h.1)

  module _ (change : Taken → Taken) where
    -- rows below those that change
    pub none_before : (n place count : ℕ) (rows : List Taken) → n ≤ place → NoneBelow test n rows → NoneBelow test n (change_at change place count rows)
    none_before zero place count rows l h = tt
    none_before (suc n) place count [] l h = tt
    none_before (suc n) zero count (row ∷ rows) l h = absurd (omega arith)
    none_before (suc n) (suc place) count (row ∷ rows) l h = (h.0, none_before n place count rows (omega arith) h.1)

    -- a change after which the test still fails
    pub none_changed : ((row : Taken) → test row ≡ false → test (change row) ≡ false) → (n place count : ℕ) (rows : List Taken) → NoneBelow test n rows → NoneBelow test n (change_at change place count rows)
    none_changed keeps zero place count rows h = tt
    none_changed keeps (suc n) place count [] h = tt
    none_changed keeps (suc n) zero zero (row ∷ rows) h = h
    none_changed keeps (suc n) zero (suc count) (row ∷ rows) h = (keeps row h.0, none_changed keeps n zero count rows h.1)
    none_changed keeps (suc n) (suc place) count (row ∷ rows) h = (h.0, none_changed keeps n place count rows h.1)

    -- a change after which the test fails anyway
    pub none_after : ((row : Taken) → test (change row) ≡ false) → (m place count : ℕ) (rows : List Taken) → m ≤ place + count → NoneBelow test place rows → NoneBelow test m (change_at change place count rows)
    none_after fails zero place count rows l h = tt
    none_after fails (suc m) place count [] l h = tt
    none_after fails (suc m) zero zero (row ∷ rows) l h = absurd (omega arith)
    none_after fails (suc m) zero (suc count) (row ∷ rows) l h = (fails row, none_after fails m zero count rows (omega arith) tt)
    none_after fails (suc m) (suc place) count (row ∷ rows) l h = (h.0, none_after fails m place count rows (omega arith) h.1)

  pub none_settled : (fate : Fate) → ((row : Taken) → test row ≡ false → test (with_fate fate row) ≡ false) → (life count n : ℕ) (rows : List Taken) → NoneBelow test n rows → NoneBelow test n (settle life fate count rows)
  none_settled fate keeps life zero n rows h = h
  none_settled fate keeps life (suc count) zero [] h = tt
  none_settled fate keeps life (suc count) zero (row ∷ rows) h = tt
  none_settled fate keeps life (suc count) (suc n) [] h = tt
  none_settled fate keeps life (suc count) (suc n) (row ∷ rows) h =
      elim (cases_Bool (is_open_in life row)) [
        | inl y ↦ rw y (keeps row h.0, none_settled fate keeps life count n rows h.1)
        | inr other ↦ rw other (h.0, none_settled fate keeps life (suc count) n rows h.1)
      ]

-- lives
pub lives_later : (most later : ℕ) (rows : List Taken) → most ≤ later → LivesUpTo most rows → LivesUpTo later rows
lives_later most later [] l h = tt
lives_later most later (row ∷ rows) l h = (omega (arith, h.0), lives_later most later rows l h.1)

lives_opened : (most life : ℕ) (items : List Item) → life ≤ most → LivesUpTo most (map (open_row life None) items)
lives_opened most life [] l = tt
lives_opened most life (item ∷ items) l = (l, lives_opened most life items l)

pub lives_taken : (most life : ℕ) (items : List Item) (rows : List Taken) → life ≤ most → LivesUpTo most rows → LivesUpTo most (rows ++ map (open_row life None) items)
lives_taken most life items [] l h = lives_opened most life items l
lives_taken most life items (row ∷ rows) l h = (h.0, lives_taken most life items rows l h.1)

pub lives_changed : (change : Taken → Taken) → ((row : Taken) → (change row).life ≡ row.life) → (most place count : ℕ) (rows : List Taken) → LivesUpTo most rows → LivesUpTo most (change_at change place count rows)
lives_changed change keeps most place count [] h = tt
lives_changed change keeps most zero zero (row ∷ rows) h = h
lives_changed change keeps most zero (suc count) (row ∷ rows) h = (omega (arith, keeps row, h.0), lives_changed change keeps most zero count rows h.1)
lives_changed change keeps most (suc place) count (row ∷ rows) h = (h.0, lives_changed change keeps most place count rows h.1)

pub lives_settled : (most life : ℕ) (fate : Fate) (count : ℕ) (rows : List Taken) → LivesUpTo most rows → LivesUpTo most (settle life fate count rows)
lives_settled most life fate zero rows h = h
lives_settled most life fate (suc count) [] h = tt
lives_settled most life fate (suc count) (row ∷ rows) h =
    elim (cases_Bool (is_open_in life row)) [
      | inl y ↦ rw y (h.0, lives_settled most life fate count rows h.1)
      | inr other ↦ rw other (h.0, lives_settled most life fate (suc count) rows h.1)
    ]

-- a test that a row of another life fails
and_no : (a b : Bool) → b ≡ false → (a && b) ≡ false
and_no true b e = e
and_no false b e = refl

and_first : (a b : Bool) → a ≡ false → (a && b) ≡ false
and_first a b e = rw e

pub not_open_in : (life : ℕ) (row : Taken) → row.life < life → is_open_in life row ≡ false
not_open_in life row l = let apart : (row.life == life) ≡ false = grind (arith, nat_tests) in and_no (is_open row.fate) (row.life == life) apart

pub not_waiting_in : (life : ℕ) (row : Taken) → row.life < life → waits_in life row ≡ false
not_waiting_in life row l = and_first (is_open_in life row) (is_unsent row.first) (not_open_in life row l)

pub none_of_later : (test : Taken → Bool) (most life : ℕ) → ((row : Taken) → row.life < life → test row ≡ false) → most < life → (n : ℕ) (rows : List Taken) → LivesUpTo most rows → NoneBelow test n rows
none_of_later test most life fails l zero rows h = tt
none_of_later test most life fails l (suc n) [] h = tt
none_of_later test most life fails l (suc n) (row ∷ rows) h = (fails row (omega (arith, h.0)), none_of_later test most life fails l n rows h.1)

-- rows with a fate, and rows with a first moment
pub closed_is_not_open : (fate : Fate) → is_open fate ≡ false → (life : ℕ) (row : Taken) → is_open_in life (with_fate fate row) ≡ false
closed_is_not_open fate e life row = and_first (is_open fate) (row.life == life) e

pub closed_waits_not : (fate : Fate) → is_open fate ≡ false → (life : ℕ) (row : Taken) → waits_in life (with_fate fate row) ≡ false
closed_waits_not fate e life row = and_first (is_open_in life (with_fate fate row)) (is_unsent row.first) (closed_is_not_open fate e life row)

abbrev pub noted : ℕ → Taken → Taken
noted at row = record row { first = Some at }

pub noted_waits_not : (at life : ℕ) (row : Taken) → waits_in life (noted at row) ≡ false
noted_waits_not at life row = and_no (is_open_in life row) false refl

-- the leftmost row that waits
pub first_here : (life n : ℕ) (rows : List Taken) (d : Taken) → n < length rows → waits_in life (get_or rows n d) ≡ true → NoneBelow (waits_in life) n rows → first_unsent life rows ≡ n
first_here life n [] d l e h = absurd (omega arith)
first_here life zero (row ∷ rows) d l e h = rw e refl
first_here life (suc n) (row ∷ rows) d l e h = rw (h.0) (ap suc (first_here life n rows d (omega arith) e h.1))

pub first_nowhere : (life n : ℕ) (rows : List Taken) → length rows ≡ n → NoneBelow (waits_in life) n rows → first_unsent life rows ≡ n
first_nowhere life n [] l h = l
first_nowhere life zero (row ∷ rows) l h = absurd (omega arith)
first_nowhere life (suc n) (row ∷ rows) l h = rw (h.0) (ap suc (first_nowhere life n rows (omega arith) h.1))

pub none_before_first : (life : ℕ) (rows : List Taken) → NoneBelow (waits_in life) (first_unsent life rows) rows
none_before_first life [] = tt
none_before_first life (row ∷ rows) =
    elim (cases_Bool (waits_in life row)) [
      | inl y ↦ rw y tt
      | inr other ↦ rw other (other, none_before_first life rows)
    ]

pub waits : (life : ℕ) (row : Taken) → is_open_in life row ≡ true → is_unsent row.first ≡ true → waits_in life row ≡ true
waits life row o u = rw o u

pub closed_not_waiting : (life : ℕ) (row : Taken) → is_open_in life row ≡ false → waits_in life row ≡ false
closed_not_waiting life row e = and_first (is_open_in life row) (is_unsent row.first) e

pub sent_not_waiting : (life : ℕ) (row : Taken) → is_unsent row.first ≡ false → waits_in life row ≡ false
sent_not_waiting life row e = and_no (is_open_in life row) (is_unsent row.first) e
