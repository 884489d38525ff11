-- Changes of rows, one row after the other.
use Rattle.std.proofs.Common.{ℕ, zero, suc, ◌≡◌, ◌+◌, ◌-◌, ◌<◌, ◌≤◌, true, false, List, [], ◌∷◌, length, get_or, refl, sym, ap, ◌∙◌, inl, inr, arith}
use Rattle.std.proofs.Math.ListN.{set}
use Rattle.std.proofs.lemmas.Bool.{and_parts, cases_Bool}
use Rattle.dt_flow_model.specs.declared.rows.Fate.{Fate}
use Rattle.dt_flow_model.specs.declared.rows.Fate.TheVariants.{Open, Acked, Uncertain}
use Rattle.dt_flow_model.specs.declared.rows.Taken.{Taken}
use Rattle.dt_flow_model.specs.Ledger.{is_open, is_open_in, note_first, settle}
use Rattle.dt_ledger.specs.Rows.{NoneBelow, change_at, with_fate}
use Rattle.dt_ledger.proofs.Passing.{closed_is_not_open, noted}

pub note_first_is : (at place count : ℕ) (rows : List Taken) → note_first at place count rows ≡ change_at (noted at) place count rows
note_first_is at place count [] = refl
note_first_is at zero zero (row ∷ rows) = refl
note_first_is at zero (suc count) (row ∷ rows) = ap (λ (xs : List Taken). noted at row ∷ xs) (note_first_is at zero count rows)
note_first_is at (suc place) count (row ∷ rows) = ap (λ (xs : List Taken). row ∷ xs) (note_first_is at place count rows)

module _ (change : Taken → Taken) where
  pub change_none : (place : ℕ) (rows : List Taken) → change_at change place 0 rows ≡ rows
  change_none place [] = refl
  change_none zero (row ∷ rows) = refl
  change_none (suc place) (row ∷ rows) = ap (λ (xs : List Taken). row ∷ xs) (change_none place rows)

  -- the row at the place is changed first
  pub change_more : (place count : ℕ) (rows : List Taken) (d : Taken) → place < length rows → change_at change place (suc count) rows ≡ change_at change (suc place) count (set rows place (change (get_or rows place d)))
  change_more place count [] d l = absurd (omega arith)
  change_more zero count (row ∷ rows) d l = refl
  change_more (suc place) count (row ∷ rows) d l = ap (λ (xs : List Taken). row ∷ xs) (change_more place count rows d (omega arith))

  -- rows that aren't there aren't changed
  pub change_there : (place count there : ℕ) (rows : List Taken) → there ≤ count → length rows ≤ place + there → change_at change place count rows ≡ change_at change place there rows
  change_there place count there [] a b = refl
  change_there zero zero zero (row ∷ rows) a b = refl
  change_there zero zero (suc there) (row ∷ rows) a b = absurd (omega arith)
  change_there zero (suc count) zero (row ∷ rows) a b = absurd (omega arith)
  change_there zero (suc count) (suc there) (row ∷ rows) a b = ap (λ (xs : List Taken). change row ∷ xs) (change_there zero count there rows (omega arith) (omega arith))
  change_there (suc place) count there (row ∷ rows) a b = ap (λ (xs : List Taken). row ∷ xs) (change_there place count there rows a (omega arith))

  pub length-change_at : (place count : ℕ) (rows : List Taken) → length (change_at change place count rows) ≡ length rows
  length-change_at place count [] = refl
  length-change_at zero zero (row ∷ rows) = refl
  length-change_at zero (suc count) (row ∷ rows) = ap suc (length-change_at zero count rows)
  length-change_at (suc place) count (row ∷ rows) = ap suc (length-change_at place count rows)

  -- a step of a loop over the rows, which says what is left to do, and its end
  pub change_step : (i end : ℕ) (rows : List Taken) (d y : Taken) (all : List Taken) → i < length rows → i < end → y ≡ change (get_or rows i d)
      → change_at change i (end - i) rows ≡ all → change_at change (i + 1) (end - (i + 1)) (set rows i y) ≡ all
  change_step i end rows d y all l more changed left =
      let count : end - i ≡ suc (end - (i + 1)) = omega arith in
      let next : i + 1 ≡ suc i = omega arith in
      ap (λ (n : ℕ). change_at change n (end - (i + 1)) (set rows i y)) next
      ∙ ap (λ (r : Taken). change_at change (suc i) (end - (i + 1)) (set rows i r)) changed
      ∙ sym (change_more i (end - (i + 1)) rows d l)
      ∙ ap (λ (n : ℕ). change_at change i n rows) (sym count)
      ∙ left

  pub change_end : (i end : ℕ) (rows all : List Taken) → end ≤ i → change_at change i (end - i) rows ≡ all → rows ≡ all
  change_end i end rows all l left =
      let none : end - i ≡ 0 = omega arith in
      sym (change_none i rows) ∙ ap (λ (n : ℕ). change_at change i n rows) (sym none) ∙ left

-- an open row that gets the fate Open stays as it is
open_again : (row : Taken) → is_open row.fate ≡ true → with_fate Open row ≡ row
open_again row h = by row.fate refl h
  where
    by : (f : Fate) → row.fate ≡ f → is_open f ≡ true → with_fate Open row ≡ row
    by Open e t = ap (λ (f : Fate). with_fate f row) (sym e)
    by Acked e t = absurd cc
    by Uncertain e t = absurd cc

pub settle_as_open : (life count : ℕ) (rows : List Taken) → settle life Open count rows ≡ rows
settle_as_open life zero rows = refl
settle_as_open life (suc count) [] = refl
settle_as_open life (suc count) (row ∷ rows) =
    elim (cases_Bool (is_open_in life row)) [
      | inl y ↦ rw y (ap (λ (r : Taken). r ∷ settle life Open count rows) (open_again row (and_parts _ _ y).0) ∙ ap (λ (xs : List Taken). row ∷ xs) (settle_as_open life count rows))
      | inr other ↦ rw other (ap (λ (xs : List Taken). row ∷ xs) (settle_as_open life (suc count) rows))
    ]

module _ (life : ℕ) (fate : Fate) (closed : is_open fate ≡ false) where
  -- the leftmost open row is settled first
  pub settle_more : (n count : ℕ) (rows : List Taken) (d : Taken) → n < length rows → is_open_in life (get_or rows n d) ≡ true → NoneBelow (is_open_in life) n rows → settle life fate (suc count) rows ≡ settle life fate count (set rows n (with_fate fate (get_or rows n d)))
  settle_more n count [] d l e h = absurd (omega arith)
  settle_more zero zero (row ∷ rows) d l e h = rw e refl
  settle_more zero (suc count) (row ∷ rows) d l e h = rw (e, closed_is_not_open fate closed life row) refl
  settle_more (suc n) zero (row ∷ rows) d l e h = rw (h.0) (ap (λ (xs : List Taken). row ∷ xs) (settle_more n zero rows d (omega arith) e h.1))
  settle_more (suc n) (suc count) (row ∷ rows) d l e h = rw (h.0) (ap (λ (xs : List Taken). row ∷ xs) (settle_more n (suc count) rows d (omega arith) e h.1))

-- where no row is open none is settled
pub settle_nowhere : (life : ℕ) (fate : Fate) (n count : ℕ) (rows : List Taken) → length rows ≤ n → NoneBelow (is_open_in life) n rows → settle life fate count rows ≡ rows
settle_nowhere life fate n zero rows l h = refl
settle_nowhere life fate n (suc count) [] l h = refl
settle_nowhere life fate zero (suc count) (row ∷ rows) l h = absurd (omega arith)
settle_nowhere life fate (suc n) (suc count) (row ∷ rows) l h = rw (h.0) (ap (λ (xs : List Taken). row ∷ xs) (settle_nowhere life fate n (suc count) rows (omega arith) h.1))

pub length-settle : (life : ℕ) (fate : Fate) (count : ℕ) (rows : List Taken) → length (settle life fate count rows) ≡ length rows
length-settle life fate zero rows = refl
length-settle life fate (suc count) [] = refl
length-settle life fate (suc count) (row ∷ rows) =
    elim (cases_Bool (is_open_in life row)) [
      | inl y ↦ rw y (ap suc (length-settle life fate count rows))
      | inr other ↦ rw other (ap suc (length-settle life fate (suc count) rows))
    ]

pub settle_step : (life : ℕ) (fate : Fate) (n left : ℕ) (rows : List Taken) (d y : Taken) (all : List Taken) → is_open fate ≡ false → n < length rows → 0 < left → y ≡ with_fate fate (get_or rows n d)
    → is_open_in life (get_or rows n d) ≡ true → NoneBelow (is_open_in life) n rows → settle life fate left rows ≡ all → settle life fate (left - 1) (set rows n y) ≡ all
settle_step life fate n left rows d y all closed l more changed here passed done =
    let count : left ≡ suc (left - 1) = omega arith in
    ap (λ (r : Taken). settle life fate (left - 1) (set rows n r)) changed
    ∙ sym (settle_more life fate closed n (left - 1) rows d l here passed)
    ∙ ap (λ (k : ℕ). settle life fate k rows) (sym count)
    ∙ done
