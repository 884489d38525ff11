-- The counts of fates are those of the rows, whatever changes.
use Rattle.std.proofs.Common.{ℕ, zero, suc, ◌≡◌, ◌+◌, ◌<◌, true, List, [], ◌∷◌, ◌++◌, length, map, get_or, None, refl, sym, ap, subst, ◌∙◌, arith}
use Rattle.std.proofs.Math.ListN.{set}
use Rattle.dt_items.specs.declared.item.Item.{Item}
use Rattle.dt_flow_model.specs.declared.rows.Fate.{Fate}
use Rattle.dt_flow_model.specs.declared.rows.Fate.TheVariants.{Open, Acked, Uncertain}
use Rattle.dt_flow_model.specs.declared.rows.Taken.{Taken}
use Rattle.dt_flow_model.specs.Ledger.{is_open, open_row}
use Rattle.dt_ledger.specs.declared.fate_counts.FateCounts.{FateCounts}
use Rattle.dt_ledger.specs.Rows.{and_one, change_at, count_of, fates_in, with_fate}

abbrev pub all_of : FateCounts → ℕ
all_of counts = counts.unsettled + counts.acked + counts.uncertain

either_order : (f g : Fate) (counts : FateCounts) → and_one f (and_one g counts) ≡ and_one g (and_one f counts)
either_order Open Open counts = refl
either_order Open Acked counts = refl
either_order Open Uncertain counts = refl
either_order Acked Open counts = refl
either_order Acked Acked counts = refl
either_order Acked Uncertain counts = refl
either_order Uncertain Open counts = refl
either_order Uncertain Acked counts = refl
either_order Uncertain Uncertain counts = refl

one_more : (f : Fate) (counts : FateCounts) → all_of (and_one f counts) ≡ suc (all_of counts)
one_more Open counts = omega arith
one_more Acked counts = omega arith
one_more Uncertain counts = omega arith

-- each row is counted once
pub all-fates_in : (rows : List Taken) → all_of (fates_in rows) ≡ length rows
all-fates_in [] = refl
all-fates_in (row ∷ rows) = one_more row.fate (fates_in rows) ∙ ap suc (all-fates_in rows)

pub some_of : (f : Fate) (counts : FateCounts) → 0 < count_of f (and_one f counts)
some_of Open counts = omega arith
some_of Acked counts = omega arith
some_of Uncertain counts = omega arith

-- the counts of rows of which one is taken out
pub rest_of : ℕ → List Taken → FateCounts
rest_of place [] = fates_in []
rest_of zero (row ∷ rows) = fates_in rows
rest_of (suc place) (row ∷ rows) = and_one row.fate (rest_of place rows)

pub fates-with : (rows : List Taken) (place : ℕ) (d : Taken) → place < length rows → fates_in rows ≡ and_one (get_or rows place d).fate (rest_of place rows)
unfolding rest_of
fates-with [] place d h = absurd (omega arith)
fates-with (row ∷ rows) zero d h = refl
fates-with (row ∷ rows) (suc place) d h =
    ap (and_one row.fate) (fates-with rows place d (omega arith)) ∙ either_order row.fate (get_or rows place d).fate (rest_of place rows)

pub fates-set : (rows : List Taken) (place : ℕ) (x : Taken) → place < length rows → fates_in (set rows place x) ≡ and_one x.fate (rest_of place rows)
unfolding rest_of
fates-set [] place x h = absurd (omega arith)
fates-set (row ∷ rows) zero x h = refl
fates-set (row ∷ rows) (suc place) x h =
    ap (and_one row.fate) (fates-set rows place x (omega arith)) ∙ either_order row.fate x.fate (rest_of place rows)

-- a change of rows that keeps the fates keeps their counts
pub fates-change_at : (change : Taken → Taken) → ((row : Taken) → (change row).fate ≡ row.fate) → (place count : ℕ) (rows : List Taken) → fates_in (change_at change place count rows) ≡ fates_in rows
fates-change_at change keeps place count [] = refl
fates-change_at change keeps zero zero (row ∷ rows) = refl
fates-change_at change keeps zero (suc count) (row ∷ rows) = rw (keeps row) (ap (and_one row.fate) (fates-change_at change keeps zero count rows))
fates-change_at change keeps (suc place) count (row ∷ rows) = ap (and_one row.fate) (fates-change_at change keeps place count rows)

abbrev pub more_open : ℕ → FateCounts → FateCounts
more_open count counts = record counts { unsettled = counts.unsettled + count }

open_first : (f : Fate) (count : ℕ) (counts : FateCounts) → and_one f (more_open count counts) ≡ more_open count (and_one f counts)
open_first Open count counts = ap (λ n. record counts { unsettled = n }) (omega arith)
open_first Acked count counts = refl
open_first Uncertain count counts = refl

fates-opened : (life : ℕ) (items : List Item) → fates_in (map (open_row life None) items) ≡ more_open (length items) (fates_in [])
fates-opened life [] = refl
fates-opened life (item ∷ items) = ap (and_one Open) (fates-opened life items) ∙ ap (λ n. record (fates_in []) { unsettled = n }) (omega arith)

-- octets that are taken are open
pub fates-take_rows : (life : ℕ) (items : List Item) (rows : List Taken) → fates_in (rows ++ map (open_row life None) items) ≡ more_open (length items) (fates_in rows)
fates-take_rows life items [] = fates-opened life items
fates-take_rows life items (row ∷ rows) = ap (and_one row.fate) (fates-take_rows life items rows) ∙ open_first row.fate (length items) (fates_in rows)

pub open_fate : (f : Fate) → is_open f ≡ true → f ≡ Open
open_fate Open h = refl
open_fate Acked h = absurd cc
open_fate Uncertain h = absurd cc

-- the fate of a row is counted, and once it is another the counts are those of the rows again
module _ (rows : List Taken) (place : ℕ) (d : Taken) (there : place < length rows) (counts : FateCounts) (counted : counts ≡ fates_in rows) where
  pub counts-with : counts ≡ and_one (get_or rows place d).fate (rest_of place rows)
  counts-with = counted ∙ fates-with rows place d there

  pub counts_some : 0 < count_of (get_or rows place d).fate counts
  counts_some = subst (λ (c : FateCounts). 0 < count_of (get_or rows place d).fate c) (sym counts-with) (some_of (get_or rows place d).fate (rest_of place rows))

  pub counts_again : (y : Taken) (fate : Fate) (after : FateCounts) → y ≡ with_fate fate (get_or rows place d) → after ≡ and_one fate (rest_of place rows) → after ≡ fates_in (set rows place y)
  counts_again y fate after changed one = one ∙ ap (λ (r : Taken). and_one r.fate (rest_of place rows)) (sym changed) ∙ sym (fates-set rows place y there)

pub all_counts : (counts : FateCounts) (rows : List Taken) → counts ≡ fates_in rows → all_of counts ≡ length rows
all_counts counts rows e = ap all_of e ∙ all-fates_in rows
