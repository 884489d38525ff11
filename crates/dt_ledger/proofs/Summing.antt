-- The totals are the counts that are kept.
use Rattle.std.proofs.Common.{ℕ, ◌≡◌, ◌+◌, List, [], ◌∷◌, length, fold, add-zero, zero-add, refl, sym, ap, ◌∙◌, arith}
use Rattle.dt_reports.specs.declared.flow_totals.Totals.{Totals}
use Rattle.dt_flow_model.specs.declared.rows.Fate.{Fate}
use Rattle.dt_flow_model.specs.declared.rows.Fate.TheVariants.{Open, Acked, Uncertain}
use Rattle.dt_flow_model.specs.declared.rows.Taken.{Taken}
use Rattle.dt_world_model.specs.Ledgers.{FlowLedger, and_fate, totals_begun, totals_of}
use Rattle.dt_ledger.specs.declared.fate_counts.FateCounts.{FateCounts}
use Rattle.dt_ledger.specs.Reads.{read_of_all}
use Rattle.dt_ledger.specs.Rows.{and_one, fates_in}

abbrev plus : Totals → FateCounts → Totals
plus t counts = record t { unsettled = t.unsettled + counts.unsettled; acked = t.acked + counts.acked; uncertain = t.uncertain + counts.uncertain }

plus_none : (t : Totals) → t ≡ plus t (fates_in [])
plus_none t = rw (add-zero t.unsettled, add-zero t.acked, add-zero t.uncertain) refl

plus_one : (f : Fate) (t : Totals) (counts : FateCounts) → plus (and_fate f t) counts ≡ plus t (and_one f counts)
plus_one Open t counts = ap (λ (n : ℕ). record (plus t counts) { unsettled = n }) (omega arith)
plus_one Acked t counts = ap (λ (n : ℕ). record (plus t counts) { acked = n }) (omega arith)
plus_one Uncertain t counts = ap (λ (n : ℕ). record (plus t counts) { uncertain = n }) (omega arith)

fold-and_fate : (rows : List Taken) (t : Totals) → fold (λ t row. and_fate row.fate t) t rows ≡ plus t (fates_in rows)
fold-and_fate [] t = plus_none t
fold-and_fate (row ∷ rows) t = fold-and_fate rows (and_fate row.fate t) ∙ plus_one row.fate t (fates_in rows)

pub totals_are : (l : FlowLedger) (counts : FateCounts) (taken given read : ℕ) → counts ≡ fates_in l.taken → taken ≡ length l.taken → given ≡ length l.given → read ≡ read_of_all l.reads
    → record { taken = taken; acked = counts.acked; uncertain = counts.uncertain; unsettled = counts.unsettled; given = given; read = read } ≡ totals_of l
totals_are l counts taken given read a b c d =
    let sums : totals_of l ≡ plus (totals_begun l) (fates_in l.taken) = fold-and_fate l.taken (totals_begun l) in
    rw (a, b, c, d)
    (sym (sums ∙ rw (zero-add (fates_in l.taken).unsettled, zero-add (fates_in l.taken).acked, zero-add (fates_in l.taken).uncertain) refl))
