-- A table that is covered keeps its rule, and one that keeps its rule is covered.
use Rattle.std.proofs.Common.{◌≡◌, ℕ, zero, suc, ◌+◌, ◌<◌, ◌≤◌, inl, inr, Bool, true, false, ◌&&◌, ◌==◌, List, count_by, refl, ap, ◌∙◌, eq-eqb, arith}
use Rattle.std.specs.List.{list_all, range_with_len}
use Rattle.std.proofs.lemmas.Bool.{eqb-true, cases_eq}
use Rattle.dt_cases.specs.declared.rows.Row.{Row}
use Rattle.dt_cases.specs.Tables.{meets, EachMeetsOne, is_covered}

both : (a b : Bool) → (a && b) ≡ true → (a ≡ true) × (b ≡ true)
both true b h = (refl, h)
both false b h = cc

from_both : (a b : Bool) → a ≡ true → b ≡ true → (a && b) ≡ true
from_both true b h k = k
from_both false b h k = cc

-- a test that passes at each of n numbers passes at one of them
at_one : (p : ℕ → Bool) (from n : ℕ) → list_all p (range_with_len from n) ≡ true → (k : ℕ) → from ≤ k → k < from + n → p k ≡ true
at_one p from zero h k low high = absurd (omega arith)
at_one p from (suc n) h k low high =
    let parts = both (p from) (list_all p (range_with_len (from + 1) n)) h in
    elim (cases_eq k from) [
      | inl e ↦ ap p e ∙ parts.0
      | inr apart ↦ at_one p (from + 1) n parts.1 k (omega arith) (omega arith)
    ]

-- a test that passes at each of n numbers passes at all of them
at_all : (p : ℕ → Bool) (from n : ℕ) → ((k : ℕ) → from ≤ k → k < from + n → p k ≡ true) → list_all p (range_with_len from n) ≡ true
at_all p from zero h = refl
at_all p from (suc n) h =
    from_both (p from) _ (h from (omega arith) (omega arith)) (at_all p (from + 1) n (λ k low high. h k (omega arith) (omega arith)))

-- A table's rule is proved once: in a table that is covered, each key meets exactly one row.
pub each_from_covered : (rows : List Row) (keys : ℕ) → is_covered rows keys ≡ true → EachMeetsOne rows keys
unfolding is_covered
each_from_covered rows keys h =
    λ key below. eqb-true _ _ (at_one (λ k. count_by (meets k) rows == 1) 0 keys h key (omega arith) (omega arith))

-- and where each key meets exactly one row, the table is covered
pub covered_from_each : (rows : List Row) (keys : ℕ) → EachMeetsOne rows keys → is_covered rows keys ≡ true
unfolding is_covered
covered_from_each rows keys h = at_all _ 0 keys (λ key _ below. eq-eqb _ _ (h key (omega arith)))
