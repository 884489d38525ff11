-- Which rows of a table a key meets, and the rule that a table keeps.
use Rattle.std.specs.Prelude.{ℕ, ◌<◌, ◌≡◌, ◌==◌, Bool, bit_and, List, map, filter, count_by}
use Rattle.std.specs.List.{list_all, range_with_len}
use Rattle.dt_cases.specs.declared.rows.Row.{Row}

-- A row meets a key where the key's bits under the row's mask are the row's value.
abbrev pub meets : ℕ → Row → Bool
meets key row = bit_and key row.mask == row.value

-- the actions of the rows that the key meets, in the table's order
abbrev pub actions_at : List Row → ℕ → List ℕ
actions_at rows key = map (λ row. row.action) (filter (meets key) rows)

-- The key meets exactly one row.
abbrev pub MeetsOne : List Row → ℕ → Type 0
MeetsOne rows key = count_by (meets key) rows ≡ 1

-- The table's rule: each key below the number meets exactly one row.
abbrev pub EachMeetsOne : List Row → ℕ → Type 0
EachMeetsOne rows keys = (key : ℕ) → key < keys → MeetsOne rows key

-- the same rule as a test, which computes at a table that is written out
unfoldable pub is_covered : List Row → ℕ → Bool
is_covered rows keys = list_all (λ key. count_by (meets key) rows == 1) (range_with_len 0 keys)
