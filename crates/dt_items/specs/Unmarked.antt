-- Items without marks, and how many of them stand before the first that has one.
use Rattle.std.specs.Prelude.{ℕ, suc, Bool, not, ◌||◌, if◌then◌else◌, List, [], ◌∷◌}
use Rattle.dt_items.specs.declared.item.Item.{Item}

abbrev pub is_unmarked : Item → Bool
is_unmarked item = not (item.end || (item.begin || item.run))

abbrev pub unmarked_count : List Item → ℕ
unmarked_count [] = 0
unmarked_count (item ∷ items) = if is_unmarked item then suc (unmarked_count items) else 0
