-- The items of segments, one after another.
use Rattle.std.specs.Prelude.{List, [], ◌∷◌, ◌++◌}
use Rattle.dt_items.specs.declared.item.Item.{Item}
use Rattle.dt_flow_model.specs.SendRecord.{Segment}

abbrev pub outstanding_items : List Segment → List Item
outstanding_items [] = []
outstanding_items (g ∷ gs) = g.items ++ outstanding_items gs
