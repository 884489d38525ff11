-- What a read tells of the items that it takes.
use Rattle.std.specs.Prelude.{List, [], ◌∷◌, Option, Some, None}
use Rattle.dt_items.specs.declared.item.Item.{Item}
use Rattle.dt_items.specs.Unread.{last_item, octets_of}
use Rattle.dt_calls_model.specs.Messages.{Piece}

-- nothing of none; and of some their octets, the marks run and begin of the first and the mark end of the last
abbrev pub piece_of : List Item → Option Piece
piece_of [] = None
piece_of (first ∷ rest) = Some (record { run = first.run; begin = first.begin; end = (last_item first rest).end; octets = octets_of (first ∷ rest) })
