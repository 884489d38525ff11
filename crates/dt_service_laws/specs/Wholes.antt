-- Whole messages in octets with their marks.
use Rattle.std.specs.Prelude.{List, [], ◌∷◌, ◌++◌, ℕ, Option, Some, None}
use Rattle.dt_items.specs.declared.item.Item.{Item}
use Rattle.dt_calls_model.specs.Messages.{Piece, begun_with, whole_with}

-- an octet as a piece of its own
abbrev pub piece_at : Item → Piece
piece_at i = record { run = i.run; begin = i.begin; end = i.end; octets = i.octet ∷ [] }

abbrev pub listed : {A : Type 0} → Option A → List A
listed None = []
listed (Some a) = a ∷ []

-- THE MESSAGES that octets make whole, by the definition of messages, one octet after the other: from a begin mark to the next end mark, with no run mark in between
abbrev pub messages_from : (begun : Option (List ℕ)) → List Item → List (List ℕ)
messages_from begun [] = []
messages_from begun (i ∷ items) = listed (whole_with begun (piece_at i)) ++ messages_from (begun_with begun (piece_at i)) items

abbrev pub messages_in : List Item → List (List ℕ)
messages_in items = messages_from None items

-- what waits after them
abbrev pub begun_after : (begun : Option (List ℕ)) → List Item → Option (List ℕ)
begun_after begun [] = begun
begun_after begun (i ∷ items) = begun_after (begun_with begun (piece_at i)) items
