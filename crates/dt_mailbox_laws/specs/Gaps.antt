-- Pieces that go on a joiner with nothing left out, and octets that nothing was left out of.
use Rattle.std.specs.Prelude.{◌≡◌, false, List, [], ◌∷◌, ◌++◌, map}
use Rattle.dt_items.specs.declared.item.Item.{Item}
use Rattle.dt_calls_model.specs.Messages.{Piece}
use Rattle.dt_flow_model.specs.Ledger.{plain}
use Rattle.dt_messages.specs.Joining.{JoinerValue, joiner_after, outgrows}

-- No piece has a run mark, and with none a message outgrew the longest.
abbrev pub NoneLost : JoinerValue → List Piece → Type 0
NoneLost j [] = Unit {0}
NoneLost j (p ∷ pieces) = (p.run ≡ false) × (outgrows j.longest j.begun p ≡ false) × NoneLost (joiner_after j p) pieces

-- In what was sent these octets follow that one directly.
pub record FollowDirectly (last : Item) (since taken : List Item) : Type 0 where
  pub earlier : List Item
  pub later : List Item
  pub split : taken ≡ earlier ++ plain last ∷ (map plain since ++ later)
