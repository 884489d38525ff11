-- Messages side by side, as the items that a flow took.
use Rattle.std.specs.Prelude.{ℕ, suc, ◌<◌, ◌≡◌, Bool, true, false, List, [], ◌∷◌, ◌++◌, drop, length, take}
use Rattle.std.proofs.Math.ListN.{get_or}
use Rattle.dt_items.specs.declared.item.Item.{Item}
use Rattle.dt_items.specs.Unread.{marked}
use Rattle.dt_flow_model.specs.Ledger.{no_item}

-- a message begins with its first octet and ends with its last
abbrev pub items_of_all : List (List ℕ) → List Item
items_of_all [] = []
items_of_all (m ∷ ms) = marked m true true false ++ items_of_all ms

abbrev pub AreSome : List (List ℕ) → Type 0
AreSome [] = Unit {0}
AreSome (m ∷ ms) = (0 < length m) × AreSome ms

-- whether items begin with a begin mark, and whether the item at a place has an end mark
abbrev pub begins_with : List Item → Bool
begins_with [] = false
begins_with (i ∷ is) = i.begin

abbrev pub ends_at : ℕ → List Item → Bool
ends_at k items = (get_or items k no_item).end

-- THE ITEMS from a begin mark to the next end mark are one message, and the messages before it are those before its place.
pub record IsOneMessage (ms : List (List ℕ)) (place k : ℕ) : Type 0 where
  pub before : List (List ℕ)
  pub message : List ℕ
  pub behind : List (List ℕ)
  pub all : ms ≡ before ++ message ∷ behind
  pub starts : place ≡ length (items_of_all before)
  pub count : suc k ≡ length message
  pub items : take (suc k) (drop place (items_of_all ms)) ≡ marked message true true false
