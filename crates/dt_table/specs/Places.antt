-- Places: each is empty or taken. In the order of their making records stand in later and later places, and where one goes its place is left empty.
use Rattle.std.specs.Prelude.{ℕ, suc, ◌≡◌, ◌==◌, ◌&&◌, Bool, false, if◌then◌else◌, List, [], ◌∷◌, length, option_map, slice_index_or, Option, Some, None}
use Rattle.std.specs.Map.{lookup}
use Rattle.dt_units.specs.declared.endpoints.Flow.{Flow}
use Rattle.dt_world_model.specs.Tables.{same_flow}

-- what stands in a place, and nothing beyond the last
abbrev pub slot : {A : Type 0} → List (Option A) → ℕ → Option A
slot slots i = slice_index_or slots i None

-- all that stand, in the order of their places
abbrev pub present : {A : Type 0} → List (Option A) → List A
present [] = []
present (None ∷ slots) = present slots
present (Some a ∷ slots) = a ∷ present slots

abbrev pub is_of : Flow → Option Flow → Bool
is_of f None = false
is_of f (Some g) = same_flow g f

-- the place of a flow
abbrev pub place_in : Flow → List (Option Flow) → Option ℕ
place_in f [] = None
place_in f (o ∷ flows) = if is_of f o then Some 0 else option_map suc (place_in f flows)

-- each flow stands in one place
abbrev pub StandOnce : List (Option Flow) → Type 0
StandOnce flows = (i : ℕ) (f : Flow) → slot flows i ≡ Some f → place_in f flows ≡ Some i

-- the equality of flows as it is derived
abbrev pub equal_flows : Flow → Flow → Bool
equal_flows f g = (f.from.0 == g.from.0) && ((f.from_port == g.from_port) && ((f.to.0 == g.to.0) && (f.to_port == g.to_port)))

-- A map tells the place of each flow.
pub record AreIndexed (index : List (Flow × ℕ)) (flows : List (Option Flow)) : Type 0 where
  pub found : (f : Flow) → lookup (equal_flows f) index ≡ place_in f flows
  pub once : StandOnce flows
  pub counted : length index ≡ length (present flows)
