-- Where in a list the first stands that has a key, and tables that tell it.
use Rattle.std.specs.Prelude.{◌≡◌, ℕ, ◌+◌, ◌==◌, nat_eq, List, [], ◌∷◌, Option, Some, None, if◌then◌else◌, map, slice_index}
use Rattle.std.specs.HashMap.{get, HashMap}
use Rattle.std.specs.declared.hash.FoldHasher.{FoldHasher}
use Rattle.std.specs.declared.hash.BuildHasherDefault.{BuildHasherDefault}
use Rattle.dt_world_model.specs.declared.links.InLink.{InLink}
use Rattle.dt_world_model.specs.declared.links.Route.{Route}
use Rattle.dt_world_model.specs.Relay.{Out}

module _ {A : Type 0} (key : A → ℕ) where
  -- counted from i
  abbrev pub place_from : ℕ → ℕ → List A → Option ℕ
  place_from i k [] = None
  place_from i k (x ∷ xs) = if key x == k then Some i else place_from (i + 1) k xs

  abbrev pub place_of : ℕ → List A → Option ℕ
  place_of k xs = place_from 0 k xs

  -- The table tells for each key where the first of the list stands that has it.
  abbrev pub TellsPlaces : List A → HashMap ℕ ℕ (BuildHasherDefault FoldHasher) → Type 0
  TellsPlaces xs table = (k : ℕ) → get nat_eq table k ≡ place_of k xs

abbrev pub link_of : {T : Type 0} → Out T → ℕ
link_of out = out.link

-- the number of the link at a place
abbrev pub link_in : {T : Type 0} → List (Out T) → ℕ → ℕ
link_in outs place = slice_index (map link_of outs) place

-- The list tells for each link where the first stands that has its number.
abbrev pub AreFirsts : {T : Type 0} → List (Out T) → List (Option ℕ) → Type 0
AreFirsts outs firsts = firsts ≡ map (λ link. place_of link_of link outs) (map link_of outs)

-- The tables of a relay tell where its out links, in links and routes stand.
pub record ArePlaces {T : Type 0} (outs : List (Out T)) (ins : List InLink) (routes : List Route) (out_places in_places route_places : HashMap ℕ ℕ (BuildHasherDefault FoldHasher)) (firsts : List (Option ℕ)) : Type 0 where
  pub by_out_link : TellsPlaces link_of outs out_places
  pub by_in_link : TellsPlaces (λ link_in. link_in.link) ins in_places
  pub by_node : TellsPlaces (λ route. route.to) routes route_places
  pub by_place : AreFirsts outs firsts
