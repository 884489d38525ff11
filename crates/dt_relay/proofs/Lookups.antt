-- What tables of places tell.
use Rattle.std.proofs.Math.Seq.{map-set_same}
use Rattle.std.proofs.lemmas.List.{get_or-map, length-map}
use Rattle.std.proofs.Common.{◌≡◌, ℕ, zero, suc, ◌+◌, ◌<◌, ◌≤◌, ◌==◌, List, [], ◌∷◌, Bool, true, false, cond, Option, Some, None, get_or, length, refl, take, arith, if◌then◌else◌, add-zero, add-one, sym, ap, map, IfSome, slice_set, ◌∙◌, nat_eq}
use Rattle.std.proofs.lemmas.Bool.Decides.{nat_tests}
use Rattle.dt_world_model.specs.declared.links.InLink.{InLink}
use Rattle.dt_world_model.specs.declared.links.Route.{Route}
use Rattle.dt_world_model.specs.declared.links.OutLink.{OutLink}
use Rattle.dt_world_model.specs.Relay.{Out, charge_of, empty_out, route_to}
use Rattle.dt_relay.specs.Places.{AreFirsts, ArePlaces, TellsPlaces, link_in, link_of, place_from, place_of}
use Rattle.std.specs.HashMap.{HashMap, get}
use Rattle.std.specs.declared.hash.FoldHasher.{FoldHasher}
use Rattle.std.specs.declared.hash.BuildHasherDefault.{BuildHasherDefault}
use Rattle.dt_relay.proofs.Links.{place_after}

-- the first place that is told, if there are two
abbrev pub first_told : Option ℕ → Option ℕ → Option ℕ
first_told None b = b
first_told (Some a) b = Some a

-- one element more
module _ {A : Type 0} (key : A → ℕ) where
  more_step : (b c : Bool) (i j : ℕ) (rest more : Option ℕ) → more ≡ first_told rest (cond c (Some j) None) → cond b (Some i) more ≡ first_told (cond b (Some i) rest) (cond c (Some j) None)
  more_step true c i j rest more h = refl
  more_step false c i j rest more h = h

  more_from : (i k n : ℕ) (xs : List A) (x : A) → n < length xs → x ≡ get_or xs n x → place_from key i k (take (suc n) xs) ≡ first_told (place_from key i k (take n xs)) (if key x == k then Some (i + n) else None)
  more_from i k n [] x small is = absurd (omega arith)
  more_from i k zero (y ∷ ys) x small is = rw (is) (rw (add-zero) refl)
  more_from i k (suc n) (y ∷ ys) x small is =
      let e : i + 1 + n ≡ i + suc n = omega arith in
      let ih = more_from (i + 1) k n ys x (omega arith) is in
      more_step (key y == k) (key x == k) i (i + suc n) (place_from key (i + 1) k (take n ys)) (place_from key (i + 1) k (take (suc n) ys)) (rw e at ih)

  pub place_more : (k n : ℕ) (xs : List A) (x : A) → n < length xs → x ≡ get_or xs n x → place_of key k (take (n + 1) xs) ≡ first_told (place_of key k (take n xs)) (if key x == k then Some n else None)
  place_more k n xs x small is = let e : 0 + n ≡ n = omega arith in let h = more_from 0 k n xs x small is in rw add-one (rw e at h)

-- a place that is told is within the list
within_step : (b : Bool) (i j n : ℕ) (rest : Option ℕ) → (rest ≡ Some j → j < i + 1 + n) → cond b (Some i) rest ≡ Some j → j < i + suc n
within_step true i j n rest h e = let same : i ≡ j = cc in omega arith
within_step false i j n rest h e = let small : j < i + 1 + n = h e in omega arith

within_from : {A : Type 0} (key : A → ℕ) (i k j : ℕ) (xs : List A) → place_from key i k xs ≡ Some j → j < i + length xs
within_from key i k j [] h = absurd (cc)
within_from key i k j (x ∷ xs) h = within_step (key x == k) i j (length xs) (place_from key (i + 1) k xs) (within_from key (i + 1) k j xs) h

pub place_within : {A : Type 0} (key : A → ℕ) (k j : ℕ) (xs : List A) → Some j ≡ place_of key k xs → j < length xs
place_within key k j xs h = omega (arith, within_from key 0 k j xs (sym h))

-- A value that is looked up by going over the list is that of the element at the place that is told.
module _ {A B : Type 0} (key : A → ℕ) (value : A → B) where
  abbrev pub value_by : B → ℕ → List A → B
  value_by otherwise k [] = otherwise
  value_by otherwise k (x ∷ xs) = if key x == k then value x else value_by otherwise k xs

  at_step : (b : Bool) (i j n : ℕ) (rest : Option ℕ) (y x : A) (ys : List A) (found : B) → (rest ≡ Some j → i + 1 ≤ j) →
      ((m : ℕ) → j ≡ i + 1 + m → rest ≡ Some j → x ≡ get_or ys m x → found ≡ value x) →
      j ≡ i + n → cond b (Some i) rest ≡ Some j → x ≡ get_or (y ∷ ys) n x → cond b (value y) found ≡ value x
  at_step true i j zero rest y x ys found later ih e h is = ap value (sym is)
  at_step true i j (suc n) rest y x ys found later ih e h is = let same : i ≡ j = cc in absurd (omega arith)
  at_step false i j zero rest y x ys found later ih e h is = let after : i + 1 ≤ j = later h in absurd (omega arith)
  at_step false i j (suc n) rest y x ys found later ih e h is = ih n (omega arith) h is

  at_from : (otherwise : B) (i k j n : ℕ) (xs : List A) (x : A) → j ≡ i + n → place_from key i k xs ≡ Some j → x ≡ get_or xs n x → value_by otherwise k xs ≡ value x
  at_from otherwise i k j n [] x e h is = absurd (cc)
  at_from otherwise i k j n (y ∷ ys) x e h is =
      at_step (key y == k) i j n (place_from key (i + 1) k ys) y x ys (value_by otherwise k ys) (place_after key (i + 1) k j ys) (λ m. at_from otherwise (i + 1) k j m ys x) e h is

  pub value_at : (otherwise : B) (k n : ℕ) (xs : List A) (x : A) → Some n ≡ place_of key k xs → x ≡ get_or xs n x → value_by otherwise k xs ≡ value x
  value_at otherwise k n xs x h is = at_from otherwise 0 k n n xs x (omega arith) (sym h) is

  none_step : (b : Bool) (i : ℕ) (rest : Option ℕ) (v otherwise found : B) → (rest ≡ None → found ≡ otherwise) → cond b (Some i) rest ≡ None → cond b v found ≡ otherwise
  none_step true i rest v otherwise found ih h = absurd (cc)
  none_step false i rest v otherwise found ih h = ih h

  none_from : (otherwise : B) (i k : ℕ) (xs : List A) → place_from key i k xs ≡ None → value_by otherwise k xs ≡ otherwise
  none_from otherwise i k [] h = refl
  none_from otherwise i k (x ∷ xs) h = none_step (key x == k) i (place_from key (i + 1) k xs) (value x) otherwise (value_by otherwise k xs) (none_from otherwise (i + 1) k xs) h

  pub value_nowhere : (otherwise : B) (k : ℕ) (xs : List A) → None ≡ place_of key k xs → value_by otherwise k xs ≡ otherwise
  value_nowhere otherwise k xs h = none_from otherwise 0 k xs (sym h)

pub charge_by : (k : ℕ) (ins : List InLink) → charge_of k ins ≡ value_by (λ (i : InLink). i.link) (λ i. i.charge) 0 k ins
charge_by k [] = refl
charge_by k (i ∷ ins) = rw (charge_by k ins) refl

pub route_by : (k : ℕ) (routes : List Route) → route_to k routes ≡ value_by (λ (r : Route). r.to) (λ r. Some r.link) None k routes
route_by k [] = refl
route_by k (r ∷ routes) = rw (route_by k routes) refl

-- the places of links are those of their queues
place_mapped : (T : Type 0) (i k : ℕ) (outs : List OutLink) → place_from (link_of {T = T}) i k (map (λ (o : OutLink). empty_out o.link o.pace) outs) ≡ place_from (λ (o : OutLink). o.link) i k outs
place_mapped T i k [] = refl
place_mapped T i k (o ∷ outs) = rw (place_mapped T (i + 1) k outs) refl

pub tells_queues : {T : Type 0} (outs : List OutLink) (queues : List (Out T)) (table : HashMap ℕ ℕ (BuildHasherDefault FoldHasher)) → queues ≡ map (λ (o : OutLink). empty_out o.link o.pace) outs →
    TellsPlaces (λ (o : OutLink). o.link) outs table → TellsPlaces link_of queues table
tells_queues {T} outs queues table same tells = λ k. rw (same, place_mapped T 0 k outs) (tells k)

pub all_within : {A : Type 0} (key : A → ℕ) (k : ℕ) (told : Option ℕ) (xs : List A) → told ≡ place_of key k xs → IfSome told (λ i. i < length xs)
all_within key k None xs h = tt
all_within key k (Some j) xs h = place_within key k j xs h

-- an element that keeps its key keeps its place
pub place_set : {A : Type 0} (key : A → ℕ) (i k n : ℕ) (xs : List A) (x y : A) → x ≡ get_or xs n x → key y ≡ key x → place_from key i k (slice_set xs n y) ≡ place_from key i k xs
place_set key i k n [] x y is same = refl
place_set key i k zero (z ∷ zs) x y is same = let e : key y ≡ key z = same ∙ ap key is in rw e refl
place_set key i k (suc n) (z ∷ zs) x y is same = rw (place_set key (i + 1) k n zs x y is same) refl

pub tells_set : {A : Type 0} (key : A → ℕ) (n : ℕ) (xs : List A) (x y : A) (table : HashMap ℕ ℕ (BuildHasherDefault FoldHasher)) → x ≡ get_or xs n x → key y ≡ key x → TellsPlaces key xs table → TellsPlaces key (slice_set xs n y) table
tells_set key n xs x y table is same tells = λ k. rw (place_set key 0 k n xs x y is same) (tells k)

-- for each place the first of its link
module _ {T : Type 0} where
  places_set : (n : ℕ) (outs : List (Out T)) (x y : Out T) (links : List ℕ) → x ≡ get_or outs n x → link_of y ≡ link_of x →
      map (λ link. place_of link_of link (slice_set outs n y)) links ≡ map (λ link. place_of link_of link outs) links
  places_set n outs x y [] is same = refl
  places_set n outs x y (link ∷ links) is same = rw (place_set link_of 0 link n outs x y is same, places_set n outs x y links is same) refl

  pub firsts_set : (n : ℕ) (outs : List (Out T)) (x y : Out T) (firsts : List (Option ℕ)) → x ≡ get_or outs n x → link_of y ≡ link_of x → AreFirsts outs firsts → AreFirsts (slice_set outs n y) firsts
  firsts_set n outs x y firsts is same h =
      h ∙ sym (places_set n outs x y (map link_of outs) is same)
      ∙ ap (map (λ link. place_of link_of link (slice_set outs n y))) (sym (map-set_same link_of outs n y x (same ∙ ap link_of is)))

  -- an out link that keeps its number keeps all places
  pub stays_placed : {ins : List InLink} {routes : List Route} {out_places in_places route_places : HashMap ℕ ℕ (BuildHasherDefault FoldHasher)} {firsts : List (Option ℕ)} (n : ℕ) (outs : List (Out T)) (x y : Out T)
      → x ≡ get_or outs n x → link_of y ≡ link_of x → ArePlaces outs ins routes out_places in_places route_places firsts → ArePlaces (slice_set outs n y) ins routes out_places in_places route_places firsts
  stays_placed {ins} {routes} {out_places} {in_places} {route_places} {firsts} n outs x y is same h = record {
    by_out_link = tells_set link_of n outs x y out_places is same h.by_out_link;
    by_in_link = h.by_in_link;
    by_node = h.by_node;
    by_place = firsts_set n outs x y firsts is same h.by_place;
  }

  told_firsts : (outs : List OutLink) (queues : List (Out T)) (table : HashMap ℕ ℕ (BuildHasherDefault FoldHasher)) → TellsPlaces link_of queues table →
      map (λ (o : OutLink). get nat_eq table o.link) outs ≡ map (λ link. place_of link_of link queues) (map link_of (map (λ (o : OutLink). empty_out {T = T} o.link o.pace) outs))
  told_firsts [] queues table tells = refl
  told_firsts (o ∷ outs) queues table tells = rw (tells o.link, told_firsts outs queues table tells) refl

  pub firsts_queues : (outs : List OutLink) (queues : List (Out T)) (firsts : List (Option ℕ)) (table : HashMap ℕ ℕ (BuildHasherDefault FoldHasher)) → queues ≡ map (λ (o : OutLink). empty_out o.link o.pace) outs →
      TellsPlaces link_of queues table → firsts ≡ map (λ (o : OutLink). get nat_eq table o.link) outs → AreFirsts queues firsts
  firsts_queues outs queues firsts table same tells h =
      h ∙ told_firsts outs queues table tells ∙ ap (λ (qs : List (Out T)). map (λ link. place_of link_of link queues) (map link_of qs)) (sym same)

  pub first_at : (outs : List (Out T)) (firsts : List (Option ℕ)) (place : ℕ) (told : Option ℕ) → AreFirsts outs firsts → place < length outs → told ≡ get_or firsts place told →
      told ≡ place_of link_of (link_in outs place) outs
  first_at outs firsts place told h small is =
      is ∙ ap (λ (fs : List (Option ℕ)). get_or fs place told) h
      ∙ get_or-map (λ (link : ℕ). place_of link_of link outs) (map link_of outs) place 0 told (rw (length-map outs link_of) small)

-- an element at the place that is told has the key
module _ {A : Type 0} (key : A → ℕ) where
  found_step : (b : Bool) (i k j n : ℕ) (rest : Option ℕ) (y x : A) (ys : List A) → (key y == k) ≡ b → (rest ≡ Some j → i + 1 ≤ j) →
      ((m : ℕ) → j ≡ i + 1 + m → rest ≡ Some j → x ≡ get_or ys m x → key x ≡ k) →
      j ≡ i + n → cond b (Some i) rest ≡ Some j → x ≡ get_or (y ∷ ys) n x → key x ≡ k
  found_step true i k j zero rest y x ys test later ih e h is = let same : key y ≡ k = grind (arith, nat_tests) in ap key is ∙ same
  found_step true i k j (suc n) rest y x ys test later ih e h is = let same : i ≡ j = cc in absurd (omega arith)
  found_step false i k j zero rest y x ys test later ih e h is = let after : i + 1 ≤ j = later h in absurd (omega arith)
  found_step false i k j (suc n) rest y x ys test later ih e h is = ih n (omega arith) h is

  found_from : (i k j n : ℕ) (xs : List A) (x : A) → j ≡ i + n → place_from key i k xs ≡ Some j → x ≡ get_or xs n x → key x ≡ k
  found_from i k j n [] x e h is = absurd (cc)
  found_from i k j n (y ∷ ys) x e h is = found_step (key y == k) i k j n (place_from key (i + 1) k ys) y x ys refl (place_after key (i + 1) k j ys) (λ m. found_from (i + 1) k j m ys x) e h is

  pub found_key : (k n : ℕ) (xs : List A) (x : A) → Some n ≡ place_of key k xs → x ≡ get_or xs n x → key x ≡ k
  found_key k n xs x h is = found_from 0 k n n xs x (omega arith) (sym h) is

-- a link stands at the place that is told of it
module _ {T : Type 0} where
  link_step : (b : Bool) (i k j n : ℕ) (rest : Option ℕ) (o : Out T) (outs : List (Out T)) → (link_of o == k) ≡ b → (rest ≡ Some j → i + 1 ≤ j) →
      ((m : ℕ) → j ≡ i + 1 + m → rest ≡ Some j → link_in outs m ≡ k) →
      j ≡ i + n → cond b (Some i) rest ≡ Some j → link_in (o ∷ outs) n ≡ k
  link_step true i k j zero rest o outs test later ih e h = let same : link_of o ≡ k = grind (arith, nat_tests) in same
  link_step true i k j (suc n) rest o outs test later ih e h = let same : i ≡ j = cc in absurd (omega arith)
  link_step false i k j zero rest o outs test later ih e h = let after : i + 1 ≤ j = later h in absurd (omega arith)
  link_step false i k j (suc n) rest o outs test later ih e h = ih n (omega arith) h

  link_from : (i k j n : ℕ) (outs : List (Out T)) → j ≡ i + n → place_from link_of i k outs ≡ Some j → link_in outs n ≡ k
  link_from i k j n [] e h = absurd (cc)
  link_from i k j n (o ∷ outs) e h = link_step (link_of o == k) i k j n (place_from link_of (i + 1) k outs) o outs refl (place_after link_of (i + 1) k j outs) (λ m. link_from (i + 1) k j m outs) e h

  pub link_found : (link place : ℕ) (outs : List (Out T)) → Some place ≡ place_of link_of link outs → link_in outs place ≡ link
  link_found link place outs h = link_from 0 link place place outs (omega arith) (sym h)
