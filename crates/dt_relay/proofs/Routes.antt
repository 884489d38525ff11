-- One route more, after the others.
use Rattle.std.proofs.Common.{◌≡◌, ◌≢◌, ◌∙◌, ℕ, suc, ◌+◌, ◌==◌, ◌++◌, List, [], ◌∷◌, Bool, true, false, cond, Option, Some, None, inl, inr, length, refl, sym, subst, ap, arith, nat_eq}
use Rattle.std.proofs.lemmas.Bool.{cases_Bool}
use Rattle.std.proofs.lemmas.Bool.Decides.{nat_tests}
use Rattle.std.specs.HashMap.{HashMap, get}
use Rattle.std.specs.declared.hash.FoldHasher.{FoldHasher}
use Rattle.std.specs.declared.hash.BuildHasherDefault.{BuildHasherDefault}
use Rattle.dt_world_model.specs.declared.links.Route.{Route}
use Rattle.dt_world_model.specs.Relay.{route_to}
use Rattle.dt_relay.specs.Places.{TellsPlaces, place_from, place_of}
use Rattle.dt_relay.proofs.Lookups.{first_told}

abbrev Table : Type 0
Table = HashMap ℕ ℕ (BuildHasherDefault FoldHasher)

module _ {A : Type 0} (key : A → ℕ) where
  behind_step : (b : Bool) (i : ℕ) (rest more last : Option ℕ) → more ≡ first_told rest last → cond b (Some i) more ≡ first_told (cond b (Some i) rest) last
  behind_step true i rest more last h = refl
  behind_step false i rest more last h = h

  behind_from : (i k : ℕ) (xs : List A) (x : A) → place_from key i k (xs ++ x ∷ []) ≡ first_told (place_from key i k xs) (cond (key x == k) (Some (i + length xs)) None)
  behind_from i k [] x = let e : i + 0 ≡ i = omega arith in rw e refl
  behind_from i k (y ∷ ys) x =
      let e : i + 1 + length ys ≡ i + suc (length ys) = omega arith in
      let last = cond (key x == k) (Some (i + suc (length ys))) None in
      behind_step (key y == k) i (place_from key (i + 1) k ys) (place_from key (i + 1) k (ys ++ x ∷ [])) last (rw e at (behind_from (i + 1) k ys x))

  alone : (told : Option ℕ) → told ≡ first_told told None
  alone None = refl
  alone (Some n) = refl

  pub tells_more : (n : ℕ) (xs : List A) (x : A) (table more : Table) → n ≡ length xs → place_of key (key x) xs ≡ None → TellsPlaces key xs table →
      ((k : ℕ) → get nat_eq more k ≡ cond (key x == k) (Some n) (get nat_eq table k)) → TellsPlaces key (xs ++ x ∷ []) more
  tells_more n xs x table more size fresh tells updated k =
      let none_before : 0 + length xs ≡ length xs = omega arith in
      let at_end = behind_from 0 k xs x in
      let behind : place_of key k (xs ++ x ∷ []) ≡ first_told (place_of key k xs) (cond (key x == k) (Some n) None) = rw size (rw none_before at at_end) in
      elim (cases_Bool (key x == k)) [
        | inl y ↦
            let same : key x ≡ k = grind (arith, nat_tests, y) in
            let none : place_of key k xs ≡ None = subst (λ (m : ℕ). place_of key m xs ≡ None) same fresh in
            updated k ∙ ap (λ b. cond b (Some n) (get nat_eq table k)) y ∙ sym (behind ∙ ap (λ p. first_told p (cond (key x == k) (Some n) None)) none ∙ ap (λ b. cond b (Some n) None) y)
        | inr o ↦ updated k ∙ ap (λ b. cond b (Some n) (get nat_eq table k)) o ∙ tells k ∙ alone (place_of key k xs) ∙ sym (behind ∙ ap (λ b. first_told (place_of key k xs) (cond b (Some n) None)) o)
      ]

-- a node that no route names stands at no place
unnamed_step : (b : Bool) (i link : ℕ) (rest : Option ℕ) (found : Option ℕ) → (found ≡ None → rest ≡ None) → cond b (Some link) found ≡ None → cond b (Some i) rest ≡ None
unnamed_step true i link rest found ih h = absurd (cc)
unnamed_step false i link rest found ih h = ih h

unnamed_from : (i to : ℕ) (routes : List Route) → route_to to routes ≡ None → place_from (λ (r : Route). r.to) i to routes ≡ None
unnamed_from i to [] h = refl
unnamed_from i to (r ∷ routes) h = unnamed_step (r.to == to) i r.link (place_from (λ (s : Route). s.to) (i + 1) to routes) (route_to to routes) (unnamed_from (i + 1) to routes) h

pub unnamed : (to : ℕ) (routes : List Route) → route_to to routes ≡ None → place_of (λ (r : Route). r.to) to routes ≡ None
unnamed to routes h = unnamed_from 0 to routes h

-- where packets go with one route more
leads_step : (b : Bool) (link : ℕ) (rest more last : Option ℕ) → (rest ≡ None → more ≡ last) → cond b (Some link) rest ≡ None → cond b (Some link) more ≡ last
leads_step true link rest more last ih h = absurd (cc)
leads_step false link rest more last ih h = ih h

pub leads : (route : Route) (routes : List Route) → route_to route.to routes ≡ None → route_to route.to (routes ++ route ∷ []) ≡ Some route.link
leads route [] h = let same : (route.to == route.to) ≡ true = grind (arith, nat_tests) in rw same refl
leads route (r ∷ routes) h = leads_step (r.to == route.to) r.link (route_to route.to routes) (route_to route.to (routes ++ route ∷ [])) (Some route.link) (leads route routes) h

pub leads_others : (route : Route) (routes : List Route) (to : ℕ) → to ≢ route.to → route_to to (routes ++ route ∷ []) ≡ route_to to routes
leads_others route [] to other = let no : (route.to == to) ≡ false = grind (arith, nat_tests, other) in rw no refl
leads_others route (r ∷ routes) to other = ap (λ (rest : Option ℕ). cond (r.to == to) (Some r.link) rest) (leads_others route routes to other)
