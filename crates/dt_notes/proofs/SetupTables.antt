-- The tables of a setup: what is looked up in them, and added to them, is so in the definition's lists.
use Rattle.std.proofs.Common.{ℕ, ◌≡◌, ◌==◌, Bool, true, false, ◌&&◌, List, [], ◌∷◌, ◌++◌, Option, Some, None, is_some, Ok, Err, refl, sym, ap, ◌∙◌, inl, inr, arith, nat_eq}
use Rattle.std.specs.Prelude.{not, ◌||◌}
use Rattle.std.proofs.lemmas.Bool.{cases_Bool}
use Rattle.std.proofs.lemmas.Bool.Decides.{nat_tests}
use Rattle.std.proofs.lemmas.List.{map-append}
use Rattle.std.specs.Map.{lookup}
use Rattle.indexmap.specs.IndexMap.{insert_entry}
use Rattle.dt_units.specs.declared.parameters.Params.{Params}
use Rattle.dt_reports.specs.declared.faults.SetupFault.{SetupFault}
use Rattle.dt_reports.specs.declared.faults.SetupFault.TheVariants as fault
use Rattle.dt_world_model.specs.declared.links.Link.{Link}
use Rattle.dt_world_model.specs.declared.links.Route.{Route}
use Rattle.dt_world_model.specs.Relay.{route_to}
use Rattle.dt_world_model.specs.Setup.{AddLink, AddRoute, AddStation, Setup, SetupCall, added, has_link, is_unknown, routes_of, setup_call, setup_refusals, setup_unless}
use Rattle.dt_world_model.specs.Tables.{look, has_key}
use Rattle.dt_world_model.specs.WorldStep.{first_refusal, link_in, numbered}
use Rattle.dt_notes.specs.Setups.{AreNumbered, links_of, stated_route, stated_routes}

either_way : (m n : ℕ) → (m == n) ≡ (n == m)
either_way m n = grind (arith, nat_tests)

-- the map tests the number that is asked against an entry's, the definition an entry's against the one that is asked
pub look_keyed : (A : Type 0) (n : ℕ) (es : List (ℕ × A)) → lookup (nat_eq n) es ≡ look ◌==◌ n es
look_keyed A n [] = refl
look_keyed A n (e ∷ es) =
    elim (cases_Bool (e.0 == n)) [
      | inl y ↦ let t : (n == e.0) ≡ true = either_way n e.0 ∙ y in rw (y, t) refl
      | inr f ↦ let t : (n == e.0) ≡ false = either_way n e.0 ∙ f in rw (f, t) (look_keyed A n es)
    ]

pub numbered_links : (es : List (ℕ × Link)) → AreNumbered es → numbered (links_of es) ≡ es
numbered_links [] h = refl
numbered_links (e ∷ es) h = rw (h.0, numbered_links es h.1) refl

abbrev pub same_way : ℕ × ℕ → ℕ × ℕ → Bool
same_way j k = nat_eq j.0 k.0 && nat_eq j.1 k.1

-- a route is found by its station and its node together
pub way_found : (at to : ℕ) (es : List ((ℕ × ℕ) × ℕ)) → is_some (lookup (same_way (at, to)) es) ≡ is_some (route_to to (routes_of at (stated_routes es)))
way_found at to [] = refl
way_found at to (e ∷ es) =
    elim (cases_Bool (e.0.0 == at)) [
      | inl y ↦
          let t : (at == e.0.0) ≡ true = either_way at e.0.0 ∙ y in
          elim (cases_Bool (e.0.1 == to)) [
            | inl z ↦ let u : (to == e.0.1) ≡ true = either_way to e.0.1 ∙ z in rw (y, t, u, z) refl
            | inr o ↦ let u : (to == e.0.1) ≡ false = either_way to e.0.1 ∙ o in rw (y, t, u, o) (way_found at to es)
          ]
      | inr n ↦ let t : (at == e.0.0) ≡ false = either_way at e.0.0 ∙ n in rw (n, t) (way_found at to es)
    ]

-- a key that isn't there goes last
module _ (K A : Type 0) (test : K → K → Bool) where
  pub inserted_last : (k : K) (a : A) (es : List (K × A)) → is_some (lookup (test k) es) ≡ false → insert_entry test es k a ≡ es ++ (k, a) ∷ []
  inserted_last k a [] h = refl
  inserted_last k a (e ∷ es) h =
      elim (cases_Bool (test k e.0)) [
        | inl y ↦ let there : true ≡ false = rw y at h in absurd cc
        | inr n ↦ let rest : is_some (lookup (test k) es) ≡ false = rw n at h in rw n (ap (λ (r : List (K × A)). e ∷ r) (inserted_last k a es rest))
      ]

pub numbered_last : (es : List (ℕ × Link)) (n : ℕ) (l : Link) → l.link ≡ n → AreNumbered es → AreNumbered (insert_entry nat_eq es n l)
numbered_last [] n l e h = (e, tt)
numbered_last (x ∷ es) n l e h =
    elim (cases_Bool (nat_eq n x.0)) [
      | inl y ↦ let same : n ≡ x.0 = grind (arith, nat_tests) in rw y (e ∙ same, h.1)
      | inr o ↦ rw o (h.0, numbered_last es n l e h.1)
    ]

-- the first of the tests fails, and the others refuse nothing
pub first_fails : (b : Bool) (f : SetupFault) (tests : List (Bool × SetupFault)) → first_refusal ((b, f) ∷ tests) ≡ None → (b ≡ false) × (first_refusal tests ≡ None)
first_fails true f tests h = absurd cc
first_fails false f tests h = (refl, h)

pub accepted : (s : Setup) (call : SetupCall) → first_refusal (setup_refusals s call) ≡ None → setup_call s call ≡ Ok (added s call)
accepted s call h = ap (λ (o : Option SetupFault). setup_unless o (added s call)) h

pub refused : (s : Setup) (call : SetupCall) (f : SetupFault) → first_refusal (setup_refusals s call) ≡ Some f → setup_call s call ≡ Err f
refused s call f h = ap (λ (o : Option SetupFault). setup_unless o (added s call)) h

-- none, where it is nothing that is some
pub none_of : (o : Option SetupFault) → ((f : SetupFault) → o ≡ Some f → ⊥) → o ≡ None
none_of None h = refl
none_of (Some f) h = absurd (h f refl)

module _ (p : Params) (zeros : List (ℕ × ℕ)) (links : List (ℕ × Link)) (ways : List ((ℕ × ℕ) × ℕ)) where
  abbrev pub seen : List (ℕ × ℕ) → List (ℕ × Link) → List ((ℕ × ℕ) × ℕ) → Setup
  seen zeros' links' ways' = record { params = p; stations = zeros'; links = links_of links'; routes = stated_routes ways' }

  abbrev old : Setup
  old = seen zeros links ways

  station_added : (n ahead : ℕ) → first_refusal (setup_refusals old (AddStation n ahead)) ≡ None → setup_call old (AddStation n ahead) ≡ Ok (seen (insert_entry nat_eq zeros n ahead) links ways)
  station_added n ahead h =
      let absent = (first_fails (has_key ◌==◌ n zeros) (fault.Twice n) [] h).0 in
      let absent' : is_some (lookup (nat_eq n) zeros) ≡ false = ap is_some (look_keyed ℕ n zeros) ∙ absent in
      accepted old (AddStation n ahead) h ∙ ap (λ (zs : List (ℕ × ℕ)). Ok (seen zs links ways)) (sym (inserted_last ℕ ℕ nat_eq n ahead zeros absent'))

  link_added : (l : Link) → AreNumbered links → first_refusal (setup_refusals old (AddLink l)) ≡ None → setup_call old (AddLink l) ≡ Ok (seen zeros (insert_entry nat_eq links l.link l) ways)
  link_added l numbers h =
      let absent = (first_fails (has_link old l.link) (fault.Twice l.link) (is_unknown old l.from ∷ is_unknown old l.to ∷ (l.from == l.to, fault.Stray l.link) ∷ []) h).0 in
      let absent' : is_some (lookup (nat_eq l.link) links) ≡ false = ap is_some (look_keyed Link l.link links ∙ ap (λ (es : List (ℕ × Link)). look ◌==◌ l.link es) (sym (numbered_links links numbers))) ∙ absent in
      accepted old (AddLink l) h
      ∙ ap (λ (ls : List Link). Ok (let s : Setup = record { params = p; stations = zeros; links = ls; routes = stated_routes ways } in s)) (sym (map-append (λ (e : ℕ × Link). e.1) links ((l.link, l) ∷ [])))
      ∙ ap (λ (ls : List (ℕ × Link)). Ok (seen zeros ls ways)) (sym (inserted_last ℕ Link nat_eq l.link l links absent'))

  route_added : (at to link : ℕ) → first_refusal (setup_refusals old (AddRoute at (record { to = to; link = link }))) ≡ None → setup_call old (AddRoute at (record { to = to; link = link })) ≡ Ok (seen zeros links (insert_entry same_way ways (at, to) link))
  route_added at to link h =
      let r : Route = record { to = to; link = link } in
      let twice : Bool × SetupFault = (is_some (route_to to (routes_of at old.routes)), fault.Twice to) in
      let stray : Bool × SetupFault = (not ((link_in link old.links).from == at) || (to == at), fault.Stray link) in
      let first = first_fails (not (has_key ◌==◌ at zeros)) (fault.Unknown at) ((not (has_link old link), fault.Unknown link) ∷ stray ∷ twice ∷ []) h in
      let second = first_fails (not (has_link old link)) (fault.Unknown link) (stray ∷ twice ∷ []) first.1 in
      let third = first_fails stray.0 stray.1 (twice ∷ []) second.1 in
      let absent = (first_fails twice.0 twice.1 [] third.1).0 in
      let absent' : is_some (lookup (same_way (at, to)) ways) ≡ false = way_found at to ways ∙ absent in
      accepted old (AddRoute at r) h
      ∙ ap (λ (rs : List (ℕ × Route)). Ok (let s : Setup = record { params = p; stations = zeros; links = links_of links; routes = rs } in s)) (sym (map-append stated_route ways (((at, to), link) ∷ [])))
      ∙ ap (λ (ws : List ((ℕ × ℕ) × ℕ)). Ok (seen zeros links ws)) (sym (inserted_last (ℕ × ℕ) ℕ same_way (at, to) link ways absent'))

  -- a call whose tests refuse nothing, and whose table took the new entry
  module _ (s : Setup) (is : old ≡ s) (o : Option SetupFault) (none : (f : SetupFault) → o ≡ Some f → ⊥) where
    tested : (call : SetupCall) → o ≡ first_refusal (setup_refusals s call) → first_refusal (setup_refusals old call) ≡ None
    tested call e = ap (λ (t : Setup). first_refusal (setup_refusals t call)) is ∙ sym e ∙ none_of o none

    done : (call : SetupCall) (t : Setup) → setup_call old call ≡ Ok t → setup_call s call ≡ Ok t
    done call t h = ap (λ (u : Setup). setup_call u call) (sym is) ∙ h

    pub station_done : (n ahead : ℕ) (after : List (ℕ × ℕ)) → o ≡ first_refusal (setup_refusals s (AddStation n ahead)) → after ≡ insert_entry nat_eq zeros n ahead → setup_call s (AddStation n ahead) ≡ Ok (seen after links ways)
    station_done n ahead after e entries = done (AddStation n ahead) (seen after links ways) (station_added n ahead (tested (AddStation n ahead) e) ∙ ap (λ (zs : List (ℕ × ℕ)). Ok (seen zs links ways)) (sym entries))

    pub link_done : (l : Link) (after : List (ℕ × Link)) → AreNumbered links → o ≡ first_refusal (setup_refusals s (AddLink l)) → after ≡ insert_entry nat_eq links l.link l → setup_call s (AddLink l) ≡ Ok (seen zeros after ways)
    link_done l after numbers e entries = done (AddLink l) (seen zeros after ways) (link_added l numbers (tested (AddLink l) e) ∙ ap (λ (ls : List (ℕ × Link)). Ok (seen zeros ls ways)) (sym entries))

    pub route_done : (at to link : ℕ) (after : List ((ℕ × ℕ) × ℕ)) → o ≡ first_refusal (setup_refusals s (AddRoute at (record { to = to; link = link }))) → after ≡ insert_entry same_way ways (at, to) link → setup_call s (AddRoute at (record { to = to; link = link })) ≡ Ok (seen zeros links after)
    route_done at to link after e entries = done (AddRoute at (record { to = to; link = link })) (seen zeros links after) (route_added at to link (tested (AddRoute at (record { to = to; link = link })) e) ∙ ap (λ (ws : List ((ℕ × ℕ) × ℕ)). Ok (seen zeros links ws)) (sym entries))
