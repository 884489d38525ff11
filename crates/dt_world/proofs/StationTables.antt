-- The stations of a world: a map by number is the definition's table.
use Rattle.std.proofs.Common.{ℕ, ◌≡◌, ◌==◌, true, false, List, [], ◌∷◌, Option, Some, None, refl, sym, ap, subst, ◌∙◌, inl, inr, nat_eq, arith}
use Rattle.std.specs.Prelude.{option_map, unwrap_or}
use Rattle.std.proofs.lemmas.Bool.{cases_Bool}
use Rattle.std.proofs.lemmas.Bool.Decides.{nat_tests}
use Rattle.std.specs.Map.{lookup, set_value}
use Rattle.dt_world_model.specs.Tables.{AllEntries, look, write}
use Rattle.dt_world_model.specs.Host.{first_host}
use Rattle.dt_world_model.specs.Relay.{new_relay}
use Rattle.dt_world_model.specs.Station.{station_with}
use Rattle.dt_world_model.specs.World.{Placed, World, placed}
use Rattle.dt_world_model.proofs.Tables.{nat_is}
use Rattle.dt_world.specs.declared.world_parts.WorldParts.{WorldParts}
use Rattle.dt_world.specs.declared.placed_stations.PlacedStation.{PlacedStation}
use Rattle.dt_world.specs.Worlds.{placed_seen, stations_seen, world_seen}

either_way : (m n : ℕ) → (m == n) ≡ (n == m)
either_way m n = grind (arith, nat_tests)

pub look_seen : (n : ℕ) (es : List (ℕ × PlacedStation)) → look ◌==◌ n (stations_seen es) ≡ option_map placed_seen (lookup (nat_eq n) es)
look_seen n [] = refl
look_seen n (e ∷ es) =
    elim (cases_Bool (e.0 == n)) [
      | inl y ↦ let t : nat_eq n e.0 ≡ true = either_way n e.0 ∙ y in rw (y, t) refl
      | inr f ↦ let t : nat_eq n e.0 ≡ false = either_way n e.0 ∙ f in rw (f, t) (look_seen n es)
    ]

pub station_written : (n : ℕ) (s was : PlacedStation) (es : List (ℕ × PlacedStation)) → lookup (nat_eq n) es ≡ Some was → stations_seen (set_value (nat_eq n) es s) ≡ write ◌==◌ n (placed_seen s) (stations_seen es)
station_written n s was [] h = absurd cc
station_written n s was (e ∷ es) h =
    elim (cases_Bool (e.0 == n)) [
      | inl y ↦ let t : nat_eq n e.0 ≡ true = either_way n e.0 ∙ y in rw (y, t) (ap (λ (k : ℕ). (k, placed_seen s) ∷ stations_seen es) (nat_is e.0 n y))
      | inr f ↦
          let t : nat_eq n e.0 ≡ false = either_way n e.0 ∙ f in
          let rest : lookup (nat_eq n) es ≡ Some was = rw t at h in
          rw (f, t) (ap (λ (r : List (ℕ × Placed)). (e.0, placed_seen e.1) ∷ r) (station_written n s was es rest))
    ]

-- where the map finds no station there is none
pub not_there : (n : ℕ) (es : List (ℕ × PlacedStation)) → None ≡ lookup (nat_eq n) es → look ◌==◌ n (stations_seen es) ≡ None
not_there n es none = look_seen n es ∙ ap (option_map placed_seen) (sym none)

-- the world of these parts with other stations
abbrev pub with_stations : WorldParts → List (ℕ × Placed) → World
with_stations p stations = record (world_seen p) { stations = stations }

-- what is written as it was changes nothing
pub station_same : (n : ℕ) (was : PlacedStation) (es : List (ℕ × PlacedStation)) → lookup (nat_eq n) es ≡ Some was → stations_seen (set_value (nat_eq n) es was) ≡ stations_seen es
station_same n was [] h = refl
station_same n was (e ∷ es) h =
    elim (cases_Bool (nat_eq n e.0)) [
      | inl y ↦ let found : Some e.1 ≡ Some was = rw y at h in let value : was ≡ e.1 = cc in rw y (ap (λ (s : PlacedStation). (e.0, placed_seen s) ∷ stations_seen es) value)
      | inr f ↦ let rest : lookup (nat_eq n) es ≡ Some was = rw f at h in rw f (ap (λ (r : List (ℕ × Placed)). (e.0, placed_seen e.1) ∷ r) (station_same n was es rest))
    ]

module _ (P : ℕ → PlacedStation → Type 0) where
  pub all_written : (n : ℕ) (s : PlacedStation) (es : List (ℕ × PlacedStation)) → ((k : ℕ) → (k == n) ≡ true → P k s) → AllEntries P es → AllEntries P (set_value (nat_eq n) es s)
  all_written n s [] p all = tt
  all_written n s (e ∷ es) p all =
      elim (cases_Bool (e.0 == n)) [
        | inl y ↦ let t : nat_eq n e.0 ≡ true = either_way n e.0 ∙ y in rw t (p e.0 y, all.1)
        | inr f ↦ let t : nat_eq n e.0 ≡ false = either_way n e.0 ∙ f in rw t (all.0, all_written n s es p all.1)
      ]

  pub all_at : (n : ℕ) (s : PlacedStation) (es : List (ℕ × PlacedStation)) → lookup (nat_eq n) es ≡ Some s → AllEntries P es → (k : ℕ) × P k s
  all_at n s [] h all = absurd cc
  all_at n s (e ∷ es) h all =
      elim (cases_Bool (nat_eq n e.0)) [
        | inl y ↦ let found : Some e.1 ≡ Some s = rw y at h in let value : e.1 ≡ s = cc in (e.0, subst (P e.0) value all.0)
        | inr f ↦ let rest : lookup (nat_eq n) es ≡ Some s = rw f at h in all_at n s es rest all.1
      ]

-- the lives of a station: 0 where it isn't there
abbrev pub life_of : Option Placed → ℕ
life_of None = 0
life_of (Some p) = p.life

life_or : (o : Option Placed) (d : Placed) → d.life ≡ 0 → (unwrap_or o d).life ≡ life_of o
life_or None d h = h
life_or (Some p) d h = refl

pub life_at : (w : World) (n : ℕ) (es : List (ℕ × PlacedStation)) (o : Option PlacedStation) → w.stations ≡ stations_seen es → o ≡ lookup (nat_eq n) es → life_of (option_map placed_seen o) ≡ (placed w n).life
life_at w n es o h is =
    ap (λ (x : Option PlacedStation). life_of (option_map placed_seen x)) is
    ∙ ap life_of (sym (look_seen n es))
    ∙ ap (λ (x : List (ℕ × Placed)). life_of (look ◌==◌ n x)) (sym h)
    ∙ sym (life_or (look ◌==◌ n w.stations) (record { zero = 0; life = 0; station = station_with (first_host n) (new_relay [] [] []) }) refl)
