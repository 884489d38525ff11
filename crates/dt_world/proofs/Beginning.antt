-- The stations of a world that begins: made one by one, they are those of the setup.
use Rattle.std.proofs.Common.{ℕ, ◌≡◌, nat_eq, true, false, List, [], ◌∷◌, ◌++◌, is_some, refl, sym, ap, subst, inl, inr, ◌∙◌, append_assoc, append-nil, ◌-◌, length, take, replicate, arith}
use Rattle.std.specs.List.{AllByRecursion, IsDistinct}
use Rattle.std.specs.Map.{keys_of, lookup}
use Rattle.indexmap.specs.IndexMap.{insert_entry}
use Rattle.std.proofs.lemmas.Grind.{common_steps}
use Rattle.std.proofs.lemmas.Bool.{cases_Bool}
use Rattle.std.proofs.lemmas.Bool.Decides.{nat_tests}
use Rattle.dt_units.specs.declared.parameters.Params.{Params}
use Rattle.dt_units.specs.declared.endpoints.Flow.{Flow}
use Rattle.dt_units.specs.Limits.{IsWithinLimits}
use Rattle.dt_world_model.specs.declared.links.Link.{Link}
use Rattle.dt_world_model.specs.Ledgers.{FlowLedger, FlowRun, Ledgers}
use Rattle.dt_world_model.specs.Setup.{Setup, new_world, placed_first}
use Rattle.dt_world_model.specs.Tables.{AllEntries}
use Rattle.dt_world_model.specs.World.{Copy, Placed, World}
use Rattle.dt_world_model.specs.WorldFacts.{WorldFacts}
use Rattle.dt_world_laws.proofs.Starts.{new_world_facts}
use Rattle.dt_notes.specs.declared.notes.Notes.{Notes}
use Rattle.dt_world.specs.declared.world_parts.WorldParts.{WorldParts}
use Rattle.dt_world.specs.declared.placed_stations.PlacedStation.{PlacedStation}
use Rattle.dt_notes.specs.Notes.{ledgers_seen}
use Rattle.dt_notes.specs.Setups.{AreNumbered, links_of}
use Rattle.dt_world.specs.Starts.{begun_stations}
use Rattle.dt_notes.specs.Events.{most_read}
use Rattle.dt_world.specs.Worlds.{IsStationOf, IsWhole, placed_seen, stations_seen, world_seen}
use Rattle.dt_notes.proofs.SetupTables.{inserted_last}

other_way : (k n : ℕ) → nat_eq n k ≡ false → nat_eq k n ≡ false
other_way k n h = grind (arith, nat_tests)

-- KEYS THAT A TABLE LACKS
module _ (V : Type 0) where
  none_there : (keys : List ℕ) → AllByRecursion (λ n. let none : List (ℕ × V) = [] in is_some (lookup (nat_eq n) none) ≡ false) keys
  none_there [] = tt
  none_there (k ∷ keys) = (refl, none_there keys)

  absent_last : (k n : ℕ) (x : V) (es : List (ℕ × V)) → is_some (lookup (nat_eq k) es) ≡ false → nat_eq k n ≡ false → is_some (lookup (nat_eq k) (es ++ (n, x) ∷ [])) ≡ false
  absent_last k n x [] h d = rw d refl
  absent_last k n x (e ∷ es) h d =
      elim (cases_Bool (nat_eq k e.0)) [
        | inl y ↦ let there : true ≡ false = rw y at h in absurd cc
        | inr o ↦ let rest : is_some (lookup (nat_eq k) es) ≡ false = rw o at h in rw o (absent_last k n x es rest d)
      ]

  all_absent : (n : ℕ) (x : V) (es : List (ℕ × V)) (keys : List ℕ) → AllByRecursion (λ k. is_some (lookup (nat_eq k) es) ≡ false) keys → AllByRecursion (λ k. nat_eq n k ≡ false) keys → AllByRecursion (λ k. is_some (lookup (nat_eq k) (es ++ (n, x) ∷ [])) ≡ false) keys
  all_absent n x es [] h d = tt
  all_absent n x es (k ∷ keys) h d = (absent_last k n x es h.0 (other_way k n d.0), all_absent n x es keys h.1 d.1)

-- A TABLE IS COPIED: some entries stand in it, the rest is to come
pub record Copied (made rest all : List (ℕ × Link)) : Type 0 where
  pub whole : made ++ rest ≡ all
  pub distinct : IsDistinct nat_eq (keys_of rest)
  pub absent : AllByRecursion (λ n. is_some (lookup (nat_eq n) made) ≡ false) (keys_of rest)

pub copied_first : (all : List (ℕ × Link)) → IsDistinct nat_eq (keys_of all) → Copied [] all all
copied_first all distinct = record { whole = refl; distinct = distinct; absent = none_there Link (keys_of all) }

pub copied_more : (made after : List (ℕ × Link)) (n : ℕ) (x : Link) (rest all : List (ℕ × Link)) → Copied made ((n, x) ∷ rest) all → after ≡ insert_entry nat_eq made n x → Copied after rest all
unfolding IsDistinct
copied_more made after n x rest all h is =
    let last = is ∙ inserted_last ℕ Link nat_eq n x made h.absent.0 in
    subst (λ (es : List (ℕ × Link)). Copied es rest all) (sym last)
    (record {
      whole = append_assoc made ((n, x) ∷ []) rest ∙ h.whole;
      distinct = h.distinct.1;
      absent = all_absent Link n x made (keys_of rest) h.absent.1 h.distinct.0;
    })

pub copied_last : (made all : List (ℕ × Link)) → Copied made [] all → made ≡ all
copied_last made all h = sym (append-nil made) ∙ h.whole

-- some stations are made, the rest is to come
pub record Begun (p : Params) (s : Setup) (made : List (ℕ × PlacedStation)) (rest all : List (ℕ × ℕ)) : Type 0 where
  pub seen : stations_seen made ++ begun_stations s rest ≡ begun_stations s all
  pub placed : AllEntries (IsStationOf p 0) made
  pub distinct : IsDistinct nat_eq (keys_of rest)
  pub absent : AllByRecursion (λ n. is_some (lookup (nat_eq n) made) ≡ false) (keys_of rest)

pub at_first : (p : Params) (s : Setup) (all : List (ℕ × ℕ)) → IsDistinct nat_eq (keys_of all) → Begun p s [] all all
at_first p s all distinct = record { seen = refl; placed = tt; distinct = distinct; absent = none_there PlacedStation (keys_of all) }

seen_last : (made : List (ℕ × PlacedStation)) (n : ℕ) (x : PlacedStation) (rest : List (ℕ × Placed)) → stations_seen (made ++ (n, x) ∷ []) ++ rest ≡ stations_seen made ++ (n, placed_seen x) ∷ rest
seen_last [] n x rest = refl
seen_last (e ∷ es) n x rest = ap (λ (r : List (ℕ × Placed)). (e.0, placed_seen e.1) ∷ r) (seen_last es n x rest)

all_last : (p : Params) (made : List (ℕ × PlacedStation)) (n : ℕ) (x : PlacedStation) → AllEntries (IsStationOf p 0) made → IsStationOf p 0 n x → AllEntries (IsStationOf p 0) (made ++ (n, x) ∷ [])
all_last p [] n x h one = (one, tt)
all_last p (e ∷ es) n x h one = (h.0, all_last p es n x h.1 one)

pub one_more : (p : Params) (s : Setup) (made after : List (ℕ × PlacedStation)) (n zero : ℕ) (rest all : List (ℕ × ℕ)) (x : PlacedStation) → Begun p s made ((n, zero) ∷ rest) all → placed_seen x ≡ placed_first s n zero → IsStationOf p 0 n x → after ≡ insert_entry nat_eq made n x → Begun p s after rest all
unfolding IsDistinct
one_more p s made after n from rest all x h seen one is =
    let last = is ∙ inserted_last ℕ PlacedStation nat_eq n x made h.absent.0 in
    subst (λ (es : List (ℕ × PlacedStation)). Begun p s es rest all) (sym last)
    (record {
      seen = seen_last made n x (begun_stations s rest) ∙ ap (λ (y : Placed). stations_seen made ++ (n, y) ∷ begun_stations s rest) seen ∙ h.seen;
      placed = all_last p made n x h.placed one;
      distinct = h.distinct.1;
      absent = all_absent PlacedStation n x made (keys_of rest) h.absent.1 h.distinct.0;
    })

none_more : (es : List (ℕ × Placed)) → es ++ [] ≡ es
none_more [] = refl
none_more (e ∷ es) = ap (λ (r : List (ℕ × Placed)). e ∷ r) (none_more es)

pub at_last : (p : Params) (s : Setup) (made : List (ℕ × PlacedStation)) (all : List (ℕ × ℕ)) → Begun p s made [] all → stations_seen made ≡ begun_stations s all
at_last p s made all h = sym (none_more (stations_seen made)) ∙ h.seen

no_ledgers : (n : Notes) → n.ledger ≡ [] → n.runs.entries ≡ [] → ledgers_seen n ≡ record { rows = []; runs = [] }
no_ledgers n rows runs =
    ap (λ (x : List (Flow × FlowLedger)). let l : Ledgers = record { rows = x; runs = n.runs.entries } in l) rows
    ∙ ap (λ (x : List (Flow × FlowRun)). let l : Ledgers = record { rows = []; runs = x } in l) runs

pub new_buf : (old new : List ℕ) (len : ℕ) → old ≡ [] → len ≡ 0 → new ≡ take 65536 old ++ replicate (65536 - len) 0 → length new ≡ most_read
new_buf old new len a b c = grind (arith, common_steps)

-- THE WORLD THAT BEGINS is the definition's, and whole: its parts are made of a setup's tables
module _ (s : Setup) (parts : WorldParts) (links : List (ℕ × Link)) (rules : parts.rules ≡ s.params) (ls : links_of links ≡ s.links) (moment : parts.now ≡ 0) (same : parts.links.entries ≡ links)
    (made : stations_seen parts.stations.entries ≡ begun_stations s s.stations) (copies : parts.notes.copies ≡ []) (rows : parts.notes.ledger ≡ []) (runs : parts.notes.runs.entries ≡ []) where
  pub begun_world : world_seen parts ≡ new_world s
  begun_world =
      let begun = begun_stations s s.stations in
      ap (λ (x : Params). let w : World = record { params = x; now = parts.now; stations = stations_seen parts.stations.entries; links = links_of parts.links.entries; copies = parts.notes.copies; ledgers = ledgers_seen parts.notes } in w) rules
      ∙ ap (λ (x : ℕ). let w : World = record { params = s.params; now = x; stations = stations_seen parts.stations.entries; links = links_of parts.links.entries; copies = parts.notes.copies; ledgers = ledgers_seen parts.notes } in w) moment
      ∙ ap (λ (x : List (ℕ × Placed)). let w : World = record { params = s.params; now = 0; stations = x; links = links_of parts.links.entries; copies = parts.notes.copies; ledgers = ledgers_seen parts.notes } in w) made
      ∙ ap (λ (x : List Link). let w : World = record { params = s.params; now = 0; stations = begun; links = x; copies = parts.notes.copies; ledgers = ledgers_seen parts.notes } in w) (ap links_of same ∙ ls)
      ∙ ap (λ (x : List Copy). let w : World = record { params = s.params; now = 0; stations = begun; links = s.links; copies = x; ledgers = ledgers_seen parts.notes } in w) copies
      ∙ ap (λ (x : Ledgers). let w : World = record { params = s.params; now = 0; stations = begun; links = s.links; copies = []; ledgers = x } in w) (no_ledgers parts.notes rows runs)

  pub begun_whole : IsWithinLimits s.params → AreNumbered links → AllEntries (IsStationOf s.params 0) parts.stations.entries → IsWhole parts
  begun_whole limits numbers stations =
      record {
        limits = subst (λ (p : Params). IsWithinLimits p) (sym rules) limits;
        moment = omega (arith, moment);
        numbers = subst (λ (es : List (ℕ × Link)). AreNumbered es) (sym same) numbers;
        stations = subst (λ (k : ℕ). AllEntries (IsStationOf parts.rules k) parts.stations.entries) (sym moment) (subst (λ (p : Params). AllEntries (IsStationOf p 0) parts.stations.entries) (sym rules) stations);
        facts = subst (λ (w : World). WorldFacts w) (sym begun_world) (new_world_facts s);
      }
