-- A table of records after a change of one: what is said of each record and its note still holds.
use Rattle.std.proofs.Common.{ℕ, zero, suc, ◌≡◌, ◌≢◌, ◌<◌, List, [], ◌∷◌, ◌++◌, length, set, Option, Some, None, inl, inr, refl, sym, ap, subst, ◌∙◌, arith}
use Rattle.std.specs.Prelude.{option_map, slice_index_or}
use Rattle.std.specs.Map.{lookup, remove_entry, set_value}
use Rattle.std.proofs.lemmas.Bool.{cases_Bool, cases_eq}
use Rattle.std.proofs.lemmas.List.{length-set}
use Rattle.indexmap.specs.IndexMap.{insert_entry}
use Rattle.dt_units.specs.declared.endpoints.Flow.{Flow}
use Rattle.dt_timers.specs.Deadlines.{IsFirst}
use Rattle.dt_world_model.specs.Tables.{Distinct, same_flow}
use Rattle.dt_table.specs.Agendas.{HasRoom, Note, Tables, moment_of_kind, no_note, note_at}
use Rattle.dt_table.specs.Firsts.{IsFirstIn}
use Rattle.dt_table.specs.Tables.{records_by}
use Rattle.dt_table.specs.Places.{StandOnce, equal_flows, place_in, present, slot}
use Rattle.dt_table.specs.Tables.{IsNotedAt, IsPlaced, IsTable, Row, Slots, rows}
use Rattle.dt_table.proofs.Agendas.{room_less, same_kinds}
use Rattle.dt_table.proofs.Slots.{as_many_owners, distinct, entries_left, entries_set, first_in, its_found, its_note, its_within, kept_on, never_none, not_found, noted_at, notes_in, once_here, owner_at, owners, place_is, rank, read_any, stands_first}
use Rattle.dt_table.proofs.Somes.{some_none}
use Rattle.dt_table.proofs.Standing.{present_same, slot_here, slot_there, slot_within}

module _ {A : Type 0} where
  -- THE ROWS of a table, by its places
  abbrev pub entries : List (Row A) → List (Flow × A)
  entries [] = []
  entries (r ∷ rs) = r.0 ∷ entries rs

  pub entries_are : (os : Slots A) (note : ℕ → Note) → entries (rows os note) ≡ present os
  entries_are [] note = refl
  entries_are (None ∷ os) note = entries_are os (λ i. note (suc i))
  entries_are (Some e ∷ os) note = ap (λ (l : List (Flow × A)). e ∷ l) (entries_are os (λ i. note (suc i)))

  pub entries_more : (rs : List (Row A)) (r : Row A) → entries (rs ++ r ∷ []) ≡ entries rs ++ r.0 ∷ []
  entries_more [] r = refl
  entries_more (q ∷ rs) r = ap (λ (l : List (Flow × A)). q.0 ∷ l) (entries_more rs r)

  abbrev pub row_of : Flow × A → Note → Row A
  row_of e n = (e, n)

  -- each place with its note
  abbrev pub paired : Slots A → (ℕ → Note) → List (Option (Row A))
  paired [] note = []
  paired (o ∷ os) note = option_map (λ (e : Flow × A). row_of e (note 0)) o ∷ paired os (λ i. note (suc i))

  pub rows_are : (os : Slots A) (note : ℕ → Note) → rows os note ≡ present (paired os note)
  rows_are [] note = refl
  rows_are (None ∷ os) note = rows_are os (λ i. note (suc i))
  rows_are (Some e ∷ os) note = ap (λ (l : List (Row A)). row_of e (note 0) ∷ l) (rows_are os (λ i. note (suc i)))

  pub pair_at : (os : Slots A) (note : ℕ → Note) (i : ℕ) → slot (paired os note) i ≡ option_map (λ (e : Flow × A). row_of e (note i)) (slot os i)
  pair_at [] note i = refl
  pair_at (o ∷ os) note zero = refl
  pair_at (o ∷ os) note (suc i) = pair_at os (λ k. note (suc k)) i

  pub as_many_pairs : (os : Slots A) (note : ℕ → Note) → length (paired os note) ≡ length os
  as_many_pairs [] note = refl
  as_many_pairs (o ∷ os) note = ap suc (as_many_pairs os (λ i. note (suc i)))

  pub rows_same : (os ps : Slots A) (note new : ℕ → Note) → ((i : ℕ) → slot ps i ≡ slot os i) → ((i : ℕ) → new i ≡ note i) → rows ps new ≡ rows os note
  rows_same os ps note new slots notes =
      rows_are ps new
      ∙ present_same (paired ps new) (paired os note) (λ i. pair_at ps new i ∙ ap (option_map (λ (e : Flow × A). row_of e (new i))) (slots i) ∙ ap (λ (n : Note). option_map (λ (e : Flow × A). row_of e n) (slot os i)) (notes i) ∙ sym (pair_at os note i))
      ∙ sym (rows_are os note)

  -- WHAT HOLDS OF EACH ROW holds of each place
  module _ (P : Flow → A → Note → Type 0) (nothing : Note) where
    abbrev pub AllRows : List (Row A) → Type 0
    AllRows [] = Unit {0}
    AllRows (r ∷ rs) = P r.0.0 r.0.1 r.1 × AllRows rs

    pub all_more : (rs : List (Row A)) (r : Row A) → AllRows rs → P r.0.0 r.0.1 r.1 → AllRows (rs ++ r ∷ [])
    all_more [] r all is = (is, tt)
    all_more (q ∷ rs) r all is = (all.0, all_more rs r all.1 is)

    pub all_rows : (os : Slots A) (note : ℕ → Note) → ((i : ℕ) → IsNotedAt P nothing (slot os i) (note i)) → AllRows (rows os note)
    all_rows [] note all = tt
    all_rows (None ∷ os) note all = all_rows os (λ i. note (suc i)) (λ i. all (suc i))
    all_rows (Some e ∷ os) note all = (all 0, all_rows os (λ i. note (suc i)) (λ i. all (suc i)))

    pub bare : (o : Option (Flow × A)) (n : Note) → IsNotedAt P nothing o n → IsNotedAt (λ f a m. Unit {0}) nothing o n
    bare None n is = is
    bare (Some e) n is = tt

    pub noted_rows : (os : Slots A) (note : ℕ → Note) → AllRows (rows os note) → ((i : ℕ) → IsNotedAt (λ f a m. Unit {0}) nothing (slot os i) (note i)) → (i : ℕ) → IsNotedAt P nothing (slot os i) (note i)
    noted_rows [] note all are i = are i
    noted_rows (None ∷ os) note all are zero = are 0
    noted_rows (None ∷ os) note all are (suc i) = noted_rows os (λ k. note (suc k)) all (λ k. are (suc k)) i
    noted_rows (Some e ∷ os) note all are zero = all.0
    noted_rows (Some e ∷ os) note all are (suc i) = noted_rows os (λ k. note (suc k)) all.1 (λ k. are (suc k)) i

  -- THE RECORD OF A FLOW, as it is read from its place
  pub record Read (flows : List (Option Flow)) (os : Slots A) (f : Flow) (i : ℕ) : Type 0 where
    pub once : StandOnce flows
    pub place : place_in f flows ≡ Some i
    pub read : Option (Flow × A)
    pub from : read ≡ slice_index_or os i read
    pub owner : Flow
    pub value : A
    pub is : read ≡ Some (owner, value)

  -- the places after it was written
  abbrev pub Written : Slots A → ℕ → Flow → A → Slots A
  Written os i g u = set os i (Some (g, u))

  -- one that is asked for and isn't there comes last
  pub inserted_last : (f : Flow) (a : A) (es : List (Flow × A)) → lookup (equal_flows f) es ≡ None → insert_entry equal_flows es f a ≡ es ++ (f, a) ∷ []
  inserted_last f a [] none = refl
  inserted_last f a (e ∷ es) none =
      elim (cases_Bool (equal_flows f e.0)) [
        | inl y ↦ let found : Some e.1 ≡ None = rw y at none in absurd (some_none e.1 found)
        | inr n ↦ let rest : lookup (equal_flows f) es ≡ None = rw n at none in rw n (ap (λ (l : List (Flow × A)). e ∷ l) (inserted_last f a es rest))
      ]

-- A TABLE OF WHICH P HOLDS
module _ {A : Type 0} (P : Flow → A → Note → Type 0) (kinds : ℕ) where
  pub once_again : (flows : List (Option Flow)) (os : Slots A) (t : Tables) → IsPlaced kinds flows os t → AllRows P (no_note kinds) (rows os (note_at t)) → IsTable P kinds flows os t
  once_again flows os t is all = record {
    counted = is.counted;
    long = is.long;
    room = is.room;
    kept = record { named = is.kept.named; noted = noted_rows P (no_note kinds) os (note_at t) all is.kept.noted };
  }

  module _ (flows : List (Option Flow)) (os : Slots A) (t : Tables) (is : IsTable P kinds flows os t) where
    pub placed : IsPlaced kinds flows os t
    placed = record { counted = is.counted; long = is.long; room = is.room; kept = record { named = is.kept.named; noted = λ i. bare P (no_note kinds) (slot os i) (note_at t i) (is.kept.noted i) } }

    pub whole : IsPlaced (length t) flows os t
    whole = subst (λ (k : ℕ). IsPlaced k flows os t) (sym is.counted) placed

    -- a table that has as many kinds as this one
    as_kinds : (more : List (Option Flow)) (ps : Slots A) (new : Tables) → IsPlaced (length t) more ps new → IsPlaced kinds more ps new
    as_kinds more ps new after = subst (λ (k : ℕ). IsPlaced k more ps new) is.counted after

    pub each_row : AllRows P (no_note kinds) (rows os (note_at t))
    each_row = all_rows P (no_note kinds) os (note_at t) is.kept.noted

    -- as many flows have a place as stand
    pub as_many : length (present flows) ≡ length (present os)
    as_many = ap (λ (l : List Flow). length l) (present_same flows (owners os) (λ i. is.kept.named i ∙ sym (owner_at os i))) ∙ as_many_owners os

    pub each_once : {B : Type 0} (seen : A → B) → StandOnce flows → Distinct same_flow (records_by seen (present os))
    each_once seen once = distinct seen os (once_here P (no_note kinds) flows os (note_at t) is.kept once)

    pub none_there : (f : Flow) → None ≡ place_in f flows → lookup (equal_flows f) (present os) ≡ None
    none_there f e = not_found f os (sym (place_is P (no_note kinds) flows os (note_at t) is.kept f) ∙ sym e)

    -- the tables after a change have room for all places
    wide : (many : ℕ) → many ≡ length os → (new : Tables) → ((count : ℕ) → HasRoom count t → HasRoom count new) → HasRoom many new
    wide many long new room = subst (λ (n : ℕ). HasRoom n new) (sym long) (room (length os) is.room)

    -- A PLACE THAT IS ASKED FOR
    module _ (once : StandOnce flows) (f : Flow) (i : ℕ) (at : Some i ≡ place_in f flows) where
      pub place_within : i < length os
      place_within = its_within P (no_note kinds) flows os (note_at t) is.kept once f i at

      pub place_room : HasRoom (suc i) t
      place_room = let w = place_within in room_less (suc i) (length os) t (omega arith) is.room

      pub never_empty : (r : Option (Flow × A)) → r ≡ slice_index_or os i r → r ≡ None → ⊥
      never_empty r v e = never_none P (no_note kinds) flows os (note_at t) is.kept once f i at r v e

    -- A RECORD THAT IS READ
    module _ (f : Flow) (i : ℕ) (at : Read flows os f i) where
      pub found_there : lookup (equal_flows f) (present os) ≡ Some at.value
      found_there = its_found P (no_note kinds) flows os (note_at t) is.kept at.once f i (sym at.place) at.read at.from at.owner at.value at.is

      pub note_there : P f at.value (note_at t i)
      note_there = its_note P (no_note kinds) flows os (note_at t) is.kept at.once f i (sym at.place) at.read at.from at.owner at.value at.is

      -- it is written, and noted
      module _ (u : A) where
        pub written : present (Written os i at.owner u) ≡ set_value (equal_flows f) (present os) u
        written = entries_set P (no_note kinds) flows os (note_at t) is.kept at.once f i (sym at.place) at.read at.from at.owner at.value at.is u

        pub gone : present (set (Written os i at.owner u) i None) ≡ remove_entry (equal_flows f) (set_value (equal_flows f) (present os) u)
        gone = entries_left P (no_note kinds) flows os (note_at t) is.kept at.once f i (sym at.place) at.read at.from at.owner at.value at.is u

        pub table_set : (new : Tables) → P f u (note_at new i) → ((j : ℕ) → j ≢ i → note_at new j ≡ note_at t j) → ((count : ℕ) → HasRoom count t → HasRoom count new) → IsTable P kinds flows (Written os i at.owner u) new
        table_set new here others room =
            let long = length-set os i (Some (at.owner, u)) in
            record {
              counted = same_kinds t new (suc i) (others (suc i) (λ e. omega arith)) ∙ is.counted;
              long = (let l = is.long in omega arith);
              room = wide (length (Written os i at.owner u)) long new room;
              kept = kept_on P (no_note kinds) flows os (note_at t) is.kept at.once f i (sym at.place) at.read at.from at.owner at.value at.is u (note_at new) here others;
            }

        -- nothing changed
        pub table_same : u ≡ at.value → IsTable P kinds flows (Written os i at.owner u) t
        table_same same = table_set t (subst (λ (w : A). P f w (note_at t i)) (sym same) note_there) (λ j apart. refl) (λ count room. room)

        left_so : (more : List (Option Flow)) (new : Tables) → IsPlaced (length t) more (set (Written os i at.owner u) i None) new → ((j : ℕ) → j ≢ i → note_at new j ≡ note_at t j) → IsTable P kinds more (set (Written os i at.owner u) i None) new
        left_so more new is_placed others = let after = as_kinds more (set (Written os i at.owner u) i None) new is_placed in record { counted = after.counted; long = after.long; room = after.room; kept = record { named = after.kept.named; noted = each after.kept.noted } }
          where
            none_here : slot (set (Written os i at.owner u) i None) i ≡ None
            none_here = slot_here (Written os i at.owner u) i None (let n = length-set os i (Some (at.owner, u)) in let w = place_within at.once f i (sym at.place) in omega arith)

            each : ((j : ℕ) → IsNotedAt (λ g a m. Unit {0}) (no_note kinds) (slot (set (Written os i at.owner u) i None) j) (note_at new j)) → (j : ℕ) → IsNotedAt P (no_note kinds) (slot (set (Written os i at.owner u) i None) j) (note_at new j)
            each are j =
                elim (cases_eq j i) [
                  | inl same ↦
                      subst (λ (n : ℕ). IsNotedAt P (no_note kinds) (slot (set (Written os i at.owner u) i None) n) (note_at new n)) (sym same)
                      (subst (λ (o : Option (Flow × A)). IsNotedAt P (no_note kinds) o (note_at new i)) (sym none_here)
                      (subst (λ (o : Option (Flow × A)). IsNotedAt (λ g a m. Unit {0}) (no_note kinds) o (note_at new i)) none_here (are i)))
                  | inr apart ↦
                      subst (λ (o : Option (Flow × A)). IsNotedAt P (no_note kinds) o (note_at new j)) (sym (slot_there (Written os i at.owner u) i j None apart ∙ slot_there os i j (Some (at.owner, u)) apart))
                      (subst (IsNotedAt P (no_note kinds) (slot os j)) (sym (others j apart)) (is.kept.noted j))
                ]

        -- it goes, with its note
        pub table_left : (more : List (Option Flow)) (ps : Slots A) (new : Tables) → IsPlaced (length t) more ps new → ps ≡ set (Written os i at.owner u) i None → ((j : ℕ) → j ≢ i → note_at new j ≡ note_at t j) → IsTable P kinds more ps new
        table_left more ps new is_placed e others = subst (λ (qs : Slots A). IsTable P kinds more qs new) (sym e) (left_so more new (subst (λ (qs : Slots A). IsPlaced (length t) more qs new) e is_placed) others)

    -- THE FIRST of a kind, by places, is the first of the notes
    module _ (kind : ℕ) (no_moment : slot (no_note kinds) kind ≡ None) (m i : ℕ) (first : IsFirst (moment_of_kind t kind) m i) where
      abbrev Noted : Note → Option ℕ
      Noted n = slot n kind

      pub first_taken : (e : Flow × A) × (slot os i ≡ Some e)
      first_taken = stands_first P (no_note kinds) Noted (slot os i) (note_at t i) m no_moment (is.kept.noted i) first.there

      pub first_within : i < length os
      first_within = slot_within os i first_taken.0 first_taken.1

      pub first_room : HasRoom (suc i) t
      first_room = let w = first_within in room_less (suc i) (length os) t (omega arith) is.room

      pub first_noted : IsFirstIn Noted (notes_in os (note_at t)) m (rank os i)
      first_noted = first_in Noted os (note_at t) m i first_taken.0 first_taken.1 first

      -- as it is read from its place
      module _ (r : Option (Flow × A)) (v : r ≡ slice_index_or os i r) where
        first_read : r ≡ Some first_taken.0
        first_read = v ∙ read_any os i r first_taken.0 first_taken.1

        pub first_stands : r ≡ None → ⊥
        first_stands e = some_none first_taken.0 (sym first_read ∙ e)

        module _ (g : Flow) (s : A) (read : r ≡ Some (g, s)) where
          pub first_slot : slot os i ≡ Some (g, s)
          first_slot = first_taken.1 ∙ sym first_read ∙ read

          pub first_kept : P g s (note_at t i)
          first_kept = noted_at P (no_note kinds) os (note_at t) is.kept.noted i (g, s) first_slot

    -- THE NOTE OF A PLACE is made right
    pub noted_again : (i : ℕ) (g : Flow) (s : A) → slot os i ≡ Some (g, s) → (new : Tables) → P g s (note_at new i) → ((j : ℕ) → j ≢ i → note_at new j ≡ note_at t j) → ((count : ℕ) → HasRoom count t → HasRoom count new) → IsTable P kinds flows os new
    noted_again i g s stands new here others room = record {
      counted = same_kinds t new (suc i) (others (suc i) (λ e. omega arith)) ∙ is.counted;
      long = is.long;
      room = room (length os) is.room;
      kept = record { named = is.kept.named; noted = each };
    }
      where
        each : (j : ℕ) → IsNotedAt P (no_note kinds) (slot os j) (note_at new j)
        each j =
            elim (cases_eq j i) [
              | inl same ↦
                  subst (λ (n : ℕ). IsNotedAt P (no_note kinds) (slot os n) (note_at new n)) (sym same)
                  (subst (λ (q : Option (Flow × A)). IsNotedAt P (no_note kinds) q (note_at new i)) (sym stands) here)
              | inr apart ↦ subst (IsNotedAt P (no_note kinds) (slot os j)) (sym (others j apart)) (is.kept.noted j)
            ]

    -- AFTER A RECORD WAS ADDED, or none was
    module _ (more : List (Option Flow)) (ps : Slots A) (new : Tables) (after : IsPlaced (length t) more ps new) where
      ready : IsPlaced kinds more ps new
      ready = as_kinds more ps new after

      pub rows_kept : rows ps (note_at new) ≡ rows os (note_at t) → IsTable P kinds more ps new
      rows_kept e = once_again more ps new ready (subst (λ (rs : List (Row A)). AllRows P (no_note kinds) rs) (sym e) each_row)

      pub present_kept : rows ps (note_at new) ≡ rows os (note_at t) → present ps ≡ present os
      present_kept e = sym (entries_are ps (note_at new)) ∙ ap (λ (rs : List (Row A)). entries rs) e ∙ entries_are os (note_at t)

      module _ (f : Flow) (u : A) (n : Note) (e : rows ps (note_at new) ≡ rows os (note_at t) ++ row_of (f, u) n ∷ []) where
        pub rows_more : P f u n → IsTable P kinds more ps new
        rows_more own = once_again more ps new ready (subst (λ (rs : List (Row A)). AllRows P (no_note kinds) rs) (sym e) (all_more P (no_note kinds) (rows os (note_at t)) (row_of (f, u) n) each_row own))

        pub present_more : lookup (equal_flows f) (present os) ≡ None → present ps ≡ insert_entry equal_flows (present os) f u
        present_more none =
            sym (entries_are ps (note_at new))
            ∙ ap (λ (rs : List (Row A)). entries rs) e
            ∙ entries_more (rows os (note_at t)) (row_of (f, u) n)
            ∙ ap (λ (es : List (Flow × A)). es ++ (f, u) ∷ []) (entries_are os (note_at t))
            ∙ sym (inserted_last f u (present os) none)

-- a record was written, and isn't noted yet
pub written_placed : {A : Type 0} (P : Flow → A → Note → Type 0) (kinds : ℕ) (flows : List (Option Flow)) (os : Slots A) (t : Tables) (is : IsTable P kinds flows os t) (f : Flow) (i : ℕ) (at : Read flows os f i) (u : A) → IsPlaced (length t) flows (Written os i at.owner u) t
written_placed P kinds flows os t is f i at u =
    subst (λ (k : ℕ). IsPlaced k flows (Written os i at.owner u) t) (sym is.counted)
    (table_set (λ g a n. Unit {0}) kinds flows os t (placed P kinds flows os t is) f i at u t tt (λ j apart. refl) (λ count room. room))
