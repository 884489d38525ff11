-- Records in places, and their notes: what the calls of a map do to a table's entries is done to the places, and notes by places are notes in the order of making.
use Rattle.std.proofs.Common.{ℕ, zero, suc, ◌≡◌, ◌≢◌, ◌<◌, ◌≤◌, ◌⊎◌, Bool, true, false, List, [], ◌∷◌, length, set, Option, Some, None, refl, sym, ap, subst, ◌∙◌, inl, inr, arith, cond}
use Rattle.std.specs.Prelude.{if◌then◌else◌, option_map, slice_get, slice_index_or}
use Rattle.std.specs.Option.{option_and_then}
use Rattle.std.specs.Map.{lookup, remove_entry, set_value}
use Rattle.std.proofs.lemmas.Bool.{cases_Bool, cases_eq, cases_lt}
use Rattle.std.proofs.lemmas.List.{get_or_past}
use Rattle.dt_units.specs.declared.endpoints.Flow.{Flow}
use Rattle.dt_world_model.specs.Tables.{AllEntries, Distinct, Lacks, same_flow}
use Rattle.dt_world_model.proofs.Tables.{flow_is, flow_self}
use Rattle.dt_timers.specs.Deadlines.{HasNoMoment, IsFirst}
use Rattle.dt_table.specs.Firsts.{HasNone, IsFirstIn, moment_in}
use Rattle.dt_table.specs.Tables.{records_by}
use Rattle.dt_table.specs.Tables.{AreNoted}
use Rattle.dt_table.specs.Places.{StandOnce, equal_flows, is_of, place_in, present, slot}
use Rattle.dt_table.specs.Tables.{AreKept, IsNotedAt}
use Rattle.dt_table.proofs.Entries.{removed_written}
use Rattle.dt_world_model.proofs.Maps.{flows_agree}
use Rattle.dt_table.proofs.Somes.{none_some, same_some, some_none}
use Rattle.dt_table.proofs.Standing.{later_none, later_some, place_same, slot_here, slot_there, slot_within}

later : (f : Flow) (o : Option Flow) (os : List (Option Flow)) (i : ℕ) → is_of f o ≡ false → place_in f (o ∷ os) ≡ Some i → (j : ℕ) × (place_in f os ≡ Some j) × (i ≡ suc j)
later f o os i n h = later_some (place_in f os) i (sym (ap (λ (b : Bool). if b then Some 0 else option_map suc (place_in f os)) n) ∙ h)

first_place : (f : Flow) (o : Option Flow) (os : List (Option Flow)) (i : ℕ) → is_of f o ≡ true → place_in f (o ∷ os) ≡ Some i → 0 ≡ i
first_place f o os i y h = same_some 0 i (sym (ap (λ (b : Bool). if b then Some 0 else option_map suc (place_in f os)) y) ∙ h)

once_later : (o : Option Flow) (os : List (Option Flow)) → StandOnce (o ∷ os) → StandOnce os
once_later o os once = λ i f h. by i f (once (suc i) f h) (cases_Bool (is_of f o))
  where
    by : (i : ℕ) (f : Flow) → place_in f (o ∷ os) ≡ Some (suc i) → (is_of f o ≡ true) ⊎ (is_of f o ≡ false) → place_in f os ≡ Some i
    by i f at (inl y) = let z = first_place f o os (suc i) y at in absurd (omega arith)
    by i f at (inr n) = let j = later f o os (suc i) n at in j.1 ∙ ap (λ (k : ℕ). Some k) (let e = j.2 in omega arith)

module _ {A : Type 0} where
  abbrev pub owner : Option (Flow × A) → Option Flow
  owner o = option_map (λ (e : Flow × A). e.0) o

  -- the places of the flows, as the records tell them
  abbrev pub owners : List (Option (Flow × A)) → List (Option Flow)
  owners [] = []
  owners (o ∷ os) = owner o ∷ owners os

  pub owner_at : (os : List (Option (Flow × A))) (i : ℕ) → slot (owners os) i ≡ owner (slot os i)
  owner_at [] i = refl
  owner_at (o ∷ os) zero = refl
  owner_at (o ∷ os) (suc i) = owner_at os i

  pub as_many_owners : (os : List (Option (Flow × A))) → length (present (owners os)) ≡ length (present os)
  as_many_owners [] = refl
  as_many_owners (None ∷ os) = as_many_owners os
  as_many_owners (Some e ∷ os) = ap suc (as_many_owners os)

  skipped : (f : Flow) (e : Flow × A) → same_flow e.0 f ≡ false → equal_flows f e.0 ≡ false
  skipped f e n = flows_agree f e.0 ∙ n

  hit : (f : Flow) (e : Flow × A) → same_flow e.0 f ≡ true → equal_flows f e.0 ≡ true
  hit f e y = flows_agree f e.0 ∙ y

  -- what is read of a place, whatever stands for one beyond the last
  pub read_any : (os : List (Option (Flow × A))) (i : ℕ) (r : Option (Flow × A)) (e : Flow × A) → slot os i ≡ Some e → slice_index_or os i r ≡ Some e
  read_any [] i r e h = absurd (none_some e h)
  read_any (o ∷ os) zero r e h = h
  read_any (o ∷ os) (suc i) r e h = read_any os i r e h

  pub taken_from : (os : List (Option (Flow × A))) (i : ℕ) (r : Option (Flow × A)) (f : Flow) (a : A) → i < length os → r ≡ slice_index_or os i r → r ≡ Some (f, a) → slot os i ≡ Some (f, a)
  taken_from [] i r f a within v is = absurd (omega arith)
  taken_from (o ∷ os) zero r f a within v is = sym v ∙ is
  taken_from (o ∷ os) (suc i) r f a within v is = taken_from os i r f a (omega arith) v is

  pub rest_empty : (os : List (Option (Flow × A))) (to from : ℕ) → length os ≤ from → ((k : ℕ) → to ≤ k → k < from → slot os k ≡ None) → (k : ℕ) → to ≤ k → slot os k ≡ None
  rest_empty os to from past gap k le =
      elim (cases_lt k from) [
        | inl less ↦ gap k le less
        | inr beyond ↦ get_or_past os k None (omega arith)
      ]

  set_again : (os : List (Option (Flow × A))) (i : ℕ) (x y : Option (Flow × A)) → set (set os i x) i y ≡ set os i y
  set_again [] i x y = refl
  set_again (o ∷ os) zero x y = refl
  set_again (o ∷ os) (suc i) x y = ap (λ (l : List (Option (Flow × A))). o ∷ l) (set_again os i x y)

  -- THE RECORD OF A FLOW
  module _ (f : Flow) where
    pub found_at : (os : List (Option (Flow × A))) (i : ℕ) → place_in f (owners os) ≡ Some i → (a : A) × (slot os i ≡ Some (f, a)) × (lookup (equal_flows f) (present os) ≡ Some a)
    found_at [] i h = absurd (none_some i h)
    found_at (None ∷ os) i h =
        let j = later f None (owners os) i refl h in
        let r = found_at os j.0 j.1 in
        (r.0, subst (λ (n : ℕ). slot (None ∷ os) n ≡ Some (f, r.0)) (sym j.2) r.1, r.2)
    found_at (Some e ∷ os) i h =
        elim (cases_Bool (same_flow e.0 f)) [
          | inl y ↦ (
            e.1,
            subst (λ (n : ℕ). slot (Some e ∷ os) n ≡ Some (f, e.1)) (first_place f (Some e.0) (owners os) i y h) (ap (λ (g : Flow). Some (g, e.1)) (flow_is e.0 f y)),
            ap (λ (b : Bool). cond b (Some e.1) (lookup (equal_flows f) (present os))) (hit f e y),
          )
          | inr n ↦
              let j = later f (Some e.0) (owners os) i n h in
              let r = found_at os j.0 j.1 in
              (r.0, subst (λ (k : ℕ). slot (Some e ∷ os) k ≡ Some (f, r.0)) (sym j.2) r.1, ap (λ (b : Bool). cond b (Some e.1) (lookup (equal_flows f) (present os))) (skipped f e n) ∙ r.2)
        ]

    pub not_found : (os : List (Option (Flow × A))) → place_in f (owners os) ≡ None → lookup (equal_flows f) (present os) ≡ None
    not_found [] h = refl
    not_found (None ∷ os) h = not_found os (later_none (place_in f (owners os)) h)
    not_found (Some e ∷ os) h =
        elim (cases_Bool (same_flow e.0 f)) [
          | inl y ↦ absurd (some_none 0 (sym (ap (λ (b : Bool). if b then Some 0 else option_map suc (place_in f (owners os))) y) ∙ h))
          | inr n ↦
              ap (λ (b : Bool). cond b (Some e.1) (lookup (equal_flows f) (present os))) (skipped f e n)
              ∙ not_found os (later_none (place_in f (owners os)) (sym (ap (λ (b : Bool). if b then Some 0 else option_map suc (place_in f (owners os))) n) ∙ h))
        ]

    pub absent : (os : List (Option (Flow × A))) → lookup (equal_flows f) (present os) ≡ None → place_in f (owners os) ≡ None
    absent os h = by (place_in f (owners os)) refl
      where
        by : (o : Option ℕ) → place_in f (owners os) ≡ o → place_in f (owners os) ≡ None
        by None e = e
        by (Some i) e = let r = found_at os i e in absurd (none_some r.0 (sym h ∙ r.2))

    -- it is written, or it goes
    pub wrote : (a : A) (os : List (Option (Flow × A))) (i : ℕ) → place_in f (owners os) ≡ Some i → present (set os i (Some (f, a))) ≡ set_value (equal_flows f) (present os) a
    wrote a [] i h = absurd (none_some i h)
    wrote a (None ∷ os) i h =
        let j = later f None (owners os) i refl h in
        subst (λ (n : ℕ). present (set (None ∷ os) n (Some (f, a))) ≡ set_value (equal_flows f) (present os) a) (sym j.2) (wrote a os j.0 j.1)
    wrote a (Some e ∷ os) i h =
        elim (cases_Bool (same_flow e.0 f)) [
          | inl y ↦
              subst (λ (n : ℕ). present (set (Some e ∷ os) n (Some (f, a))) ≡ set_value (equal_flows f) (e ∷ present os) a) (first_place f (Some e.0) (owners os) i y h)
              (ap (λ (g : Flow). let d : Flow × A = (g, a) in d ∷ present os) (sym (flow_is e.0 f y)) ∙ sym (ap (λ (b : Bool). cond b ((e.0, a) ∷ present os) (e ∷ set_value (equal_flows f) (present os) a)) (hit f e y)))
          | inr n ↦
              let j = later f (Some e.0) (owners os) i n h in
              subst (λ (k : ℕ). present (set (Some e ∷ os) k (Some (f, a))) ≡ set_value (equal_flows f) (e ∷ present os) a) (sym j.2)
              (ap (λ (l : List (Flow × A)). e ∷ l) (wrote a os j.0 j.1) ∙ sym (ap (λ (b : Bool). cond b ((e.0, a) ∷ present os) (e ∷ set_value (equal_flows f) (present os) a)) (skipped f e n)))
        ]

    pub went : (os : List (Option (Flow × A))) (i : ℕ) → place_in f (owners os) ≡ Some i → present (set os i None) ≡ remove_entry (equal_flows f) (present os)
    went [] i h = absurd (none_some i h)
    went (None ∷ os) i h =
        let j = later f None (owners os) i refl h in
        subst (λ (n : ℕ). present (set (None ∷ os) n None) ≡ remove_entry (equal_flows f) (present os)) (sym j.2) (went os j.0 j.1)
    went (Some e ∷ os) i h =
        elim (cases_Bool (same_flow e.0 f)) [
          | inl y ↦
              subst (λ (n : ℕ). present (set (Some e ∷ os) n None) ≡ remove_entry (equal_flows f) (e ∷ present os)) (first_place f (Some e.0) (owners os) i y h)
              (sym (ap (λ (b : Bool). cond b (present os) (e ∷ remove_entry (equal_flows f) (present os))) (hit f e y)))
          | inr n ↦
              let j = later f (Some e.0) (owners os) i n h in
              subst (λ (k : ℕ). present (set (Some e ∷ os) k None) ≡ remove_entry (equal_flows f) (e ∷ present os)) (sym j.2)
              (ap (λ (l : List (Flow × A)). e ∷ l) (went os j.0 j.1) ∙ sym (ap (λ (b : Bool). cond b (present os) (e ∷ remove_entry (equal_flows f) (present os))) (skipped f e n)))
        ]

  -- EACH FLOW HAS ONE
  module _ {B : Type 0} (seen : A → B) where
    lacks : (f : Flow) (os : List (Option (Flow × A))) → ((i : ℕ) → slot (owners os) i ≡ Some f → ⊥) → Lacks same_flow f (records_by seen (present os))
    lacks f [] h = tt
    lacks f (None ∷ os) h = lacks f os (λ i. h (suc i))
    lacks f (Some e ∷ os) h =
        (elim (cases_Bool (same_flow e.0 f)) [ inl y ↦ absurd (h 0 (ap (λ (g : Flow). Some g) (flow_is e.0 f y))) | inr n ↦ n ], lacks f os (λ i. h (suc i)))

    pub distinct : (os : List (Option (Flow × A))) → StandOnce (owners os) → Distinct same_flow (records_by seen (present os))
    distinct [] once = tt
    distinct (None ∷ os) once = distinct os (once_later None (owners os) once)
    distinct (Some e ∷ os) once =
        (lacks e.0 os (λ i h. let z = first_place e.0 (Some e.0) (owners os) (suc i) (flow_self e.0) (once (suc i) e.0 h) in absurd (omega arith)), distinct os (once_later (Some e.0) (owners os) once))

  -- NOTES IN THE ORDER OF MAKING
  abbrev pub rank : List (Option (Flow × A)) → ℕ → ℕ
  rank [] i = 0
  rank (None ∷ os) zero = 0
  rank (None ∷ os) (suc i) = rank os i
  rank (Some e ∷ os) zero = 0
  rank (Some e ∷ os) (suc i) = suc (rank os i)

  pub entry_there : (os : List (Option (Flow × A))) (i : ℕ) (e : Flow × A) → slot os i ≡ Some e → slice_get (present os) (rank os i) ≡ Some e
  entry_there [] i e h = absurd (none_some e h)
  entry_there (None ∷ os) zero e h = absurd (none_some e h)
  entry_there (None ∷ os) (suc i) e h = entry_there os i e h
  entry_there (Some d ∷ os) zero e h = h
  entry_there (Some d ∷ os) (suc i) e h = entry_there os i e h

  rises : (os : List (Option (Flow × A))) (i j : ℕ) → i ≤ j → rank os i ≤ rank os j
  rises [] i j le = omega arith
  rises (None ∷ os) zero j le = omega arith
  rises (None ∷ os) (suc i) zero le = absurd (omega arith)
  rises (None ∷ os) (suc i) (suc j) le = rises os i j (omega arith)
  rises (Some e ∷ os) zero j le = omega arith
  rises (Some e ∷ os) (suc i) zero le = absurd (omega arith)
  rises (Some e ∷ os) (suc i) (suc j) le = let r = rises os i j (omega arith) in omega arith

  module _ {N : Type 0} where
    abbrev pub notes_in : List (Option (Flow × A)) → (ℕ → N) → List N
    notes_in [] note = []
    notes_in (None ∷ os) note = notes_in os (λ i. note (suc i))
    notes_in (Some e ∷ os) note = note 0 ∷ notes_in os (λ i. note (suc i))

    pub note_there : (os : List (Option (Flow × A))) (note : ℕ → N) (i : ℕ) (e : Flow × A) → slot os i ≡ Some e → slice_get (notes_in os note) (rank os i) ≡ Some (note i)
    note_there [] note i e h = absurd (none_some e h)
    note_there (None ∷ os) note zero e h = absurd (none_some e h)
    note_there (None ∷ os) note (suc i) e h = note_there os (λ k. note (suc k)) i e h
    note_there (Some d ∷ os) note zero e h = refl
    note_there (Some d ∷ os) note (suc i) e h = note_there os (λ k. note (suc k)) i e h

    pub note_from : (os : List (Option (Flow × A))) (note : ℕ → N) (j : ℕ) (n : N) → slice_get (notes_in os note) j ≡ Some n → (i : ℕ) × (rank os i ≡ j) × (note i ≡ n)
    note_from [] note j n h = absurd (none_some n h)
    note_from (None ∷ os) note j n h = let r = note_from os (λ k. note (suc k)) j n h in (suc r.0, r.1, r.2)
    note_from (Some d ∷ os) note zero n h = (0, refl, same_some (note 0) n h)
    note_from (Some d ∷ os) note (suc j) n h = let r = note_from os (λ k. note (suc k)) j n h in (suc r.0, ap suc r.1, r.2)

    notes_same : (os : List (Option (Flow × A))) (note new : ℕ → N) → ((i : ℕ) → new i ≡ note i) → notes_in os new ≡ notes_in os note
    notes_same [] note new h = refl
    notes_same (None ∷ os) note new h = notes_same os (λ k. note (suc k)) (λ k. new (suc k)) (λ i. h (suc i))
    notes_same (Some e ∷ os) note new h =
        ap (λ (n : N). n ∷ notes_in os (λ k. new (suc k))) (h 0) ∙ ap (λ (l : List N). note 0 ∷ l) (notes_same os (λ k. note (suc k)) (λ k. new (suc k)) (λ i. h (suc i)))

    pub notes_set : (os : List (Option (Flow × A))) (note new : ℕ → N) (i : ℕ) (e : Flow × A) → slot os i ≡ Some e → ((j : ℕ) → j ≢ i → new j ≡ note j) → notes_in os new ≡ set (notes_in os note) (rank os i) (new i)
    notes_set [] note new i e h others = absurd (none_some e h)
    notes_set (None ∷ os) note new zero e h others = absurd (none_some e h)
    notes_set (None ∷ os) note new (suc i) e h others = notes_set os (λ k. note (suc k)) (λ k. new (suc k)) i e h (λ j apart. others (suc j) (λ same. apart (omega arith)))
    notes_set (Some d ∷ os) note new zero e h others = ap (λ (l : List N). new 0 ∷ l) (notes_same os (λ k. note (suc k)) (λ k. new (suc k)) (λ i. others (suc i) (λ same. omega arith)))
    notes_set (Some d ∷ os) note new (suc i) e h others =
        ap (λ (n : N). n ∷ notes_in os (λ k. new (suc k))) (others 0 (λ same. omega arith))
        ∙ ap (λ (l : List N). note 0 ∷ l) (notes_set os (λ k. note (suc k)) (λ k. new (suc k)) i e h (λ j apart. others (suc j) (λ same. apart (omega arith))))

    -- THE FIRST by places is the first in the order of making
    module _ (noted : N → Option ℕ) (os : List (Option (Flow × A))) (note : ℕ → N) where
      moment_from : (j m : ℕ) → moment_in noted (notes_in os note) j ≡ Some m → (i : ℕ) × (rank os i ≡ j) × (noted (note i) ≡ Some m)
      moment_from j m h = by (slice_get (notes_in os note) j) refl
        where
          by : (o : Option N) → slice_get (notes_in os note) j ≡ o → (i : ℕ) × (rank os i ≡ j) × (noted (note i) ≡ Some m)
          by None e = absurd (none_some m (sym (ap (option_and_then noted) e) ∙ h))
          by (Some n) e =
              let r = note_from os note j n e in
              (r.0, r.1, ap noted r.2 ∙ sym (ap (option_and_then noted) e) ∙ h)

      pub none_in : HasNoMoment (λ i. noted (note i)) → HasNone noted (notes_in os note)
      none_in none = λ j m h. let r = moment_from j m h in none r.0 m r.2

      pub first_in : (m i : ℕ) (e : Flow × A) → slot os i ≡ Some e → IsFirst (λ i. noted (note i)) m i → IsFirstIn noted (notes_in os note) m (rank os i)
      first_in m i e at first = record {
        there = ap (option_and_then noted) (note_there os note i e at) ∙ first.there;
        least = λ j k h. (let r = moment_from j k h in no_less k (first.least r.0 k r.2));
        before = λ j k less h. (let r = moment_from j k h in sooner j k less r.0 r.1 (first.least r.0 k r.2));
      }
        where
          no_less : {P : Type 0} (k : ℕ) → (m < k) ⊎ ((m ≡ k) × P) → m ≤ k
          no_less k (inl l) = omega arith
          no_less k (inr e) = let same = e.0 in omega arith

          sooner : (j k : ℕ) → j < rank os i → (l : ℕ) → rank os l ≡ j → (m < k) ⊎ ((m ≡ k) × (i ≤ l)) → m < k
          sooner j k less l at (inl h) = h
          sooner j k less l at (inr h) = let r = rises os i l h.1 in absurd (omega arith)

    -- WHAT IS KEPT
    module _ (P : Flow → A → N → Type 0) (nothing : N) where
      -- the place of the first is taken
      pub stands_first : (noted : N → Option ℕ) (o : Option (Flow × A)) (n : N) (m : ℕ) → noted nothing ≡ None → IsNotedAt P nothing o n → noted n ≡ Some m → (e : Flow × A) × (o ≡ Some e)
      stands_first noted None n m none is h = absurd (none_some m (sym none ∙ ap noted (sym is) ∙ h))
      stands_first noted (Some e) n m none is h = (e, refl)

      pub noted_at : (os : List (Option (Flow × A))) (note : ℕ → N) → ((i : ℕ) → IsNotedAt P nothing (slot os i) (note i)) → (i : ℕ) (e : Flow × A) → slot os i ≡ Some e → P e.0 e.1 (note i)
      noted_at os note all i e h = subst (λ (o : Option (Flow × A)). IsNotedAt P nothing o (note i)) h (all i)

      pub all_entries : (Q : Flow → A → Type 0) → ((f : Flow) (a : A) (n : N) → P f a n → Q f a) → (os : List (Option (Flow × A))) (note : ℕ → N) → ((i : ℕ) → IsNotedAt P nothing (slot os i) (note i)) → AllEntries Q (present os)
      all_entries Q is [] note all = tt
      all_entries Q is (None ∷ os) note all = all_entries Q is os (λ k. note (suc k)) (λ i. all (suc i))
      all_entries Q is (Some e ∷ os) note all = (is e.0 e.1 (note 0) (all 0), all_entries Q is os (λ k. note (suc k)) (λ i. all (suc i)))

      pub are_noted : {B : Type 0} (seen : A → B) (Q : B → N → Type 0) → ((f : Flow) (a : A) (n : N) → P f a n → Q (seen a) n) → (os : List (Option (Flow × A))) (note : ℕ → N) → ((i : ℕ) → IsNotedAt P nothing (slot os i) (note i)) → AreNoted Q (records_by seen (present os)) (notes_in os note)
      are_noted seen Q is [] note all = tt
      are_noted seen Q is (None ∷ os) note all = are_noted seen Q is os (λ k. note (suc k)) (λ i. all (suc i))
      are_noted seen Q is (Some e ∷ os) note all = (is e.0 e.1 (note 0) (all 0), are_noted seen Q is os (λ k. note (suc k)) (λ i. all (suc i)))

      module _ (flows : List (Option Flow)) (os : List (Option (Flow × A))) (note : ℕ → N) (kept : AreKept P nothing flows os note) where
        pub place_is : (f : Flow) → place_in f flows ≡ place_in f (owners os)
        place_is f = place_same f flows (owners os) (λ i. kept.named i ∙ sym (owner_at os i))

        pub once_here : StandOnce flows → StandOnce (owners os)
        once_here once = λ i f h. sym (place_is f) ∙ once i f (kept.named i ∙ sym (owner_at os i) ∙ h)

        -- one place and its note change
        pub kept_set : (more : List (Option Flow)) (i : ℕ) (o : Option (Flow × A)) (new : ℕ → N) → i < length os → slot more i ≡ owner o → ((j : ℕ) → j ≢ i → slot more j ≡ slot flows j) → IsNotedAt P nothing o (new i) → ((j : ℕ) → j ≢ i → new j ≡ note j) → AreKept P nothing more (set os i o) new
        kept_set more i o new within own others is notes = record { named = each; noted = all }
          where
            each : (j : ℕ) → slot more j ≡ owner (slot (set os i o) j)
            each j =
                elim (cases_eq j i) [
                  | inl same ↦ subst (λ (n : ℕ). slot more n ≡ owner (slot (set os i o) n)) (sym same) (own ∙ ap owner (sym (slot_here os i o within)))
                  | inr apart ↦ others j apart ∙ kept.named j ∙ ap owner (sym (slot_there os i j o apart))
                ]

            all : (j : ℕ) → IsNotedAt P nothing (slot (set os i o) j) (new j)
            all j =
                elim (cases_eq j i) [
                  | inl same ↦ subst (λ (n : ℕ). IsNotedAt P nothing (slot (set os i o) n) (new n)) (sym same) (subst (λ (q : Option (Flow × A)). IsNotedAt P nothing q (new i)) (sym (slot_here os i o within)) is)
                  | inr apart ↦ subst (λ (q : Option (Flow × A)). IsNotedAt P nothing q (new j)) (sym (slot_there os i j o apart)) (subst (IsNotedAt P nothing (slot os j)) (sym (notes j apart)) (kept.noted j))
                ]

        -- all stays, place by place
        pub kept_same : (more : List (Option Flow)) (ps : List (Option (Flow × A))) (new : ℕ → N) → ((i : ℕ) → slot more i ≡ slot flows i) → ((i : ℕ) → slot ps i ≡ slot os i) → ((i : ℕ) → new i ≡ note i) → AreKept P nothing more ps new
        kept_same more ps new named slots notes = record {
          named = λ i. named i ∙ kept.named i ∙ ap owner (sym (slots i));
          noted = λ i. subst (λ (q : Option (Flow × A)). IsNotedAt P nothing q (new i)) (sym (slots i)) (subst (IsNotedAt P nothing (slot os i)) (sym (notes i)) (kept.noted i));
        }

        -- A RECORD THAT STANDS, as it is read from its place
        module _ (once : StandOnce flows) (f : Flow) (i : ℕ) (at : Some i ≡ place_in f flows) where
          pub its_place : place_in f (owners os) ≡ Some i
          its_place = sym (place_is f) ∙ sym at

          its_slot : (a : A) × (slot os i ≡ Some (f, a)) × (lookup (equal_flows f) (present os) ≡ Some a)
          its_slot = found_at f os i its_place

          pub its_within : i < length os
          its_within = slot_within os i (f, its_slot.0) its_slot.1

          module _ (r : Option (Flow × A)) (v : r ≡ slice_index_or os i r) where
            its_read : r ≡ Some (f, its_slot.0)
            its_read = v ∙ read_any os i r (f, its_slot.0) its_slot.1

            pub never_none : r ≡ None → ⊥
            never_none e = some_none (f, its_slot.0) (sym its_read ∙ e)

            module _ (g : Flow) (a : A) (is : r ≡ Some (g, a)) where
              its_entry : (let e : Flow × A = (f, its_slot.0) in e) ≡ (g, a)
              its_entry = same_some (f, its_slot.0) (g, a) (sym its_read ∙ is)

              pub its_flow : g ≡ f
              its_flow = ap (λ (e : Flow × A). e.0) (sym its_entry)

              pub its_found : lookup (equal_flows f) (present os) ≡ Some a
              its_found = its_slot.2 ∙ ap (λ (e : Flow × A). Some e.1) its_entry

              pub its_note : P f a (note i)
              its_note = noted_at os note kept.noted i (f, a) (its_slot.1 ∙ ap (λ (e : Flow × A). Some (f, e.1)) its_entry)

              -- it is written, or it goes
              pub entries_set : (b : A) → present (set os i (Some (g, b))) ≡ set_value (equal_flows f) (present os) b
              entries_set b = ap (λ (h : Flow). present (set os i (Some (h, b)))) its_flow ∙ wrote f b os i its_place

              pub entries_left : (b : A) → present (set (set os i (Some (g, b))) i None) ≡ remove_entry (equal_flows f) (set_value (equal_flows f) (present os) b)
              entries_left b = ap present (set_again os i (Some (g, b)) None) ∙ went f os i its_place ∙ sym (removed_written equal_flows same_flow flows_agree flow_is A A (λ (x : A). x) f b (present os))

              pub kept_on : (b : A) (new : ℕ → N) → P f b (new i) → ((j : ℕ) → j ≢ i → new j ≡ note j) → AreKept P nothing flows (set os i (Some (g, b))) new
              kept_on b new p others =
                  kept_set flows i (Some (g, b)) new its_within (sym at_flow) (λ j apart. refl) (subst (λ (h : Flow). P h b (new i)) (sym its_flow) p) others
                where
                  at_flow : Some g ≡ slot flows i
                  at_flow = ap (λ (h : Flow). Some h) its_flow ∙ sym (kept.named i ∙ ap owner its_slot.1)
