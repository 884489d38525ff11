-- The records of a table close up, and one more stands after them.
use Rattle.std.proofs.Common.{ℕ, zero, suc, ◌≡◌, ◌≢◌, ◌+◌, ◌<◌, ◌≤◌, List, [], ◌∷◌, ◌++◌, length, length-append, length-take, set, take, Option, Some, None, inl, inr, refl, sym, ap, subst, ◌∙◌, arith}
use Rattle.std.specs.Prelude.{option_map}
use Rattle.std.specs.Map.{lookup}
use Rattle.std.proofs.lemmas.Bool.{cases_eq, cases_lt}
use Rattle.std.proofs.lemmas.List.{get_or-take, get_or_past, length-set}
use Rattle.dt_units.specs.declared.endpoints.Flow.{Flow}
use Rattle.dt_table.specs.Agendas.{HasRoom, Note, Tables, no_note, note_at}
use Rattle.dt_table.specs.Places.{StandOnce, equal_flows, place_in, present, slot}
use Rattle.dt_table.specs.Tables.{IsNotedAt, IsPlaced, Row, Slots, rows}
use Rattle.dt_table.proofs.Agendas.{no_room, room_less, same_kinds}
use Rattle.dt_table.proofs.Slots.{absent, kept_same, kept_set, owner, place_is}
use Rattle.dt_table.proofs.Somes.{none_some}
use Rattle.dt_table.proofs.Standing.{moved_to, one_empty, place_at, place_same, present_same, slot_here, slot_there, slot_within}
use Rattle.dt_table.proofs.Tables.{pair_at, paired, as_many_pairs, row_of, rows_are, rows_same}

module _ {A : Type 0} where
  abbrev pub Any : Flow → A → Note → Type 0
  Any f a n = Unit {0}

-- after all that stand one more is the last
appended : {B : Type 0} (os : List (Option B)) (i : ℕ) (b : B) → i < length os → ((j : ℕ) → i ≤ j → slot os j ≡ None) → present (set os i (Some b)) ≡ present os ++ b ∷ []
appended [] i b within rest = absurd (omega arith)
appended (o ∷ os) zero b within rest =
    let nothing : present (o ∷ os) ≡ [] = present_same (o ∷ os) [] (λ j. rest j (omega arith)) in
    let behind : present os ≡ [] = present_same os [] (λ j. rest (suc j) (omega arith)) in
    ap (λ (l : List _). b ∷ l) behind ∙ sym (ap (λ (l : List _). l ++ b ∷ []) nothing)
appended (None ∷ os) (suc i) b within rest = appended os i b (omega arith) (λ j le. rest (suc j) (omega arith))
appended (Some c ∷ os) (suc i) b within rest = ap (λ (l : List _). c ∷ l) (appended os i b (omega arith) (λ j le. rest (suc j) (omega arith)))

-- no records
pub empty_placed : {A : Type 0} (kinds : ℕ) (flows : List (Option Flow)) (os : Slots A) (t : Tables) → flows ≡ [] → os ≡ [] → length t ≡ kinds → ((i : ℕ) → note_at t i ≡ no_note kinds) → IsPlaced kinds flows os t
empty_placed kinds flows os t none empty counted notes = subst (λ (fs : List (Option Flow)). IsPlaced kinds fs os t) (sym none) (subst (λ (qs : Slots _). IsPlaced kinds [] qs t) (sym empty) (record { counted = counted; long = omega arith; room = no_room t; kept = record { named = λ i. refl; noted = notes } }))

module _ {A : Type 0} (kinds : ℕ) (flows : List (Option Flow)) (os : Slots A) (t : Tables) (is : IsPlaced kinds flows os t) where
  pub room_at : (i : ℕ) → i < length os → HasRoom (suc i) t
  room_at i within = room_less (suc i) (length os) t (omega arith) is.room

  -- ONE MOVES to a place before it
  module _ (once : StandOnce flows) (from to : ℕ) (le : to ≤ from) (gap : (k : ℕ) → to ≤ k → k < from → slot os k ≡ None) (f : Flow) (s : A) (here : slot os from ≡ Some (f, s)) (o : Option (Flow × A)) (gone : o ≡ None) where
    pub from_within : from < length os
    from_within = slot_within os from (f, s) here

    pub from_place : place_in f flows ≡ Some from
    from_place = once from f (is.kept.named from ∙ ap owner here)

    pub to_within : to < length flows
    to_within = let w = from_within in let l = is.long in omega arith

    pub to_empty : to ≢ from → slot flows to ≡ None
    to_empty apart = is.kept.named to ∙ ap owner (gap to (omega arith) (omega arith))

    abbrev pub Moved : Slots A
    Moved = set (set os from o) to (Some (f, s))

    pub moved_long : length Moved ≡ length os
    moved_long = length-set (set os from o) to (Some (f, s)) ∙ length-set os from o

    at_to : slot Moved to ≡ Some (f, s)
    at_to = slot_here (set os from o) to (Some (f, s)) (let n = length-set os from o in let w = from_within in omega arith)

    at_from : to ≢ from → slot Moved from ≡ None
    at_from apart = slot_there (set os from o) to from (Some (f, s)) (λ e. apart (sym e)) ∙ slot_here os from o from_within ∙ gone

    at_other : (i : ℕ) → i ≢ from → i ≢ to → slot Moved i ≡ slot os i
    at_other i a b = slot_there (set os from o) to i (Some (f, s)) b ∙ slot_there os from i o a

    pub moved_gap : (k : ℕ) → to + 1 ≤ k → k < from + 1 → slot Moved k ≡ None
    moved_gap k low high =
        elim (cases_eq k from) [
          | inl same ↦ subst (λ (n : ℕ). slot Moved n ≡ None) (sym same) (at_from (λ e. omega arith))
          | inr apart ↦ at_other k apart (λ e. omega arith) ∙ gap k (omega arith) (omega arith)
        ]

    module _ (more : List (Option Flow)) (e : more ≡ set (set flows from None) to (Some f)) (new : Tables) (note_from : to ≢ from → note_at new from ≡ no_note (length t)) (note_to : note_at new to ≡ note_at t from)
        (others : (i : ℕ) → i ≢ from → i ≢ to → note_at new i ≡ note_at t i) (room : (count : ℕ) → HasRoom count t → HasRoom count new) where
      named : (i : ℕ) → slot more i ≡ owner (slot Moved i)
      named i =
          ap (λ (fs : List (Option Flow)). slot fs i) e
          ∙ elim (cases_eq i to) [
            | inl same ↦
                subst (λ (n : ℕ). slot (set (set flows from None) to (Some f)) n ≡ owner (slot Moved n)) (sym same)
                (slot_here (set flows from None) to (Some f) (let n = length-set flows from None in let w = to_within in omega arith) ∙ ap owner (sym at_to))
            | inr apart ↦ slot_there (set flows from None) to i (Some f) apart ∙ beside i apart
          ]
        where
          beside : (i : ℕ) → i ≢ to → slot (set flows from None) i ≡ owner (slot Moved i)
          beside i apart =
              elim (cases_eq i from) [
                | inl same ↦
                    subst (λ (n : ℕ). slot (set flows from None) n ≡ owner (slot Moved n)) (sym same)
                    (slot_here flows from None (let w = from_within in let l = is.long in omega arith) ∙ ap owner (sym (at_from (λ e. apart (same ∙ sym e)))))
                | inr off ↦ slot_there flows from i None off ∙ is.kept.named i ∙ ap owner (sym (at_other i off apart))
              ]

      noted : (i : ℕ) → IsNotedAt Any (no_note kinds) (slot Moved i) (note_at new i)
      noted i =
          elim (cases_eq i to) [
            | inl same ↦ subst (λ (n : ℕ). IsNotedAt Any (no_note kinds) (slot Moved n) (note_at new n)) (sym same) (subst (λ (q : Option (Flow × A)). IsNotedAt Any (no_note kinds) q (note_at new to)) (sym at_to) tt)
            | inr apart ↦ beside i apart
          ]
        where
          beside : (i : ℕ) → i ≢ to → IsNotedAt Any (no_note kinds) (slot Moved i) (note_at new i)
          beside i apart =
              elim (cases_eq i from) [
                | inl same ↦
                    let off : to ≢ from = λ e. apart (same ∙ sym e) in
                    subst (λ (n : ℕ). IsNotedAt Any (no_note kinds) (slot Moved n) (note_at new n)) (sym same)
                    (subst (λ (q : Option (Flow × A)). IsNotedAt Any (no_note kinds) q (note_at new from)) (sym (at_from off)) (note_from off ∙ ap no_note is.counted))
                | inr off ↦
                    subst (λ (q : Option (Flow × A)). IsNotedAt Any (no_note kinds) q (note_at new i)) (sym (at_other i off apart))
                    (subst (IsNotedAt Any (no_note kinds) (slot os i)) (sym (others i off apart)) (is.kept.noted i))
              ]

      pub moved_placed : IsPlaced kinds more Moved new
      moved_placed =
          let long = moved_long in
          let fewer = ap (λ (fs : List (Option Flow)). length fs) e ∙ length-set (set flows from None) to (Some f) ∙ length-set flows from None in
          record {
            counted = same_kinds t new (suc (from + to)) (others (suc (from + to)) (λ a. omega arith) (λ a. omega arith)) ∙ is.counted;
            long = (let l = is.long in omega arith);
            room = subst (λ (n : ℕ). HasRoom n new) (sym long) (room (length os) is.room);
            kept = record { named = named; noted = noted };
          }

      -- all that stand have their notes as before
      abbrev Pairs : List (Option (Row A))
      Pairs = paired os (note_at t)

      abbrev Pair : Row A
      Pair = row_of (f, s) (note_at t from)

      abbrev After : List (Option (Row A))
      After = set (set Pairs from None) to (Some Pair)

      pair_there : slot Pairs from ≡ Some Pair
      pair_there = pair_at os (note_at t) from ∙ ap (option_map (λ (d : Flow × A). row_of d (note_at t from))) here

      pair_gap : (k : ℕ) → to ≤ k → k < from → slot Pairs k ≡ None
      pair_gap k low high = pair_at os (note_at t) k ∙ ap (option_map (λ (d : Flow × A). row_of d (note_at t k))) (gap k low high)

      pair_moved : (i : ℕ) → slot (paired Moved (note_at new)) i ≡ slot After i
      pair_moved i =
          pair_at Moved (note_at new) i
          ∙ elim (cases_eq i to) [
            | inl same ↦
                subst (λ (n : ℕ). option_map (λ (d : Flow × A). row_of d (note_at new n)) (slot Moved n) ≡ slot After n) (sym same)
                (ap (option_map (λ (d : Flow × A). row_of d (note_at new to))) at_to ∙ ap (λ (n : Note). Some (row_of (f, s) n)) note_to ∙ sym (slot_here (set Pairs from None) to (Some Pair) pair_within))
            | inr apart ↦ beside i apart ∙ sym (slot_there (set Pairs from None) to i (Some Pair) apart)
          ]
        where
          pair_within : to < length (set Pairs from None)
          pair_within = let n = length-set Pairs from None in let m = as_many_pairs os (note_at t) in let w = from_within in omega arith

          beside : (i : ℕ) → i ≢ to → option_map (λ (d : Flow × A). row_of d (note_at new i)) (slot Moved i) ≡ slot (set Pairs from None) i
          beside i apart =
              elim (cases_eq i from) [
                | inl same ↦
                    subst (λ (n : ℕ). option_map (λ (d : Flow × A). row_of d (note_at new n)) (slot Moved n) ≡ slot (set Pairs from None) n) (sym same)
                    (ap (option_map (λ (d : Flow × A). row_of d (note_at new from))) (at_from (λ a. apart (same ∙ sym a))) ∙ sym (slot_here Pairs from None (let m = as_many_pairs os (note_at t) in let w = from_within in omega arith)))
                | inr off ↦
                    ap (option_map (λ (d : Flow × A). row_of d (note_at new i))) (at_other i off apart)
                    ∙ ap (λ (n : Note). option_map (λ (d : Flow × A). row_of d n) (slot os i)) (others i off apart)
                    ∙ sym (pair_at os (note_at t) i)
                    ∙ sym (slot_there Pairs from i None off)
              ]

      pub moved_rows : rows Moved (note_at new) ≡ rows os (note_at t)
      moved_rows = rows_are Moved (note_at new) ∙ present_same (paired Moved (note_at new)) After pair_moved ∙ moved_to Pairs from to Pair le pair_there pair_gap ∙ sym (rows_are os (note_at t))

  -- PLACES BEHIND ALL that stand go
  module _ (to : ℕ) (rest : (k : ℕ) → to ≤ k → slot os k ≡ None) where
    each_cut : (i : ℕ) → slot (take to os) i ≡ slot os i
    each_cut i =
        elim (cases_lt i to) [
          | inl less ↦ get_or-take to os i None less
          | inr past ↦ get_or_past (take to os) i None (let n = length-take to os in omega arith) ∙ sym (rest i past)
        ]

    pub cut_rows : rows (take to os) (note_at t) ≡ rows os (note_at t)
    cut_rows = rows_same os (take to os) (note_at t) (note_at t) each_cut (λ i. refl)

    pub cut_placed : IsPlaced kinds flows (take to os) t
    cut_placed =
        let n = length-take to os in
        record {
          counted = is.counted;
          long = (let l = is.long in omega arith);
          room = room_less (length (take to os)) (length os) t (omega arith) is.room;
          kept = kept_same Any (no_note kinds) flows os (note_at t) is.kept flows (take to os) (note_at t) (λ i. refl) each_cut (λ i. refl);
        }

  -- MORE PLACES that are empty
  module _ (wide : List (Option Flow)) (same : (j : ℕ) → slot wide j ≡ slot flows j) (long : length flows ≤ length wide) (roomy : Tables) (notes : (j : ℕ) → note_at roomy j ≡ note_at t j) (room : HasRoom (length os) roomy) where
    pub held_placed : IsPlaced kinds wide os roomy
    held_placed = record {
      counted = same_kinds t roomy 0 (notes 0) ∙ is.counted;
      long = (let l = is.long in omega arith);
      room = room;
      kept = kept_same Any (no_note kinds) flows os (note_at t) is.kept wide os (note_at roomy) same (λ i. refl) notes;
    }

  -- ONE GOES
  module _ (f : Flow) (i : ℕ) (at : place_in f flows ≡ Some i) where
    pub its_place : i < length flows
    its_place = slot_within flows i f (place_at f flows i at)

    pub its_within : i < length os
    its_within = by (slot os i) refl
      where
        by : (o : Option (Flow × A)) → slot os i ≡ o → i < length os
        by None e = absurd (none_some f (sym (is.kept.named i ∙ ap owner e) ∙ place_at f flows i at))
        by (Some e) h = slot_within os i e h

    pub gone_placed : (more : List (Option Flow)) → more ≡ set flows i None → (new : Tables) → note_at new i ≡ no_note (length t) → ((j : ℕ) → j ≢ i → note_at new j ≡ note_at t j) → ((count : ℕ) → HasRoom count t → HasRoom count new) → IsPlaced kinds more (set os i None) new
    gone_placed more e new here others room =
        let l = length-set os i None in
        let m = ap (λ (fs : List (Option Flow)). length fs) e ∙ length-set flows i None in
        record {
          counted = same_kinds t new (suc i) (others (suc i) (λ a. omega arith)) ∙ is.counted;
          long = (let k = is.long in omega arith);
          room = subst (λ (k : ℕ). HasRoom k new) (sym l) (room (length os) is.room);
          kept = kept_set Any (no_note kinds) flows os (note_at t) is.kept more i None (note_at new) its_within (ap (λ (fs : List (Option Flow)). slot fs i) e ∙ slot_here flows i None its_place) (λ j apart. ap (λ (fs : List (Option Flow)). slot fs j) e ∙ slot_there flows i j None apart) (here ∙ ap no_note is.counted) others;
        }

  -- ONE IS ADDED after all others
  module _ (i : ℕ) (at : i ≡ length os) (ps : Slots A) (pushed : ps ≡ os ++ None ∷ []) (wide : List (Option Flow)) (same : (j : ℕ) → slot wide j ≡ slot flows j) (long : length flows ≤ length wide) (within : i < length wide)
      (roomy : Tables) (notes : (j : ℕ) → note_at roomy j ≡ note_at t j) (room : HasRoom (suc i) roomy) where
    pushed_long : length ps ≡ i + 1
    pushed_long = let n = ap (λ (l : Slots A). length l) pushed ∙ length-append os (None ∷ []) in omega arith

    still : (j : ℕ) → slot ps j ≡ slot os j
    still j = ap (λ (l : Slots A). slot l j) pushed ∙ one_empty os j

    pub pushed_rows : rows ps (note_at roomy) ≡ rows os (note_at t)
    pushed_rows = rows_same os ps (note_at t) (note_at roomy) still notes

    pub pushed_placed : IsPlaced kinds wide ps roomy
    pushed_placed = record {
      counted = same_kinds t roomy 0 (notes 0) ∙ is.counted;
      long = (let n = pushed_long in omega arith);
      room = (let n = pushed_long in let whole : suc i ≡ length ps = omega arith in subst (λ (k : ℕ). HasRoom k roomy) whole room);
      kept = kept_same Any (no_note kinds) flows os (note_at t) is.kept wide ps (note_at roomy) same still notes;
    }

    module _ (f : Flow) (none : lookup (equal_flows f) (present os) ≡ None) where
      pub still_none : place_in f wide ≡ None
      still_none = place_same f wide flows same ∙ place_is Any (no_note kinds) flows os (note_at t) is.kept f ∙ absent f os none

      rest_none : (j : ℕ) → i ≤ j → slot ps j ≡ None
      rest_none j le = still j ∙ get_or_past os j None (omega arith)

      pub last_empty : slot wide i ≡ None
      last_empty = same i ∙ is.kept.named i ∙ ap owner (get_or_past os i None (omega arith))

      module _ (u : A) (n : Note) (new : Tables) (here : note_at new i ≡ n) (others : (j : ℕ) → j ≢ i → note_at new j ≡ note_at roomy j) (wider : (count : ℕ) → HasRoom count roomy → HasRoom count new) where
        abbrev Added : Slots A
        Added = set ps i (Some (f, u))

        here_within : i < length ps
        here_within = let n = pushed_long in omega arith

        pub added_placed : (more : List (Option Flow)) → more ≡ set wide i (Some f) → IsPlaced kinds more Added new
        added_placed more e =
            let l = length-set ps i (Some (f, u)) in
            let m = ap (λ (fs : List (Option Flow)). length fs) e ∙ length-set wide i (Some f) in
            let ready = pushed_placed in
            record {
              counted = same_kinds roomy new (suc i) (others (suc i) (λ a. omega arith)) ∙ ready.counted;
              long = (let k = ready.long in omega arith);
              room = subst (λ (k : ℕ). HasRoom k new) (sym l) (wider (length ps) ready.room);
              kept = kept_set Any (no_note kinds) wide ps (note_at roomy) ready.kept more i (Some (f, u)) (note_at new) here_within (ap (λ (fs : List (Option Flow)). slot fs i) e ∙ slot_here wide i (Some f) within) (λ j apart. ap (λ (fs : List (Option Flow)). slot fs j) e ∙ slot_there wide i j (Some f) apart) tt others;
            }

        pub added_rows : rows Added (note_at new) ≡ rows os (note_at t) ++ row_of (f, u) n ∷ []
        added_rows =
            rows_are Added (note_at new)
            ∙ present_same (paired Added (note_at new)) (set (paired ps (note_at roomy)) i (Some (row_of (f, u) n))) each
            ∙ appended (paired ps (note_at roomy)) i (row_of (f, u) n) pair_within (λ j le. pair_at ps (note_at roomy) j ∙ ap (option_map (λ (d : Flow × A). row_of d (note_at roomy j))) (rest_none j le))
            ∙ ap (λ (l : List (Row A)). l ++ row_of (f, u) n ∷ []) (sym (rows_are ps (note_at roomy)) ∙ pushed_rows)
          where
            pair_within : i < length (paired ps (note_at roomy))
            pair_within = let m = as_many_pairs ps (note_at roomy) in let w = here_within in omega arith

            each : (j : ℕ) → slot (paired Added (note_at new)) j ≡ slot (set (paired ps (note_at roomy)) i (Some (row_of (f, u) n))) j
            each j =
                pair_at Added (note_at new) j
                ∙ elim (cases_eq j i) [
                  | inl e ↦
                      subst (λ (k : ℕ). option_map (λ (d : Flow × A). row_of d (note_at new k)) (slot Added k) ≡ slot (set (paired ps (note_at roomy)) i (Some (row_of (f, u) n))) k) (sym e)
                      (ap (option_map (λ (d : Flow × A). row_of d (note_at new i))) (slot_here ps i (Some (f, u)) here_within) ∙ ap (λ (m : Note). Some (row_of (f, u) m)) here ∙ sym (slot_here (paired ps (note_at roomy)) i (Some (row_of (f, u) n)) pair_within))
                  | inr apart ↦
                      ap (option_map (λ (d : Flow × A). row_of d (note_at new j))) (slot_there ps i j (Some (f, u)) apart)
                      ∙ ap (λ (m : Note). option_map (λ (d : Flow × A). row_of d m) (slot ps j)) (others j apart)
                      ∙ sym (pair_at ps (note_at roomy) j)
                      ∙ sym (slot_there (paired ps (note_at roomy)) i j (Some (row_of (f, u) n)) apart)
                ]
