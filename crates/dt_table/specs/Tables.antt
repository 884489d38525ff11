-- A table of records: each stands in a place of its own with its flow, and what is noted of it is noted there.
use Rattle.std.specs.Prelude.{ℕ, suc, ◌≡◌, ◌≤◌, [], ◌∷◌, length, List, option_map, Option, Some, None}
use Rattle.dt_units.specs.declared.endpoints.Flow.{Flow}
use Rattle.dt_table.specs.Agendas.{HasRoom, Note, Tables, no_note, note_at}
use Rattle.dt_table.specs.Places.{slot}

abbrev pub Slots : Type 0 → Type 0
Slots A = List (Option (Flow × A))

-- a record, its flow, and its note
abbrev pub Row : Type 0 → Type 0
Row A = (Flow × A) × Note

module _ {A : Type 0} where
  -- all that stand with their notes, in the order of their places
  abbrev pub rows : Slots A → (ℕ → Note) → List (Row A)
  rows [] note = []
  rows (None ∷ os) note = rows os (λ i. note (suc i))
  rows (Some e ∷ os) note = (e, note 0) ∷ rows os (λ i. note (suc i))

  -- WHAT IS NOTED of what stands in each place: of an empty one nothing
  module _ {N : Type 0} (P : Flow → A → N → Type 0) (nothing : N) where
    abbrev pub IsNotedAt : Option (Flow × A) → N → Type 0
    IsNotedAt None n = n ≡ nothing
    IsNotedAt (Some e) n = P e.0 e.1 n

    -- The places of flows are those of their records, and each has its note.
    pub record AreKept (flows : List (Option Flow)) (slots : Slots A) (note : ℕ → N) : Type 0 where
      pub named : (i : ℕ) → slot flows i ≡ option_map (λ e. e.0) (slot slots i)
      pub noted : (i : ℕ) → IsNotedAt (slot slots i) (note i)

  -- A TABLE of so many kinds: what P says of each record and its note holds.
  pub record IsTable (P : Flow → A → Note → Type 0) (kinds : ℕ) (flows : List (Option Flow)) (slots : Slots A) (t : Tables) : Type 0 where
    pub counted : length t ≡ kinds
    pub long : length slots ≤ length flows
    pub room : HasRoom (length slots) t
    pub kept : AreKept P (no_note kinds) flows slots (note_at t)

  -- the same where nothing is said of a record and its note
  abbrev pub IsPlaced : ℕ → List (Option Flow) → Slots A → Tables → Type 0
  IsPlaced kinds flows slots t = IsTable (λ f a n. Unit {0}) kinds flows slots t

-- what stands in the entries of a table, seen by their records
abbrev pub records_by : {A B : Type 0} → (A → B) → List (Flow × A) → List (Flow × B)
records_by record_in [] = []
records_by record_in (e ∷ es) = (e.0, record_in e.1) ∷ records_by record_in es

-- each record has its note, in the order of making
abbrev pub AreNoted : {B N : Type 0} → (B → N → Type 0) → List (Flow × B) → List N → Type 0
AreNoted P [] [] = Unit {0}
AreNoted P [] (n ∷ ns) = ⊥
AreNoted P (e ∷ es) [] = ⊥
AreNoted P (e ∷ es) (n ∷ ns) = P e.1 n × AreNoted P es ns
