-- Tables: lists of entries with a key, in the order of their making. A key stands in one entry. With them what is said of a list's members together: a sum, and the earliest moment.
use Rattle.std.specs.Prelude.{ℕ, ◌+◌, ◌==◌, ◌≡◌, Bool, false, ◌&&◌, if◌then◌else◌, is_some, List, [], ◌∷◌, Option, Some, None}
use Rattle.dt_units.specs.declared.endpoints.Flow.{Flow}
use Rattle.dt_units.specs.Moments.{earlier}

abbrev pub same_flow : Flow → Flow → Bool
same_flow f g = (f.from.0 == g.from.0) && (f.from_port == g.from_port) && (f.to.0 == g.to.0) && (f.to_port == g.to_port)

module _ {K A : Type 0} (same : K → K → Bool) where
  -- what stands under a key
  abbrev pub look : K → List (K × A) → Option A
  look k [] = None
  look k (e ∷ es) = if same e.0 k then Some e.1 else look k es

  -- whether something does
  abbrev pub has_key : K → List (K × A) → Bool
  has_key k es = is_some (look k es)

  -- it stands in its key's entry, or in a new one at the end
  abbrev pub write : K → A → List (K × A) → List (K × A)
  write k a [] = (k, a) ∷ []
  write k a (e ∷ es) = if same e.0 k then (k, a) ∷ es else e ∷ write k a es

  -- the key's entry goes
  abbrev pub erase : K → List (K × A) → List (K × A)
  erase k [] = []
  erase k (e ∷ es) = if same e.0 k then es else e ∷ erase k es

  -- what stands under the key, or nothing
  abbrev pub write_or_erase : K → Option A → List (K × A) → List (K × A)
  write_or_erase k None es = erase k es
  write_or_erase k (Some a) es = write k a es

  -- no later entry has the key
  abbrev pub Lacks : K → List (K × A) → Type 0
  Lacks k [] = Unit {0}
  Lacks k (e ∷ es) = (same e.0 k ≡ false) × Lacks k es

  -- each key stands once
  abbrev pub Distinct : List (K × A) → Type 0
  Distinct [] = Unit {0}
  Distinct (e ∷ es) = Lacks e.0 es × Distinct es

-- what holds of each entry, by its key
abbrev pub AllEntries : {K A : Type 0} → (K → A → Type 0) → List (K × A) → Type 0
AllEntries P [] = Unit {0}
AllEntries P (e ∷ es) = P e.0 e.1 × AllEntries P es

-- the sum of what each counts for
abbrev pub total : {A : Type 0} → (A → ℕ) → List A → ℕ
total count [] = 0
total count (x ∷ xs) = count x + total count xs

-- the least of the moments that they have, or none
abbrev pub earliest : {A : Type 0} → (A → Option ℕ) → List A → Option ℕ
earliest moment [] = None
earliest moment (x ∷ xs) = earlier (moment x) (earliest moment xs)
