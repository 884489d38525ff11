-- Read counts as they are kept: by their life.
use Rattle.std.specs.Prelude.{ℕ, ◌≡◌, List, [], ◌∷◌, Option, Some, None, map}
use Rattle.dt_flow_model.specs.declared.rows.ReadCount.{ReadCount}
use Rattle.dt_world_model.specs.Tables.{total}

abbrev pub reads_in : List (ℕ × ℕ) → List ReadCount
reads_in entries = map (λ e. record { life = e.0; count = e.1 }) entries

-- those of a first life that was read in, and of others
abbrev pub all_reads : Option ReadCount → List ReadCount → List ReadCount
all_reads None later = later
all_reads (Some first) later = first ∷ later

-- how many octets were read, over all lives
abbrev pub read_of_all : List ReadCount → ℕ
read_of_all reads = total (λ r. r.count) reads

-- What is kept of reads: without a first life there is no other, and the sum over all.
pub record AreReads (first : Option ReadCount) (later : List ReadCount) (all : ℕ) : Type 0 where
  pub none : first ≡ None → later ≡ []
  pub sum : all ≡ read_of_all (all_reads first later)
