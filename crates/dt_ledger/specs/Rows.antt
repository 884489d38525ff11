-- Changes of taken rows by place, and what is kept beside the rows.
use Rattle.std.specs.Prelude.{ℕ, zero, suc, ◌+◌, ◌≤◌, ◌≡◌, nat_lt, if◌then◌else◌, Bool, false, ◌&&◌, List, [], ◌∷◌, length}
use Rattle.dt_flow_model.specs.declared.rows.Fate.{Fate}
use Rattle.dt_flow_model.specs.declared.rows.Fate.TheVariants.{Open, Acked, Uncertain}
use Rattle.dt_flow_model.specs.declared.rows.Taken.{Taken}
use Rattle.dt_flow_model.specs.Ledger.{is_open_in, is_unsent}
use Rattle.dt_ledger.specs.declared.fate_counts.FateCounts.{FateCounts}
use Rattle.dt_ledger.specs.declared.progress.Passed.{Passed}
use Rattle.dt_ledger.specs.declared.progress.Progress.{Progress}

-- `count` rows from the place on are changed. They are there
abbrev pub change_at : (Taken → Taken) → ℕ → ℕ → List Taken → List Taken
change_at change place count [] = []
change_at change zero zero (row ∷ rows) = row ∷ rows
change_at change zero (suc count) (row ∷ rows) = change row ∷ change_at change zero count rows
change_at change (suc place) count (row ∷ rows) = row ∷ change_at change place count rows

abbrev pub with_fate : Fate → Taken → Taken
with_fate fate row = record row { fate = fate }

-- `count` rows from the place on get the fate
abbrev pub settle_at : Fate → ℕ → ℕ → List Taken → List Taken
settle_at fate place count rows = change_at (with_fate fate) place count rows

-- how many rows there are of each fate
abbrev pub and_one : Fate → FateCounts → FateCounts
and_one Open counts = record counts { unsettled = counts.unsettled + 1 }
and_one Acked counts = record counts { acked = counts.acked + 1 }
and_one Uncertain counts = record counts { uncertain = counts.uncertain + 1 }

abbrev pub fates_in : List Taken → FateCounts
fates_in [] = record { unsettled = 0; acked = 0; uncertain = 0 }
fates_in (row ∷ rows) = and_one row.fate (fates_in rows)

abbrev pub count_of : Fate → FateCounts → ℕ
count_of Open counts = counts.unsettled
count_of Acked counts = counts.acked
count_of Uncertain counts = counts.uncertain

-- whether a row waits for its first transmission in this life
abbrev pub waits_in : ℕ → Taken → Bool
waits_in life row = is_open_in life row && is_unsent row.first

-- the test fails at each of the first rows, so many
abbrev pub NoneBelow : (Taken → Bool) → ℕ → List Taken → Type 0
NoneBelow test zero rows = Unit {0}
NoneBelow test (suc below) [] = Unit {0}
NoneBelow test (suc below) (row ∷ rows) = (test row ≡ false) × NoneBelow test below rows

-- no row is of a later life
abbrev pub LivesUpTo : ℕ → List Taken → Type 0
LivesUpTo most [] = Unit {0}
LivesUpTo most (row ∷ rows) = (row.life ≤ most) × LivesUpTo most rows

-- A life, and a place below which none of its rows is sought.
abbrev pub IsPassed : (ℕ → Taken → Bool) → Passed → List Taken → Type 0
IsPassed test passed rows = (passed.below ≤ length rows) × NoneBelow (test passed.life) passed.below rows

-- What is kept beside the rows: how many there are of each fate, the latest life, and from where on open rows and those that wait are sought.
pub record AreBeside (counts : FateCounts) (progress : Progress) (rows : List Taken) : Type 0 where
  pub fates : counts ≡ fates_in rows
  pub lives : LivesUpTo progress.latest rows
  pub settled : IsPassed is_open_in progress.settled rows
  pub sent : IsPassed waits_in progress.sent rows

-- rows of a life come after the first rows, so many: a life that is later than all before begins there
abbrev pub progress_in : ℕ → ℕ → Progress → Progress
progress_in life count progress =
    if nat_lt progress.latest life
    then (record { latest = life; settled = record { life = life; below = count }; sent = record { life = life; below = count } })
    else progress
