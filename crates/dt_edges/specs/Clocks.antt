-- What contracts see of a clock.
use Rattle.std.specs.Prelude.{ℕ, ◌+◌, ◌-◌, ◌<◌, ◌≡◌, List, length, map, slice_index_or, Option, Some, None, IfSome, IsSome, if◌then◌else◌, nat_lt}
use Rattle.std.specs.List.{range_with_len}
use Rattle.dt_edges.specs.Counts.{last_count, next_count}
use Rattle.dt_edges.specs.Telling.{Notes}

pub record ClockSight : Type 0 where
  -- the readings so far, where they are told
  pub readings : Option (List ℕ)
  -- The readings that come, one or more, where they are told. The last one repeats.
  pub plan : Option (List ℕ)

-- the reading of this number, counted from 0: the plan's, or its last where it has fewer
abbrev pub reading_at : List ℕ → ℕ → ℕ
reading_at plan k = slice_index_or plan k (slice_index_or plan (length plan - 1) 0)

-- A reading: the next that is told, and the planned one where a plan is told. Who tells a plan goes on
-- telling its readings while they are fewer than 2^64 - 1.
pub record ReadsOne (reading : ℕ) (before after : ClockSight) : Type 0 where
  pub some : IfSome before.plan (λ plan. 0 < length plan)
  pub readings : Notes reading before.readings after.readings
  pub by_plan : IfSome before.plan (λ plan. IfSome before.readings (λ earlier. reading ≡ reading_at plan (length earlier)))
  pub tells : IfSome before.plan (λ plan. IfSome before.readings (λ earlier. length earlier + 1 < last_count → IsSome after.readings))
  pub plan : after.plan ≡ before.plan

-- IN MEMORY

pub record ClockInMemory : Type 0 where
  -- the readings that come
  pub plan : List ℕ
  -- how many readings were taken
  pub taken : ℕ

-- The readings that were taken so far. They are told until their count stands still.
abbrev pub told_readings : ClockInMemory → Option (List ℕ)
told_readings clock = if nat_lt clock.taken last_count then Some (map (reading_at clock.plan) (range_with_len 0 clock.taken)) else None

-- it tells its plan
abbrev pub clock_in_memory : ClockInMemory → ClockSight
clock_in_memory clock = record { readings = told_readings clock; plan = Some clock.plan }

-- a clock in memory after a reading
abbrev pub clock_after : ClockInMemory → ClockInMemory
clock_after clock = record clock { taken = next_count clock.taken }
