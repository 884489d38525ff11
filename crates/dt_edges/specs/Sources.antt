-- What contracts see of a source.
use Rattle.std.specs.Prelude.{ℕ, List, drop, Option, Some, Result, Ok, Err}
use Rattle.dt_edges.specs.declared.failures.Failed.{Failed}
use Rattle.dt_edges.specs.Counts.{next_count, as_count}

pub record SourceSight : Type 0 where
  -- the octets that are left, where they are told
  pub left : Option (List ℕ)
  -- how many takes failed
  pub faults : ℕ

-- IN MEMORY

pub record SourceInMemory : Type 0 where
  pub left : List ℕ
  -- the numbers of the takes that fail, the first of which is number 1
  pub failing : List ℕ
  -- how many takes were called, and how many failed
  pub calls : ℕ
  pub faults : ℕ

-- it tells all that is left
abbrev pub source_in_memory : SourceInMemory → SourceSight
source_in_memory source = record { left = Some source.left; faults = as_count source.faults }

-- a source in memory after a take
abbrev pub source_after : Result ℕ Failed → SourceInMemory → SourceInMemory
source_after (Ok n) source = record source { left = drop n source.left; calls = next_count source.calls }
source_after (Err _) source = record source { calls = next_count source.calls; faults = next_count source.faults }
