-- Counts of flows, as a map has them: 0 where it has none.
use Rattle.std.specs.Prelude.{ℕ, List}
use Rattle.std.specs.Option.{unwrap_or}
use Rattle.dt_units.specs.declared.endpoints.Flow.{Flow}
use Rattle.dt_world_model.specs.Tables.{look, same_flow}

abbrev pub count_of : List (Flow × ℕ) → Flow → ℕ
count_of counts f = unwrap_or (look same_flow f counts) 0
