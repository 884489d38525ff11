-- How many octets of a flow a list of events hands in.
use Rattle.std.specs.Prelude.{ℕ, ◌+◌, if◌then◌else◌, List, [], ◌∷◌, length}
use Rattle.dt_units.specs.declared.endpoints.Flow.{Flow}
use Rattle.dt_world_model.specs.Tables.{same_flow}
use Rattle.dt_world_model.specs.WorldStep.{Arrives, Loses, Passes, Reads, Restarts, Sends, Ticks, WorldEvent}

abbrev pub handed_in : Flow → WorldEvent → ℕ
handed_in f (Passes by) = 0
handed_in f (Sends g octets begin end) = if same_flow g f then length octets else 0
handed_in f (Reads g most) = 0
handed_in f (Ticks station) = 0
handed_in f (Arrives copy) = 0
handed_in f (Loses copy) = 0
handed_in f (Restarts station) = 0

abbrev pub handed_in_all : Flow → List WorldEvent → ℕ
handed_in_all f [] = 0
handed_in_all f (e ∷ es) = handed_in f e + handed_in_all f es
