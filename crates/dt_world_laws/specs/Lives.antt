-- How often a list of events starts a station again.
use Rattle.std.specs.Prelude.{ℕ, ◌+◌, ◌==◌, List, [], ◌∷◌}
use Rattle.dt_world_model.specs.Host.{one_if}
use Rattle.dt_world_model.specs.WorldStep.{Arrives, Loses, Passes, Reads, Restarts, Sends, Ticks, WorldEvent}

abbrev pub restart_in : ℕ → WorldEvent → ℕ
restart_in n (Passes by) = 0
restart_in n (Sends f octets begin end) = 0
restart_in n (Reads f most) = 0
restart_in n (Ticks station) = 0
restart_in n (Arrives copy) = 0
restart_in n (Loses copy) = 0
restart_in n (Restarts station) = one_if (station == n)

abbrev pub restarts_in : ℕ → List WorldEvent → ℕ
restarts_in n [] = 0
restarts_in n (e ∷ es) = restart_in n e + restarts_in n es
