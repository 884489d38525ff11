-- The stations of a world that begins.
use Rattle.std.specs.Prelude.{ℕ, List, map}
use Rattle.dt_world_model.specs.Setup.{Setup, placed_first}
use Rattle.dt_world_model.specs.World.{Placed}

-- the stations of a setup, each as it starts first
abbrev pub begun_stations : Setup → List (ℕ × ℕ) → List (ℕ × Placed)
begun_stations s zeros = map (λ e. (e.0, placed_first s e.0 e.1)) zeros
