-- How large the numbers of a world are after so many steps: those that its log writes are numbers of the code.
use Rattle.std.specs.Prelude.{ℕ, ◌*◌, ◌<◌, ◌≤◌, ◌≡◌, ◌^◌, List, [], ◌∷◌}
use Rattle.dt_reports.specs.Entries.{Entry}
use Rattle.dt_world_model.specs.Tables.{AllEntries}
use Rattle.dt_world_model.specs.World.{Placed, World}
use Rattle.dt_world_model.specs.WorldStep.{Arrives, Loses, Passes, Reads, Restarts, Sends, Ticks, WorldEvent}
use Rattle.dt_audit.specs.Telling.{NodeInRange}

-- a station's number has 32 bits, and it began again at most so often
abbrev pub IsYoung : ℕ → ℕ → Placed → Type 0
IsYoung count n at = (n < 2 ^ 32) × (at.life ≤ count)

-- a world after so many steps, in each of which less than 2^32 ms pass and one station at most begins again
pub record IsWithin (count : ℕ) (w : World) : Type 0 where
  pub stations : AllEntries (IsYoung count) w.stations
  pub now : w.now ≤ count * 2 ^ 32

abbrev pub IsShort : WorldEvent → Type 0
IsShort (Passes by) = by < 2 ^ 32
IsShort (Sends f octets begin end) = Unit {0}
IsShort (Reads f most) = Unit {0}
IsShort (Ticks station) = Unit {0}
IsShort (Arrives copy) = Unit {0}
IsShort (Loses copy) = Unit {0}
IsShort (Restarts station) = Unit {0}

-- lines that were reported at one moment, each by a node whose number has 32 bits or by none
abbrev pub AreToldAt : ℕ → List Entry → Type 0
AreToldAt now [] = Unit {0}
AreToldAt now (entry ∷ entries) = (entry.moment ≡ now) × NodeInRange entry.node × AreToldAt now entries
