-- The events of the world in which no time passes.
use Rattle.dt_world_model.specs.WorldStep.{Arrives, Loses, Passes, Reads, Restarts, Sends, Ticks, WorldEvent}

abbrev pub IsNoPass : WorldEvent → Type 0
IsNoPass (Passes by) = ⊥
IsNoPass (Sends f octets begin end) = Unit {0}
IsNoPass (Reads f most) = Unit {0}
IsNoPass (Ticks n) = Unit {0}
IsNoPass (Arrives copy) = Unit {0}
IsNoPass (Loses copy) = Unit {0}
IsNoPass (Restarts n) = Unit {0}
