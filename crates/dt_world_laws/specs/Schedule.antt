-- A whole schedule: numbers go round within it, packets come twice and in another order, one is lost, an event is refused, and the sending station starts again.
use Rattle.std.specs.Prelude.{true, List, [], ◌∷◌}
use Rattle.dt_units.specs.declared.parameters.Params.{Params}
use Rattle.dt_world_model.specs.Setup.{Setup}
use Rattle.dt_world_model.specs.WorldStep.{Arrives, Loses, Passes, Reads, Restarts, Sends, Ticks, WorldEvent}
use Rattle.dt_world_model.specs.Worked.{main_flow, standard}

abbrev pub near_the_end : Params
near_the_end = record standard { seg = 4; start = 4294967292 }

abbrev pub two_ways : Setup
two_ways =
    record {
      params = near_the_end;
      stations = (1, 5) ∷ (2, 0) ∷ [];
      links = (record { link = 1; from = 1; to = 2; charge = 50; pace = 0 }) ∷ (record { link = 2; from = 2; to = 1; charge = 50; pace = 0 }) ∷ [];
      routes = (1, record { to = 2; link = 1 }) ∷ (2, record { to = 1; link = 2 }) ∷ [];
    }

abbrev pub schedule : List WorldEvent
schedule =
    Sends main_flow (97 ∷ 98 ∷ 99 ∷ 100 ∷ 101 ∷ 102 ∷ 103 ∷ 104 ∷ 105 ∷ 106 ∷ []) true true
    ∷ Arrives 0
    ∷ Arrives 0
    ∷ Arrives 2
    ∷ Arrives 1
    ∷ Arrives 2
    ∷ Loses 5
    ∷ Arrives 5
    ∷ Reads main_flow 4
    ∷ Restarts 1
    ∷ Passes 6200
    ∷ Ticks 2
    ∷ Sends main_flow (107 ∷ []) true true
    ∷ Arrives 6
    ∷ Reads main_flow 100
    ∷ []
