use Rattle.dt_station.proofs.stations.Station.arrive.Given as goal

abbrev pub ghosts-do_arrival : goal.ghosts-do_arrival
ghosts-do_arrival g a = record { name = a.ledger.name; parts = a.ledger.parts }
