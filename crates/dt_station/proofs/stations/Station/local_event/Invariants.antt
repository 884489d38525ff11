use Rattle.dt_station.proofs.stations.Station.local_event.Given as goal

abbrev pub ghosts-do_local_event : goal.ghosts-do_local_event
ghosts-do_local_event g a = record { name = a.ledger.name; parts = a.ledger.parts }
