use Rattle.dt_station_tests.proofs.order_of_acts.the_host_orders_its_acts.Given as goal

abbrev pub ghosts-rows_on : goal.ghosts-rows_on
ghosts-rows_on g a = record { name = a.ledger.name; parts = a.ledger.parts }
