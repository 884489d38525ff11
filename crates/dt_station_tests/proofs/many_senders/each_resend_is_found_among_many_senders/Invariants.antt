use Rattle.dt_station_tests.proofs.many_senders.each_resend_is_found_among_many_senders.Given as goal

abbrev pub ghosts-many_on : goal.ghosts-many_on
ghosts-many_on g a = record { name = a.ledger.name; parts = a.ledger.parts }
