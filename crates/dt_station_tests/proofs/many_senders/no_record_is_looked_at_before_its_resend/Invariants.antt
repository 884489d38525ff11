use Rattle.dt_station_tests.proofs.many_senders.no_record_is_looked_at_before_its_resend.Given as goal

abbrev pub ghosts-thousand_on : goal.ghosts-thousand_on
ghosts-thousand_on g a = record { name = a.ledger.name; parts = a.ledger.parts }
