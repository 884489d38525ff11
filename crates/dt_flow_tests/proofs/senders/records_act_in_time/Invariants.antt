use Rattle.dt_flow_tests.proofs.senders.records_act_in_time.Given as goal

abbrev pub ghosts-rows_on : goal.ghosts-rows_on
ghosts-rows_on g a = record { name = a.ledger.name; parts = a.ledger.parts }
