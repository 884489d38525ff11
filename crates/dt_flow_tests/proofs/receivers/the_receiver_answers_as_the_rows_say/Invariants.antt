use Rattle.dt_flow_tests.proofs.receivers.the_receiver_answers_as_the_rows_say.Given as goal

abbrev pub ghosts-rows_on : goal.ghosts-rows_on
ghosts-rows_on g a = record { name = a.ledger.name; parts = a.ledger.parts }
