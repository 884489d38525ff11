use Rattle.dt_parts_tests.proofs.units.looks_are_counted.Given as goal

abbrev pub ghosts-look_on : goal.ghosts-look_on
ghosts-look_on g a = record { name = a.ledger.name; parts = a.ledger.parts }
