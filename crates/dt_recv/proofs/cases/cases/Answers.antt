-- The test of the table computes.
use Rattle.std.proofs.Common.{◌≡◌, true, ap}
use Rattle.dt_cases.specs.Tables.{is_covered}
use Rattle.dt_cases.proofs.Covered.{each_from_covered}
use Rattle.dt_recv.proofs.cases.cases.Goals as goal

pub returns-clause-covered : goal.returns-clause-covered
unfolding is_covered
returns-clause-covered c =
    let covered : is_covered c.table.result 32 ≡ true = ap (λ rows. is_covered rows 32) c.table.ensures in
    each_from_covered c.table.result 32 covered
