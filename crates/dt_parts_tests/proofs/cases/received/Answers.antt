use Rattle.std.proofs.Common.{refl, lit<}
use Rattle.dt_cases.specs.Tables.{is_covered}
use Rattle.dt_parts_tests.specs.declared.cases.TheConstants.{RECEIVE}
use Rattle.dt_cases.proofs.Covered.{each_from_covered}
use Rattle.dt_parts_tests.proofs.cases.received.Goals as goal

pub pick-requires : goal.pick-requires
unfolding is_covered
pick-requires c = (lit< tt, each_from_covered RECEIVE 32 refl c.args.key c.requires)
