use Rattle.std.proofs.Common.{arith}
use Rattle.std.proofs.lemmas.Grind.{common_steps}
use Rattle.dt_cases.specs.Tables.{meets}
use Rattle.dt_cases.proofs.Picked.{one_found}
use Rattle.dt_cases.proofs.rows.pick.Goals as goal

pub unreachable-requires : goal.unreachable-requires
unreachable-requires g c =
    let one = one_found (meets c.args.key) c.args.rows.now c.requires in cc

pub returns : goal.returns
returns g c =
    let one = one_found (meets c.args.key) c.args.rows.now c.requires in grind (arith, common_steps)
