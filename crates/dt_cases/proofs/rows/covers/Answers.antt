use Rattle.std.proofs.Common.{sym, ◌∙◌}
use Rattle.dt_cases.proofs.Covered.{each_from_covered, covered_from_each}
use Rattle.dt_cases.proofs.rows.covers.Goals as goal

pub returns-clause-each : goal.returns-clause-each
returns-clause-each g c = (
  λ yes. each_from_covered c.args.rows.now c.args.keys (sym c.each_meets_one.ensures ∙ yes),
  λ each. c.each_meets_one.ensures ∙ covered_from_each c.args.rows.now c.args.keys each,
)
