use Rattle.std.proofs.Common.{◌==◌, count_by, refl, arith, rules, tests}
use Rattle.std.proofs.lemmas.Iterator.{YieldsList-from_range}
use Rattle.std.proofs.lemmas.Iterator.Search.{all_from_yields_List}
use Rattle.dt_cases.specs.Tables.{meets, is_covered}
use Rattle.dt_cases.proofs.rows.each_meets_one.Goals as goal

pub returns : goal.returns
unfolding is_covered
returns c =
    all_from_yields_List (λ key. count_by (meets key) c.args.rows.now == 1) _ _ _ c.all.ensures.ran (YieldsList-from_range 0 c.args.keys c.args.keys refl (omega arith)) (λ x b q k. search (rules, tests))
