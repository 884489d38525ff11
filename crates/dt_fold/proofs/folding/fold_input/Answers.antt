use Rattle.std.proofs.Common.{rules}
use Rattle.std.proofs.lemmas.Result.{err_from_is_err_and}
use Rattle.dt_edges.proofs.Puts.{takes_as, takes_then}
use Rattle.dt_fold.specs.Folds.{refusal}
use Rattle.dt_fold.proofs.Stopping.{stops_after, stops_as}
use Rattle.dt_fold.proofs.folding.fold_input.Goals as goal

pub returns-in_err-refuse-in-Some-clause-logs : goal.returns-in_err-refuse-in-Some-clause-logs
returns-in_err-refuse-in-Some-clause-logs g c =
    let p = err_from_is_err_and c.from_residual-in_err-refuse-in-Some.result c.from_residual-in_err-refuse-in-Some.ensures.1 in
    let f = rw c.in-Some.is at c.in_ok-fold_lines.ensures in
    let stop = c.in_err-refuse-in-Some.field-0.0 in
    rw (p.1, p.2) (stops_as stop _ _ _ _ f.2.2 (stops_after stop f.2.0 (refusal c.in-Some.number c.in-Some.fault) _ _ _ f.2.1 c.in_err-refuse-in-Some.ensures))

pub returns-in_ok-refuse-in-Some-clause-logs : goal.returns-in_ok-refuse-in-Some-clause-logs
returns-in_ok-refuse-in-Some-clause-logs g c =
    let f = rw c.in-Some.is at c.in_ok-fold_lines.ensures in
    takes_as _ _ _ _ f.2.2 (takes_then f.2.0 (refusal c.in-Some.number c.in-Some.fault) _ _ _ f.2.1 c.in_ok-refuse-in-Some.ensures)

-- refused here: refused_input_is_accepted
pub returns-in_ok-refuse-in-Some-clause-accepted : goal.returns-in_ok-refuse-in-Some-clause-accepted
returns-in_ok-refuse-in-Some-clause-accepted g c = search rules
