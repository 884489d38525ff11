use Rattle.std.proofs.Common.{◌∙◌, drop, drop-cons, get_or, length, ◌≤◌, ◌<◌, suc, add-one, sym, ap, arith}
use Rattle.std.proofs.Math.ListN.{drop_of_length-le}
use Rattle.dt_text.proofs.NumeralLemmas.{number_on, number_on-step, number_on-end, then_some-is, digits_number-is}
use Rattle.dt_text.proofs.numerals.digits_number.Goals as goal

pub returns-in_err-value-clause-value : goal.returns-in_err-value-clause-value
returns-in_err-value-clause-value c =
    let digits = c.args.digits.now in
    let i = c.loop-digit.digit-index in
    let inside : i < length digits = omega arith in
    let step = number_on-step c.args.most c.loop-digit.value (get_or digits i 0) (drop (suc i) digits) _ c.ranges.most.fits c.with_digit.ensures in
    let none = rw c.in_err-value.was at step in
    c.from_residual.ensures ∙ sym (digits_number-is _ _ ∙ c.loop-digit.invariant ∙ rw (drop-cons digits i 0) none)

pub loop-digit-preserved : goal.loop-digit-preserved
loop-digit-preserved c =
    let digits = c.args.digits.now in
    let i = c.loop-digit.digit-index in
    let inside : i < length digits = omega arith in
    let step = number_on-step c.args.most c.loop-digit.value (get_or digits i 0) (drop (suc i) digits) _ c.ranges.most.fits c.with_digit.ensures in
    let some = rw c.in_ok-value.was at step in
    rw add-one (c.loop-digit.invariant ∙ rw (drop-cons digits i 0) some)

pub returns-clause-value : goal.returns-clause-value
returns-clause-value c =
    let digits = c.args.digits.now in
    let none_left : length digits ≤ c.loop-digit.digit-index = omega arith in
    c.then_some.ensures ∙ then_some-is _ _ ∙ sym (digits_number-is _ _ ∙ c.loop-digit.invariant ∙ ap (number_on c.args.most c.loop-digit.value) (drop_of_length-le digits none_left) ∙ number_on-end _ _)
