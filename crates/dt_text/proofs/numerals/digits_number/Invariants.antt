use Rattle.std.proofs.Common.{◌≡◌, drop}
use Rattle.dt_text.proofs.NumeralLemmas.{number_on}
use Rattle.dt_text.proofs.numerals.digits_number.Given as goal

abbrev pub invariant-loop-digit : goal.invariant-loop-digit
invariant-loop-digit l = number_on l.most 0 l.digits ≡ number_on l.most l.value (drop l.digit-index l.digits)
