use Rattle.dt_text.proofs.NumberLaws.{numeral-decimal, numeral-only}
use Rattle.dt_text.proofs.laws.numbers_have_one_spelling.Goals as goal

pub returns-clause-read : goal.returns-clause-read
returns-clause-read c = numeral-decimal

pub returns-clause-only : goal.returns-clause-only
returns-clause-only c = numeral-only
