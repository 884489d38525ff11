use Rattle.dt_text.proofs.LineLaws.{line-read, line-only}
use Rattle.dt_text.proofs.laws.lines_are_their_spellings.Goals as goal

pub returns-clause-read : goal.returns-clause-read
returns-clause-read c = line-read

pub returns-clause-only : goal.returns-clause-only
returns-clause-only c = λ form line octets. line-only form octets line
