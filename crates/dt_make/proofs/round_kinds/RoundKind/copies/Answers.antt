use Rattle.std.proofs.Common.{rules}
use Rattle.dt_make.proofs.round_kinds.RoundKind.copies.Goals as goal

-- refused here: copies_are_those_of_plain_rounds
pub returns-in-Lost : goal.returns-in-Lost
returns-in-Lost c = search rules
