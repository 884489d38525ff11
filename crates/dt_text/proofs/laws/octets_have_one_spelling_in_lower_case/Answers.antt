use Rattle.dt_text.proofs.HexLaws.{is_hex-hex_text, octets_of_hex-hex_text, hex_text-pairs}
use Rattle.dt_text.proofs.laws.octets_have_one_spelling_in_lower_case.Goals as goal

pub returns-clause-read : goal.returns-clause-read
returns-clause-read c = is_hex-hex_text

pub returns-clause-decoded : goal.returns-clause-decoded
returns-clause-decoded c = octets_of_hex-hex_text

pub returns-clause-only : goal.returns-clause-only
returns-clause-only c = hex_text-pairs
