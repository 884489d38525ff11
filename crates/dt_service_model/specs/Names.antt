-- The numbers and the names of calls. A number stands in eight octets in front of a message: the life in the upper four, and the count in the lower.
use Rattle.std.specs.Prelude.{ℕ, ◌+◌, ◌*◌, ◌/◌, ◌%◌, ◌^◌, ◌==◌, ◌&&◌, Bool}
use Rattle.dt_units.specs.declared.endpoints.Flow.{Flow}
use Rattle.dt_world_model.specs.Tables.{same_flow}
use Rattle.dt_service_model.specs.declared.names.CallNumber.{CallNumber}
use Rattle.dt_service_model.specs.declared.names.Token.{Token}

abbrev pub number_with : (life count : ℕ) → CallNumber
number_with life count = record { life = life; count = count }

-- as one number, and back
abbrev pub to_u64 : CallNumber → ℕ
to_u64 n = n.life * 2 ^ 32 + n.count

abbrev pub from_u64 : ℕ → CallNumber
from_u64 n = number_with (n / 2 ^ 32) (n % 2 ^ 32)

abbrev pub same_number : CallNumber → CallNumber → Bool
same_number m n = (m.life == n.life) && (m.count == n.count)

-- THE NAME of a request
abbrev pub token_with : Flow → CallNumber → Token
token_with f n = record { flow = f; number = n }

abbrev pub same_token : Token → Token → Bool
same_token s t = same_flow s.flow t.flow && same_number s.number t.number
