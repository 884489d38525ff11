-- Messages of calls, and how they are put together from the pieces that are read.
use Rattle.std.specs.Prelude.{ℕ, Bool, if◌then◌else◌, nat_le, List, ◌++◌, length, take, drop, option_map, Option, Some, None}
use Rattle.std.specs.Int.{w64, from_be_bytes, to_be_bytes}
use Rattle.dt_units.specs.declared.endpoints.Flow.{Flow}

-- the way of the replies
abbrev pub reversed : Flow → Flow
reversed f = record { from = f.to; from_port = f.to_port; to = f.from; to_port = f.from_port }

-- A MESSAGE is the number of its call in eight octets, the highest first, and then what it carries: the payload of the call, or its answer.
abbrev pub message_of : ℕ → List ℕ → List ℕ
message_of call carried = to_be_bytes w64 call ++ carried

abbrev pub number_in : List ℕ → ℕ
number_in message = from_be_bytes w64 (take 8 message)

abbrev pub carried_in : List ℕ → List ℕ
carried_in message = drop 8 message

-- whether octets have a number
abbrev pub has_number : List ℕ → Bool
has_number message = nat_le 8 (length message)

-- What one read takes: octets of which the first may have a run mark and a begin mark, and the last an end mark.
pub record Piece : Type 0 where
  pub run : Bool
  pub begin : Bool
  pub end : Bool
  pub octets : List ℕ

-- A MESSAGE IS WHOLE from a begin mark to the next end mark, where no octet but its first has a run mark. What was read of one that isn't whole yet waits for the next piece. A begin mark begins a message anew, and after a run mark the octets before it are no part of any.
abbrev pub joined : Option (List ℕ) → Piece → Option (List ℕ)
joined begun p = if p.begin then Some p.octets else (if p.run then None else option_map (λ before. before ++ p.octets) begun)

-- the message that a piece makes whole, and what waits after it
abbrev pub whole_with : Option (List ℕ) → Piece → Option (List ℕ)
whole_with begun p = if p.end then joined begun p else None

abbrev pub begun_with : Option (List ℕ) → Piece → Option (List ℕ)
begun_with begun p = if p.end then None else joined begun p
