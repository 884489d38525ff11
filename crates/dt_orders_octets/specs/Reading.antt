-- What octets say. Octets of another length, or with a code that there isn't, say nothing.
use Rattle.std.specs.Prelude.{ℕ, ◌+◌, ◌==◌, ◌&&◌, not, Bool, nat_le, if◌then◌else◌, List, length, Option, Some, None}
use Rattle.dt_orders_model.specs.declared.knowledge.Known.{Known}
use Rattle.dt_orders_model.specs.declared.knowledge.Opening.{Opening}
use Rattle.dt_orders_model.specs.declared.lanes.Answer.{Answer}
use Rattle.dt_orders_model.specs.declared.lanes.Attempt.{Attempt}
use Rattle.dt_orders_model.specs.declared.lanes.Called.{Called}
use Rattle.dt_orders_model.specs.declared.lanes.Client.{Client}
use Rattle.dt_orders_model.specs.declared.lanes.Lane.{Lane}
use Rattle.dt_orders_model.specs.declared.lanes.Order.{Order}
use Rattle.dt_orders_model.specs.declared.registers.Meta.{Meta}
use Rattle.dt_orders_model.specs.declared.registers.Row.{Row}
use Rattle.dt_orders_octets.specs.declared.requests.NumberedLane.{NumberedLane}
use Rattle.dt_orders_octets.specs.declared.requests.Request.{Request}
use Rattle.dt_orders_octets.specs.Codes.{is_from_to, kind_of_code, state_of_code, word_of_code}
use Rattle.dt_orders_octets.specs.Words.{small, word_at}

abbrev pub known_at : ℕ → List ℕ → Known
known_at i x = record { opening = small (word_at i x); nonce = word_at (i + 1) x; clock = word_at (i + 2) x }

abbrev pub maybe_known_at : ℕ → List ℕ → Option Known
maybe_known_at i x = if word_at i x == 0 then None else Some (known_at (i + 1) x)

abbrev pub attempt_at : ℕ → List ℕ → Attempt
attempt_at i x = record { nonce = word_at i x; count = small (word_at (i + 1) x) }

abbrev pub meta_in : List ℕ → Meta
meta_in x = record { clock = word_at 0 x; horizon = word_at 1 x; opening = small (word_at 2 x); nonce = word_at 3 x }

abbrev pub opening_at : ℕ → List ℕ → Option Opening
opening_at i x = if word_at i x == 0 then None else Some (record { nonce = word_at (i + 1) x; first = word_at i x })

abbrev pub row_in : List ℕ → Option Row
row_in x = if word_at 0 x == 0 then None else Some (record { number = word_at 1 x; tag = word_at 2 x; state = state_of_code (word_at 0 x); stamp = word_at 3 x; born = word_at 4 x })

abbrev pub called_in : List ℕ → Called
called_in x = record { kind = kind_of_code (word_at 0 x); number = word_at 2 x; tag = word_at 3 x; since = known_at 4 x; attempt = attempt_at 7 x; knows = maybe_known_at 9 x; is_only = not (word_at 13 x == 0) }

abbrev pub request_in : List ℕ → Request
request_in x = record { lane = small (word_at 1 x); called = called_in x }

abbrev pub answer_in : List ℕ → Answer
answer_in x = record { word = word_of_code (word_at 0 x); value = word_at 1 x; heard = known_at 2 x; attempt = attempt_at 5 x }

abbrev pub client_in : List ℕ → Client
client_in x = record { nonce = word_at 0 x; known = maybe_known_at 2 x; stopped = maybe_known_at 6 x; is_once = not (word_at 1 x == 0) }

abbrev pub order_at : ℕ → List ℕ → Option Order
order_at i x = if word_at i x == 0 then None else Some (record { uid = word_at (i + 1) x; number = word_at (i + 2) x; tag = word_at (i + 3) x; since = known_at (i + 4) x })

abbrev pub bare_lane_in : List ℕ → Lane
bare_lane_in x = record { last = word_at 1 x; order = order_at 2 x; is_fresh = not (word_at 9 x == 0); is_cancelled = not (word_at 10 x == 0); is_calling = not (word_at 11 x == 0); record_number = word_at 12 x }

abbrev pub lane_in : List ℕ → NumberedLane
lane_in x = record { number = small (word_at 0 x); lane = bare_lane_in x }

-- WHAT IS REFUSED: another length, a code that there isn't, a number that is too large
abbrev pub most_number : ℕ
most_number = 9223372036854775807

abbrev pub is_32 : ℕ → Bool
is_32 n = nat_le n 4294967295

abbrev pub is_flag : ℕ → Bool
is_flag n = nat_le n 1

abbrev pub is_number : ℕ → Bool
is_number n = nat_le n most_number

abbrev pub is_meta : List ℕ → Bool
is_meta x = (length x == 32) && (is_number (word_at 0 x) && (is_number (word_at 1 x) && is_32 (word_at 2 x)))

abbrev pub is_opening : List ℕ → Bool
is_opening x = length x == 16

abbrev pub is_row : List ℕ → Bool
is_row x = (length x == 40) && (nat_le (word_at 0 x) 3 && is_number (word_at 1 x))

abbrev pub is_known_at : ℕ → List ℕ → Bool
is_known_at i x = is_flag (word_at i x) && is_32 (word_at (i + 1) x)

abbrev pub is_request : List ℕ → Bool
is_request x = (length x == 112) && (is_from_to 1 3 (word_at 0 x) && (is_32 (word_at 1 x) && (is_number (word_at 2 x) && (is_32 (word_at 4 x) && (is_32 (word_at 8 x) && (is_known_at 9 x && is_flag (word_at 13 x)))))))

abbrev pub is_answer : List ℕ → Bool
is_answer x = (length x == 56) && (is_from_to 1 9 (word_at 0 x) && (is_number (word_at 1 x) && (is_32 (word_at 2 x) && is_32 (word_at 6 x))))

abbrev pub is_client : List ℕ → Bool
is_client x = (length x == 80) && (is_flag (word_at 1 x) && (is_known_at 2 x && is_known_at 6 x))

abbrev pub is_lane : List ℕ → Bool
is_lane x = (length x == 104) && (is_32 (word_at 0 x) && (is_number (word_at 1 x) && (is_flag (word_at 2 x) && (is_number (word_at 4 x) && (is_32 (word_at 6 x) && (is_flag (word_at 9 x) && (is_flag (word_at 10 x) && is_flag (word_at 11 x))))))))

-- READ, or refused
abbrev pub read_if : {A : Type 0} → Bool → A → Option A
read_if is value = if is then Some value else None
