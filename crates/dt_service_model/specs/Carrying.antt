-- What a happening carries: the payload of a request, or an answer.
use Rattle.std.specs.Prelude.{ℕ, List, [], length, option_map, Option}
use Rattle.dt_service_model.specs.declared.happenings.Happening.{Happening}
use Rattle.dt_service_model.specs.declared.happenings.Happening.TheVariants.{Answered, ReplyUncertain, Request, Unsure}
use Rattle.dt_service_model.specs.Ends.{next}
use Rattle.dt_service_model.specs.CallBook.{CallBook}

abbrev pub carried_by : Happening → List ℕ
carried_by (Request token payload) = payload
carried_by (Answered call answer) = answer
carried_by (Unsure call cause) = []
carried_by (ReplyUncertain flow) = []

-- how many octets the next of what was told carries, if anything was told
abbrev pub next_size : CallBook → Option ℕ
next_size h = option_map (λ happening. length (carried_by happening)) (next h).0
