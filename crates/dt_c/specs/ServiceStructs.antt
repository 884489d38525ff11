-- What arguments of services mean, and what each answer is in C.
use Rattle.std.specs.Prelude.{ℕ, ◌==◌, if◌then◌else◌, List, length, Option, Some, None}
use Rattle.dt_flow_model.specs.Frames.{node}
use Rattle.dt_service.specs.declared.services.ServiceStart.{ServiceStart}
use Rattle.dt_service_model.specs.declared.answers.Declined.{Declined}
use Rattle.dt_service_model.specs.declared.answers.Declined.TheVariants as declined
use Rattle.dt_service_model.specs.declared.answers.Forgot.{Forgot}
use Rattle.dt_service_model.specs.declared.answers.Forgot.TheVariants as forgot
use Rattle.dt_service_model.specs.declared.answers.Made.{Made}
use Rattle.dt_service_model.specs.declared.answers.Made.TheVariants as made
use Rattle.dt_service_model.specs.declared.answers.Replied.{Replied}
use Rattle.dt_service_model.specs.declared.answers.Replied.TheVariants as replied
use Rattle.dt_service_model.specs.declared.answers.Unfit.{Unfit}
use Rattle.dt_service_model.specs.declared.answers.Unfit.TheVariants as unfit
use Rattle.dt_service_model.specs.declared.calls.Cause.{Cause}
use Rattle.dt_service_model.specs.declared.calls.Cause.TheVariants as cause
use Rattle.dt_service_model.specs.declared.call_counts.CallCounts.{CallCounts}
use Rattle.dt_service_model.specs.declared.happenings.Happening.{Happening}
use Rattle.dt_service_model.specs.declared.happenings.Happening.TheVariants.{Answered, ReplyUncertain, Request, Unsure}
use Rattle.dt_service_model.specs.declared.names.CallNumber.{CallNumber}
use Rattle.dt_service_model.specs.declared.names.Token.{Token}
use Rattle.dt_service_model.specs.declared.ports.PortKind.{PortKind}
use Rattle.dt_service_model.specs.declared.ports.PortKind.TheVariants.{Caller, Service}
use Rattle.dt_service_model.specs.Names.{from_u64, to_u64, number_with}
use Rattle.dt_c.specs.declared.c_structs.CFlow.{CFlow}
use Rattle.dt_c.specs.declared.service_structs.CCallCounts.{CCallCounts}
use Rattle.dt_c.specs.declared.service_structs.Event.{Event}
use Rattle.dt_c.specs.declared.service_structs.CallResult.{CallResult}
use Rattle.dt_c.specs.declared.service_structs.ReplyResult.{ReplyResult}
use Rattle.dt_c.specs.declared.service_structs.ServiceOptions.{ServiceOptions}
use Rattle.dt_c.specs.declared.service_structs.CToken.{CToken}
use Rattle.dt_c.specs.declared.c_structs.NodeOptions.{NodeOptions}
use Rattle.dt_c.specs.CStructs.{again_of, c_flow, flow_of, full, invalid, no_flow, no_memory, ok, quiet, stopped}

-- THE STATUSES of services, beside those of nodes
abbrev pub too_many_calls : ℕ
too_many_calls = 16

abbrev pub life_used_up : ℕ
life_used_up = 17

abbrev pub gone : ℕ
gone = 18

-- HOW MANY OCTETS a struct has that says its own size
abbrev pub service_options_size : ℕ
service_options_size = 20

abbrev pub event_size : ℕ
event_size = 48

abbrev pub call_counts_size : ℕ
call_counts_size = 64

-- ARGUMENTS
abbrev pub start_of : NodeOptions → ServiceOptions → ServiceStart
start_of o s = record { me = node o.node; again = again_of o; life = s.life; most = record { calls = s.max_calls; requests = s.max_requests; of_a_flow = s.max_requests_per_flow } }

abbrev pub token_of : CToken → Token
token_of t = record { flow = flow_of t.flow; number = from_u64 t.call }

abbrev pub kind_of : ℕ → Option PortKind
kind_of number = if number == 1 then Some Caller else (if number == 2 then Some Service else None)

-- ANSWERS
abbrev pub invalid_number : Unfit → ℕ
invalid_number unfit.Closed = 0
invalid_number unfit.BadFlow = 1
invalid_number unfit.NotACaller = 2
invalid_number unfit.TooLong = 3
invalid_number unfit.NoPatience = 4
invalid_number unfit.TooMany = 5

abbrev pub invalid_status : Unfit → ℕ
invalid_status unfit.Closed = stopped
invalid_status unfit.BadFlow = invalid
invalid_status unfit.NotACaller = invalid
invalid_status unfit.TooLong = invalid
invalid_status unfit.NoPatience = invalid
invalid_status unfit.TooMany = invalid

abbrev pub called_with : (call until free status invalid : ℕ) → CallResult
called_with call until free status invalid = record { call = call; quiet_until = until; free = free; status = status; invalid = invalid }

abbrev pub called_as : ℕ → CallResult
called_as status = called_with 0 0 0 status 0

abbrev pub declined_result : Declined → CallResult
declined_result (declined.Quiet until) = called_with 0 until 0 quiet 0
declined_result (declined.Full free) = called_with 0 0 free full 0
declined_result declined.Numbers = called_as life_used_up
declined_result declined.Many = called_as too_many_calls

abbrev pub call_result : Made → CallResult
call_result (made.Call number) = called_with (to_u64 number) 0 0 ok 0
call_result (made.Declined why) = declined_result why
call_result (made.Refused unfit) = called_with 0 0 0 (invalid_status unfit) (invalid_number unfit)
call_result made.NoMemory = called_as no_memory

abbrev pub replied_with : (free status invalid : ℕ) → ReplyResult
replied_with free status invalid = record { free = free; status = status; invalid = invalid }

abbrev pub replied_as : ℕ → ReplyResult
replied_as status = replied_with 0 status 0

abbrev pub reply_result : Replied → ReplyResult
reply_result replied.Done = replied_as ok
reply_result replied.Gone = replied_as gone
reply_result (replied.Full free) = replied_with free full 0
reply_result (replied.Refused unfit) = replied_with 0 (invalid_status unfit) (invalid_number unfit)
reply_result replied.NoMemory = replied_as no_memory

abbrev pub forgot_status : Forgot → ℕ
forgot_status forgot.Done = ok
forgot_status forgot.Gone = gone
forgot_status forgot.NoMemory = no_memory

-- WHAT HAPPENED, without the size of its struct and the user of the call that ends
abbrev pub cause_number : Cause → ℕ
cause_number cause.GivenUp = 1
cause_number cause.Patience = 2
cause_number cause.Closed = 3

abbrev pub event_with : (kind cause : ℕ) → CallNumber → CFlow → (len : ℕ) → Event
event_with kind cause number flow len = record { size = 0; kind = kind; cause = cause; call = to_u64 number; user = 0; len = len; flow = flow }

abbrev pub event : Happening → Event
event (Request token payload) = event_with 1 0 token.number (c_flow token.flow) (length payload)
event (Answered call answer) = event_with 2 0 call no_flow (length answer)
event (Unsure call cause) = event_with 3 (cause_number cause) call no_flow 0
event (ReplyUncertain flow) = event_with 4 0 (number_with 0 0) (c_flow flow) 0

-- what the caller's struct has of it
abbrev pub event_in : Happening → (user : ℕ) → Event → Event
event_in happening user out = record (event happening) { size = out.size; user = user }

-- so many octets want room
abbrev pub event_without_room : (len : ℕ) → Event → Event
event_without_room len out = record { size = out.size; kind = 0; cause = 0; call = 0; user = 0; len = len; flow = no_flow }

-- HOW MANY MESSAGES WERE DROPPED
abbrev pub call_counts : CallCounts → CCallCounts → CCallCounts
call_counts c out = record out { late_replies = c.late; old_replies = c.old; unknown_replies = c.strange; reused_requests = c.reused; cut = c.cut; too_long = c.long; too_short = c.short }
