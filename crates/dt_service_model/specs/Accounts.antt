-- How often a number stands among the calls that wait and the ends that were reported.
use Rattle.std.specs.Prelude.{ℕ, ◌+◌, ◌&&◌, Bool, false, is_some, List}
use Rattle.dt_world_model.specs.Host.{one_if}
use Rattle.dt_world_model.specs.Tables.{total}
use Rattle.dt_service_model.specs.declared.answers.Made.{Made}
use Rattle.dt_service_model.specs.declared.answers.Made.TheVariants as made
use Rattle.dt_service_model.specs.declared.calls.OpenCall.{OpenCall}
use Rattle.dt_service_model.specs.declared.happenings.Happening.{Happening}
use Rattle.dt_service_model.specs.declared.happenings.Happening.TheVariants.{Answered, ReplyUncertain, Request, Unsure}
use Rattle.dt_service_model.specs.declared.names.CallNumber.{CallNumber}
use Rattle.dt_service_model.specs.Names.{same_number}
use Rattle.dt_service_model.specs.CallBook.{CallBook}
use Rattle.dt_service_model.specs.Ends.{cause_of}

abbrev pub waits_with : CallNumber → OpenCall → Bool
waits_with n call = call.waits && same_number call.number n

abbrev pub is_end_of : CallNumber → Happening → Bool
is_end_of n (Request token payload) = false
is_end_of n (Answered call answer) = same_number call n
is_end_of n (Unsure call cause) = same_number call n
is_end_of n (ReplyUncertain flow) = false

abbrev pub waits_in : CallNumber → List OpenCall → ℕ
waits_in n calls = total (λ call. one_if (waits_with n call)) calls

abbrev pub ends_in : CallNumber → List Happening → ℕ
ends_in n told = total (λ happening. one_if (is_end_of n happening)) told

-- THE ACCOUNT of a number: one for each call of it that waits, and one for each end of it that was told and wasn't taken
abbrev pub account : CallNumber → CallBook → ℕ
account n h = waits_in n h.calls + ends_in n h.happenings

-- whether a call is unsure at a moment, and hasn't been told so
abbrev pub has_cause : (now : ℕ) → OpenCall → Bool
has_cause now call = is_some (cause_of now call)

-- what the answer to a call adds to it: one where the call was made with this number
abbrev pub made_in : CallNumber → Made → ℕ
made_in n (made.Call number) = one_if (same_number number n)
made_in n (made.Declined why) = 0
made_in n (made.Refused unfit) = 0
made_in n made.NoMemory = 0
