-- What a caller gave with its calls: pairs of a call's number and what it was given, of the calls whose ends weren't taken.
use Rattle.std.specs.Prelude.{◌≡◌, ◌==◌, ℕ, Bool, true, false, List, [], nat_eq, Option, Some, None, if◌then◌else◌}
use Rattle.std.specs.Map.{lookup}
use Rattle.std.specs.Option.{unwrap_or}
use Rattle.indexmap.specs.IndexMap.{IndexMap, spare}
use Rattle.dt_service_model.specs.declared.answers.Made.{Made}
use Rattle.dt_service_model.specs.declared.answers.Made.TheVariants as made
use Rattle.dt_service_model.specs.declared.happenings.Happening.{Happening}
use Rattle.dt_service_model.specs.declared.happenings.Happening.TheVariants.{Answered, ReplyUncertain, Request, Unsure}
use Rattle.dt_service_model.specs.declared.names.CallNumber.{CallNumber}
use Rattle.dt_service_model.specs.Names.{to_u64}

pub record Users : Type 0 where
  pub given : List (ℕ × ℕ)
  -- whether one more needs no memory
  pub has_room : Bool

abbrev pub no_users : Users
no_users = record { given = []; has_room = false }

-- in a table that isn't made before the first call
abbrev pub given_in : {S : Type 0} → Option (IndexMap ℕ ℕ S) → List (ℕ × ℕ)
given_in None = []
given_in (Some by_call) = by_call.entries

abbrev pub room_in : {S : Type 0} → Option (IndexMap ℕ ℕ S) → ℕ
room_in None = 0
room_in (Some by_call) = spare by_call

-- THE USER of the call with this number, or 0
abbrev pub user_of : ℕ → Users → ℕ
user_of call us = unwrap_or (lookup (nat_eq call) us.given) 0

-- this call has this user, and each other call has the one that it had
abbrev pub HasUser : (call user : ℕ) → (us vs : Users) → Type 0
HasUser call user us vs = (other : ℕ) → user_of other vs ≡ (if call == other then user else user_of other us)

-- each call has the user that it had
abbrev pub HaveSame : (us vs : Users) → Type 0
HaveSame us vs = (call : ℕ) → user_of call vs ≡ user_of call us

-- THE CALL THAT IS KEPT, by what was answered: the one that was made; and where there was no memory, the one that may have been made
abbrev pub number_kept : Made → Option CallNumber → Option CallNumber
number_kept (made.Call number) next = Some number
number_kept (made.Declined why) next = None
number_kept (made.Refused unfit) next = None
number_kept made.NoMemory next = next

abbrev pub Keeps : Option CallNumber → (user : ℕ) → (us vs : Users) → Type 0
Keeps None user us vs = HaveSame us vs
Keeps (Some number) user us vs = HasUser (to_u64 number) user us vs

-- THE CALL THAT ENDS with what happened, if one does
abbrev pub number_ended : Happening → Option CallNumber
number_ended (Request token payload) = None
number_ended (Answered call answer) = Some call
number_ended (Unsure call cause) = Some call
number_ended (ReplyUncertain flow) = None

-- its user, or 0 where none ends; and it is kept no more
abbrev pub user_ended : Option CallNumber → Users → ℕ
user_ended None us = 0
user_ended (Some number) us = user_of (to_u64 number) us

abbrev pub Ends : Option CallNumber → (us vs : Users) → Type 0
Ends None us vs = vs ≡ us
Ends (Some number) us vs = HasUser (to_u64 number) 0 us vs
