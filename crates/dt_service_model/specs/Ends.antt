-- How calls end without an answer, at the end of a turn and where the node closes.
use Rattle.std.specs.Prelude.{ℕ, ◌&&◌, ◌||◌, Bool, true, false, nat_le, nat_lt, List, [], ◌∷◌, ◌++◌, filter, filter_map, map, option_map, Option, Some, None, if◌then◌else◌}
use Rattle.dt_service_model.specs.declared.calls.OpenCall.{OpenCall}
use Rattle.dt_service_model.specs.declared.calls.Cause.{Cause}
use Rattle.dt_service_model.specs.declared.calls.Cause.TheVariants as cause
use Rattle.dt_service_model.specs.declared.happenings.Happening.{Happening}
use Rattle.dt_service_model.specs.declared.happenings.Happening.TheVariants.{Unsure}
use Rattle.dt_service_model.specs.CallBook.{CallBook}

-- WHY A CALL IS UNSURE at a moment, if it is: it waits, and an octet of its request was given up, or else its patience is over
abbrev pub cause_of : (now : ℕ) → OpenCall → Option Cause
cause_of now call =
    if call.waits && call.has_given_up then Some cause.GivenUp
    else if call.waits && nat_le call.deadline now then Some cause.Patience
    else None

abbrev pub unsure_by : OpenCall → Option Cause → Option Happening
unsure_by call cause = option_map (λ c. Unsure call.number c) cause

abbrev pub unsure_of : (now : ℕ) → OpenCall → Option Happening
unsure_of now call = unsure_by call (cause_of now call)

-- what is kept of it: nothing once it has an end and each octet its fate
abbrev pub judged_as : OpenCall → Option Cause → OpenCall
judged_as call None = record call { has_given_up = false }
judged_as call (Some cause) = record call { waits = false; has_given_up = false }

abbrev pub judged_call : (now : ℕ) → OpenCall → OpenCall
judged_call now call = judged_as call (cause_of now call)

abbrev pub is_kept : OpenCall → Bool
is_kept call = call.waits || nat_lt 0 call.left

-- EACH CALL IS JUDGED, in the order of making
abbrev pub judge : (now : ℕ) → CallBook → CallBook
judge now h = record h {
  calls = filter is_kept (map (judged_call now) h.calls);
  happenings = h.happenings ++ filter_map (unsure_of now) h.calls;
}

-- THE NODE CLOSES: each call that waits is unsure, and all else but what wasn't taken is forgotten. A node that closes takes no memory: its calls stay until their ends are taken
abbrev pub close : CallBook → CallBook
close h = record h { closed = true; calls = filter (λ (call : OpenCall). call.waits) h.calls; tokens = []; begun = []; unread = [] }

abbrev pub closing_of : OpenCall → Happening
closing_of call = Unsure call.number cause.Closed

-- ALL THAT WAS TOLD and wasn't taken
abbrev pub told_by : CallBook → List Happening
told_by h = h.happenings ++ (if h.closed then map closing_of h.calls else [])

-- THE NEXT OF IT is taken
abbrev pub next_call : List OpenCall → CallBook → Option Happening × CallBook
next_call [] h = (None, h)
next_call (call ∷ calls) h = (Some (closing_of call), record h { calls = calls })

abbrev pub next_in : List Happening → CallBook → Option Happening × CallBook
next_in [] h = if h.closed then next_call h.calls h else (None, h)
next_in (happening ∷ happenings) h = (Some happening, record h { happenings = happenings })

abbrev pub next : CallBook → Option Happening × CallBook
next h = next_in h.happenings h
