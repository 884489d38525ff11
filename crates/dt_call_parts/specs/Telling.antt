-- What is reported of calls, as a value without loans.
use Rattle.std.specs.Prelude.{ℕ, ◌≡◌, List, [], ◌∷◌}
use Rattle.dt_calls_model.specs.CallTold.{CallEntry, CallTold}
use Rattle.dt_calls_model.specs.CallTold as told
use Rattle.dt_call_parts.specs.declared.call_lines.CallLine.{CallLine}
use Rattle.dt_call_parts.specs.declared.call_lines.CallLine.TheVariants as line

abbrev pub call_told : CallLine → CallTold
call_told (line.Call call flow count) = told.Made call flow count
call_told (line.Declined call) = told.Declined call
call_told (line.Served call) = told.Served call
call_told (line.Answered call payload) = told.Answered call payload.now
call_told (line.Unsure call) = told.Unsure call

abbrev pub call_entry : ℕ → CallLine → CallEntry
call_entry moment line = record { moment = moment; told = call_told line }

-- these lines are told, one after another
abbrev pub TellsCalls : {L : Type 0} → (L → CallEntry → L → Type 0) → List CallEntry → L → L → Type 0
TellsCalls tells [] v w = v ≡ w
TellsCalls {L} tells (e ∷ es) v w = (m : L) × tells v e m × TellsCalls tells es m w
