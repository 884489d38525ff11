-- Which opening of a peer is the present one.
use Rattle.std.specs.Prelude.{ℕ, ◌+◌, ◌==◌, ◌&&◌, Bool, false, not, nat_le, nat_lt, if◌then◌else◌, Option, Some, None}
use Rattle.dt_watch.specs.declared.readings.Reading.{Reading}
use Rattle.dt_watch.specs.declared.arrivals.Arrival.{Arrival}
use Rattle.dt_watch.specs.declared.arrivals.Opening.{Opening}
use Rattle.dt_watch.specs.declared.arrivals.Judgement.{Judgement}
use Rattle.dt_watch.specs.declared.arrivals.Judgement.TheVariants.{Early, Former, OtherParameters, Present, Unproved}
use Rattle.dt_watch.specs.declared.openings.Openings.{Openings}

abbrev pub later_of : Reading → Reading → Reading
later_of one other = if nat_lt one.micros other.micros then other else one

abbrev pub first_of : Option Reading → Option Reading → Option Reading
first_of None other = other
first_of (Some one) other = Some one

-- A NEWCOMER becomes the present opening where its datagram had a later reading of this clock than any of the present one had
abbrev pub newcomer : ℕ → Option Opening → Arrival → Option Opening
newcomer grain None a = if a.sure.micros == 0 then None else Some (record { name = a.opening; proved = a.sure; last_frame = None; former_frame = None })
newcomer grain (Some p) a = if nat_le a.sure.micros (p.proved.micros + grain) then None else Some (record { name = a.opening; proved = a.sure; last_frame = None; former_frame = first_of p.last_frame p.former_frame })

abbrev pub opening_in : ℕ → Option Opening → Arrival → Option Opening
opening_in grain None a = newcomer grain None a
opening_in grain (Some p) a = if p.name == a.opening then Some p else newcomer grain (Some p) a

-- EARLY: a frame sooner than the gap after the last frame of the opening before
abbrev pub early_by : ℕ → Option Reading → Arrival → Bool
early_by gap None a = false
early_by gap (Some last) a = a.is_frame && nat_lt a.came.micros (last.micros + gap)

abbrev pub is_early : ℕ → Opening → Arrival → Bool
is_early gap p a = early_by gap p.former_frame a

abbrev pub opened : ℕ → Opening → Arrival → Opening
opened gap p a = record p { proved = later_of p.proved a.sure; last_frame = if a.is_frame && not (is_early gap p a) then Some a.came else p.last_frame }

-- THE JUDGEMENT
abbrev pub judgement_by : ℕ → Option Opening → Arrival → Judgement
judgement_by gap None a = if a.sure.micros == 0 then Unproved else Former
judgement_by gap (Some p) a = if is_early gap p a then Early else Present

abbrev pub judgement_of : Openings → Arrival → Judgement
judgement_of o a = if o.fingerprint == a.fingerprint then judgement_by o.gap.micros (opening_in o.grain o.present a) a else OtherParameters

-- WHAT IS PRESENT AFTER IT
abbrev pub entered : ℕ → Option Opening → Option Opening → Arrival → Option Opening
entered gap present None a = present
entered gap present (Some p) a = Some (opened gap p a)

abbrev pub openings_after : Openings → Arrival → Openings
openings_after o a = if o.fingerprint == a.fingerprint then record o { present = entered o.gap.micros o.present (opening_in o.grain o.present a) a } else o
