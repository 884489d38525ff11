-- The lines of calls as text: the moment, a word, the number of the call, and more.
use Rattle.std.specs.Prelude.{ℕ, List, [], ◌∷◌, codes, decimal, flat_map}
use Rattle.dt_log.specs.Words.{Text, flow_text, hex_text, row_text}
use Rattle.dt_calls_model.specs.CallTold as told
use Rattle.dt_calls_model.specs.CallTold.{CallEntry, CallTold}
use Rattle.dt_calls_model.specs.CallRuns.{CallTotals}

abbrev pub told_words : ℕ → CallTold → List Text
told_words moment (told.Made call flow count) = decimal moment ∷ codes "call" ∷ decimal call ∷ flow_text flow ∷ decimal count ∷ []
told_words moment (told.Declined call) = decimal moment ∷ codes "declined" ∷ decimal call ∷ []
told_words moment (told.Served call) = decimal moment ∷ codes "served" ∷ decimal call ∷ []
told_words moment (told.Answered call octets) = decimal moment ∷ codes "answered" ∷ decimal call ∷ hex_text octets ∷ []
told_words moment (told.Unsure call) = decimal moment ∷ codes "unsure" ∷ decimal call ∷ []

-- the line of an entry, with its line feed, and those of entries
abbrev pub call_text : CallEntry → Text
call_text entry = row_text (told_words entry.moment entry.told)

abbrev pub entries_text : List CallEntry → Text
entries_text entries = flat_map call_text entries

-- the line of the totals
abbrev pub totals_words : CallTotals → List Text
totals_words t =
    codes "calls" ∷ decimal t.calls ∷ codes "served" ∷ decimal t.served ∷ codes "answered" ∷ decimal t.answered
    ∷ codes "unsure" ∷ decimal t.unsure ∷ codes "declined" ∷ decimal t.declined ∷ codes "waiting" ∷ decimal t.waiting ∷ []

abbrev pub totals_text : CallTotals → Text
totals_text t = row_text (totals_words t)
