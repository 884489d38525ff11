-- THE LEDGER OF A LOG: the rows of each flow by what the log's lines say. A log shows no octets and no marks, so the octet of each row is 0 and it has none; and no moments are kept, so the first moment of a row that was sent is 0.
-- What a line says of a flow is tested before it changes the rows: the octets that it names are there, and then the promises.
use Rattle.std.specs.Prelude.{ℕ, zero, suc, ◌+◌, ◌-◌, ◌==◌, Bool, true, false, ◌&&◌, ◌||◌, not, if◌then◌else◌, nat_le, nat_lt, List, [], ◌∷◌, ◌++◌, length, replicate, take, drop, Option, Some, None, Result, Ok, Err}
use Rattle.std.specs.List.{list_all}
use Rattle.dt_items.specs.declared.item.Item.{Item}
use Rattle.dt_units.specs.Numbers.{number_after, number_distance}
use Rattle.dt_flow_model.specs.declared.rows.Fate.{Fate}
use Rattle.dt_flow_model.specs.declared.rows.Fate.TheVariants as fates
use Rattle.dt_flow_model.specs.declared.rows.Taken.{Taken}
use Rattle.dt_flow_model.specs.declared.rows.Given.{Given}
use Rattle.dt_flow_model.specs.Facts.{last_of}
use Rattle.dt_flow_model.specs.Ledger.{given_rows, is_given, is_open_in, is_unsent, no_item, row_at, settle, take_rows, top}
use Rattle.dt_audit.specs.declared.flow_facts.FlowFact.{FlowFact}
use Rattle.dt_audit.specs.declared.flow_facts.FlowFact.TheVariants.{Took, Sent, Settled, Uncertain, Accepted}
use Rattle.dt_audit.specs.declared.flow_facts.Lives.{Lives}
use Rattle.dt_audit.specs.declared.flaws.Flaw.{Flaw}
use Rattle.dt_audit.specs.declared.flaws.Flaw.TheVariants.{Stray, Breaks}
use Rattle.dt_audit.specs.declared.flaws.Promise.TheVariants.{InOrder, SkipsReported, AcknowledgedIsGiven, RunsUnbroken}
use Rattle.dt_audit.specs.Books.{Keeping}

-- what a log says of one flow
pub record FlowLog : Type 0 where
  -- a row for each octet that was taken, and one for each that was accepted
  pub taken : List Taken
  pub given : List Given
  -- the place after the last one that was sent, which is 0 before that, and the number after its own
  pub edge : ℕ
  pub next : ℕ

abbrev pub no_rows : FlowLog
no_rows = record { taken = []; given = []; edge = 0; next = 0 }

-- so many octets that a log doesn't show
abbrev pub blank : ℕ → List Item
blank count = replicate count no_item

-- the row is of this life, and wasn't sent
abbrev pub is_unsent_in : ℕ → Taken → Bool
is_unsent_in life row = is_unsent row.first && (row.life == life)

-- the places of the rows that pass a test, where the first row stands at the place
abbrev pub places_where : (Taken → Bool) → ℕ → List Taken → List ℕ
places_where test place [] = []
places_where test place (row ∷ rows) = if test row then place ∷ places_where test (suc place) rows else places_where test (suc place) rows

-- those that are open in a life, and those that weren't sent in it
abbrev pub open_places : ℕ → FlowLog → List ℕ
open_places life l = places_where (is_open_in life) 0 l.taken

abbrev pub unsent_places : ℕ → FlowLog → List ℕ
unsent_places life l = places_where (is_unsent_in life) 0 l.taken

-- the place after the last of these, or the one before where there is none
abbrev pub behind_last : ℕ → List ℕ → ℕ
behind_last before [] = before
behind_last before (place ∷ places) = behind_last (suc place) places

-- the leftmost rows of a life that weren't sent are sent: so many
abbrev pub send_rows : ℕ → ℕ → List Taken → List Taken
send_rows life zero rows = rows
send_rows life (suc count) [] = []
send_rows life (suc count) (row ∷ rows) = if is_unsent_in life row then (record row { first = Some 0 }) ∷ send_rows life count rows else row ∷ send_rows life (suc count) rows

-- SENT: there are as many rows of the life that weren't sent
abbrev pub send : ℕ → ℕ → ℕ → FlowLog → Result FlowLog Flaw
send life number count l =
    if nat_lt (length (unsent_places life l)) count then Err Stray
    else Ok (record { taken = send_rows life count l.taken; given = l.given; edge = behind_last l.edge (take count (unsent_places life l)); next = number_after number count })

-- SETTLED AND UNCERTAIN: there are as many open rows of the life, and the leftmost of them get the fate
abbrev pub with_fate : ℕ → Fate → ℕ → FlowLog → FlowLog
with_fate life fate count l = record { taken = settle life fate count l.taken; given = l.given; edge = l.edge; next = l.next }

abbrev pub give_up : ℕ → ℕ → FlowLog → Result FlowLog Flaw
give_up life count l = if nat_lt (length (open_places life l)) count then Err Stray else Ok (with_fate life fates.Uncertain count l)

-- acknowledged is given: each of those that are settled is given
abbrev pub acknowledge : ℕ → ℕ → FlowLog → Result FlowLog Flaw
acknowledge life count l =
    if nat_lt (length (open_places life l)) count then Err Stray
    else (if list_all (is_given l.given) (take count (open_places life l)) then Ok (with_fate life fates.Acked count l) else Err (Breaks AcknowledgedIsGiven))

-- ACCEPTED: the first place is the one after the last that was sent, less how far the number is before the next. There may be no such place
abbrev pub place_back : ℕ → ℕ → Option ℕ
place_back edge back = if nat_le back edge then Some (edge - back) else None

abbrev pub first_place : ℕ → FlowLog → Option ℕ
first_place number l = place_back l.edge (number_distance l.next number)

abbrev pub is_sent : List Taken → ℕ → Bool
is_sent rows place = not (is_unsent (row_at rows place).first)

-- the first place and the last one were sent
abbrev pub ends_sent : ℕ → ℕ → FlowLog → Bool
ends_sent place count l = is_sent l.taken place && is_sent l.taken (place + count - 1)

-- runs unbroken: the place is one above the last given one, in the same life of the receiver
abbrev pub follows : ℕ → ℕ → Option Given → Bool
follows life place None = false
follows life place (Some row) = (suc row.place == place) && (row.life == life)

-- skips reported: each place from the one after the last given to this one is uncertain, or of an earlier life than the sender's
abbrev pub is_uncertain : Fate → Bool
is_uncertain fates.Open = false
is_uncertain fates.Acked = false
is_uncertain fates.Uncertain = true

abbrev pub is_passed : ℕ → Taken → Bool
is_passed life row = is_uncertain row.fate || nat_lt row.life life

abbrev pub all_passed : ℕ → ℕ → FlowLog → Bool
all_passed life place l = list_all (is_passed life) (take (place - top l.given) (drop (top l.given) l.taken))

abbrev pub give : ℕ → Bool → ℕ → ℕ → FlowLog → FlowLog
give life run place count l = record { taken = l.taken; given = l.given ++ given_rows life 0 run place (blank count); edge = l.edge; next = l.next }

abbrev pub accept_sent : Lives → Bool → ℕ → ℕ → FlowLog → Result FlowLog Flaw
accept_sent lives run place count l =
    if nat_lt place (top l.given) then Err (Breaks InOrder) else (
    if not (run || follows lives.receiver place (last_of None l.given)) then Err (Breaks RunsUnbroken) else (
    if all_passed lives.sender place l then Ok (give lives.receiver run place count l) else Err (Breaks SkipsReported)))

abbrev pub accept_at : Lives → Bool → ℕ → Option ℕ → FlowLog → Result FlowLog Flaw
accept_at lives run count None l = Err Stray
accept_at lives run count (Some place) l = if ends_sent place count l then accept_sent lives run place count l else Err Stray

-- WHAT A LINE SAYS OF A FLOW
abbrev pub rows_after : Lives → FlowFact → FlowLog → Result FlowLog Flaw
rows_after lives (Took count) l = Ok (record { taken = take_rows lives.sender (blank count) l.taken; given = l.given; edge = l.edge; next = l.next })
rows_after lives (Sent number count) l = send lives.sender number count l
rows_after lives (Settled count) l = acknowledge lives.sender count l
rows_after lives (Uncertain count) l = give_up lives.sender count l
rows_after lives (Accepted number count run) l = accept_at lives run count (first_place number l) l

abbrev pub by_rows : Keeping FlowLog
by_rows = record { nothing = no_rows; follow = rows_after }
