-- What is enough to know of a flow's rows, in a few numbers. The rows of the sender's present life come last. Of them the leftmost have a fate and all others are open; and the leftmost were sent and all others weren't.
use Rattle.std.specs.Prelude.{ℕ, ◌<◌, ◌≤◌, ◌+◌, ◌-◌, ◌==◌, Bool, ◌&&◌, ◌||◌, not, if◌then◌else◌, max, nat_le, nat_lt, List, [], ◌∷◌, ◌++◌, Option, Some, None, Result, Ok, Err}
use Rattle.std.specs.List.{list_any}
use Rattle.dt_units.specs.declared.endpoints.Flow.{Flow}
use Rattle.dt_units.specs.Numbers.{number_after, number_distance}
use Rattle.dt_world_model.specs.Tables.{AllEntries}
use Rattle.dt_audit.specs.declared.flow_facts.FlowFact.{FlowFact}
use Rattle.dt_audit.specs.declared.flow_facts.FlowFact.TheVariants.{Took, Sent, Settled, Uncertain, Accepted}
use Rattle.dt_audit.specs.declared.flow_facts.Lives.{Lives}
use Rattle.dt_audit.specs.declared.flaws.Flaw.{Flaw}
use Rattle.dt_audit.specs.declared.flaws.Flaw.TheVariants.{Stray, Breaks}
use Rattle.dt_audit.specs.declared.flaws.Promise.TheVariants.{InOrder, SkipsReported, AcknowledgedIsGiven, RunsUnbroken}
use Rattle.dt_audit.specs.declared.gaps.Gap.{Gap}
use Rattle.dt_audit.specs.Books.{Keeping}
use Rattle.dt_audit.specs.LogRows.{place_back}

pub record Notes : Type 0 where
  -- the sender's life that was last spoken of
  pub life : ℕ
  -- how many rows there are, and the places from which on they are open in this life, and weren't sent in it
  pub taken : ℕ
  pub open_from : ℕ
  pub unsent_from : ℕ
  -- the place after the last one that was sent, and the number after its own
  pub edge : ℕ
  pub next : ℕ
  -- the place after the last given one, which is 0 where nothing was given, and the receiver's life in which it was given
  pub top : ℕ
  pub given_life : ℕ
  -- the places of earlier lives that weren't sent
  pub gaps : List Gap

abbrev pub no_notes : Notes
no_notes = record { life = 0; taken = 0; open_from = 0; unsent_from = 0; edge = 0; next = 0; top = 0; given_life = 0; gaps = [] }

-- gaps follow one another, from a place on, and none is empty
abbrev pub Rise : ℕ → List Gap → Type 0
Rise least [] = Unit {0}
Rise least (gap ∷ gaps) = (least ≤ gap.from) × (gap.from < gap.to) × Rise gap.to gaps

-- and the place after the last one
abbrev pub gaps_end : ℕ → List Gap → ℕ
gaps_end least [] = least
gaps_end least (gap ∷ gaps) = gaps_end gap.to gaps

-- A life of the sender begins: no row is of it. Those of the last one that weren't sent are remembered as a gap
abbrev pub with_gap : ℕ → ℕ → List Gap → List Gap
with_gap from to gaps = if nat_lt from to then gaps ++ (record { from = from; to = to }) ∷ [] else gaps

abbrev pub in_life : ℕ → Notes → Notes
in_life life n =
    if n.life == life then n
    else record n { life = life; open_from = n.taken; unsent_from = n.taken; gaps = with_gap n.unsent_from n.taken n.gaps }

abbrev pub note_sent : ℕ → ℕ → Notes → Result Notes Flaw
note_sent number count n =
    if nat_lt (n.taken - n.unsent_from) count then Err Stray
    else Ok (record n { unsent_from = n.unsent_from + count; edge = if count == 0 then n.edge else n.unsent_from + count; next = number_after number count })

abbrev pub note_given_up : ℕ → Notes → Result Notes Flaw
note_given_up count n = if nat_lt (n.taken - n.open_from) count then Err Stray else Ok (record n { open_from = n.open_from + count })

-- an open row of this life is given exactly where it is below the top
abbrev pub note_acknowledged : ℕ → Notes → Result Notes Flaw
note_acknowledged count n =
    if nat_lt (n.taken - n.open_from) count then Err Stray
    else (if (count == 0) || nat_le (n.open_from + count) n.top then Ok (record n { open_from = n.open_from + count }) else Err (Breaks AcknowledgedIsGiven))

abbrev pub holds : ℕ → Gap → Bool
holds place gap = nat_le gap.from place && nat_lt place gap.to

abbrev pub was_sent : ℕ → Notes → Bool
was_sent place n = nat_lt place n.unsent_from && not (list_any (holds place) n.gaps)

-- above the top no place is acknowledged, so each that isn't open in this life is uncertain or of an earlier one
abbrev pub is_reported : ℕ → Notes → Bool
is_reported place n = nat_le place (max n.top n.open_from)

abbrev pub goes_on : ℕ → ℕ → Notes → Bool
goes_on life place n = nat_lt 0 n.top && (n.top == place) && (n.given_life == life)

abbrev pub note_given : ℕ → ℕ → ℕ → Notes → Notes
note_given life place count n = if count == 0 then n else record n { top = place + count; given_life = life }

abbrev pub note_accepted : ℕ → Bool → ℕ → ℕ → Notes → Result Notes Flaw
note_accepted life run place count n =
    if nat_lt place n.top then Err (Breaks InOrder) else (
    if not (run || goes_on life place n) then Err (Breaks RunsUnbroken) else (
    if is_reported place n then Ok (note_given life place count n) else Err (Breaks SkipsReported)))

abbrev pub note_at : ℕ → Bool → ℕ → Option ℕ → Notes → Result Notes Flaw
note_at life run count None n = Err Stray
note_at life run count (Some place) n = if was_sent place n && was_sent (place + count - 1) n then note_accepted life run place count n else Err Stray

-- what a line says of a flow whose sender is in the life of the notes
abbrev pub note : ℕ → FlowFact → Notes → Result Notes Flaw
note life (Took count) n = Ok (record n { taken = n.taken + count })
note life (Sent number count) n = note_sent number count n
note life (Settled count) n = note_acknowledged count n
note life (Uncertain count) n = note_given_up count n
note life (Accepted number count run) n = note_at life run count (place_back n.edge (number_distance n.next number)) n

abbrev pub notes_after : Lives → FlowFact → Notes → Result Notes Flaw
notes_after lives change n = note lives.receiver change (in_life lives.sender n)

abbrev pub by_notes : Keeping Notes
by_notes = record { nothing = no_notes; follow = notes_after }

-- no flow took more than so many octets
abbrev pub TakenWithin : ℕ → List (Flow × Notes) → Type 0
TakenWithin most flows = AllEntries (λ f n. n.taken ≤ most) flows
