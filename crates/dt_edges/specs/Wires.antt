-- What contracts see of a wire, and what its calls do to it.
use Rattle.std.specs.Prelude.{ℕ, ◌+◌, ◌<◌, ◌≤◌, ◌≡◌, ◌++◌, ◌&&◌, Bool, true, false, not, List, [], ◌∷◌, length, take, slice_get, Option, Some, None, IfSome, IsSome, Result, Ok, Err, if◌then◌else◌, nat_lt, nat_le}
use Rattle.std.specs.List.{sum_by}
use Rattle.std.specs.Option.{option_map, option_and_then}
use Rattle.dt_edges.specs.declared.addresses.Address.{Address}
use Rattle.dt_edges.specs.declared.addresses.Peer.{Peer}
use Rattle.dt_edges.specs.declared.failures.Failed.{Failed}
use Rattle.dt_edges.specs.Counts.{last_count, next_count, as_count, HasRisen, is_planned}
use Rattle.dt_edges.specs.Telling.{Notes, NotesNothing}

-- octets that passed on a link
pub record Datagram : Type 0 where
  pub link : ℕ
  pub octets : List ℕ

-- how a wire was opened
pub record Opening : Type 0 where
  pub local : Address
  pub peers : List Peer

-- What comes on a wire, and which of its calls fail. Calls of a kind are counted from 1.
pub record Plan : Type 0 where
  -- what the takes find, one after another: a datagram or nothing
  pub entries : List (Option Datagram)
  pub failing_takes : List ℕ
  pub failing_gives : List ℕ
  pub open_fails : Bool

pub record WireSight : Type 0 where
  -- what takes have handed over, with nothing for a take that found nothing, where it is told
  pub taken : Option (List (Option Datagram))
  -- what gives have taken, where it is told
  pub given : Option (List Datagram)
  -- the local address and the peers of the last open that answered Ok, or none, where it is told
  pub opening : Option (Option Opening)
  -- what comes and what fails, where it is told
  pub plan : Option Plan
  -- how many takes and gives were called, and how many entries of the plan were used, where one is told
  pub takes : ℕ
  pub gives : ℕ
  pub used : ℕ
  -- how many opens and takes failed, and how many gives
  pub take_faults : ℕ
  pub give_faults : ℕ
  -- how many opens were called
  pub opens : ℕ
  -- how long the last take was to wait, in ms, where a take was called and that is told
  pub last_wait : Option ℕ

-- each count is at most its greatest value
pub record HasCounts (w : WireSight) : Type 0 where
  pub takes : w.takes ≤ last_count
  pub gives : w.gives ≤ last_count
  pub take_faults : w.take_faults ≤ last_count
  pub give_faults : w.give_faults ≤ last_count
  pub opens : w.opens ≤ last_count

-- ENTRIES OF A PLAN

-- what a take handed over: the link and the octets that it put first into the buffer, or nothing
abbrev pub handed : Option (ℕ × ℕ) → List ℕ → Option Datagram
handed None buf = None
handed (Some t) buf = Some (record { link = t.0; octets = take t.1 buf })

-- a datagram as a buffer of this length holds it
abbrev pub cut_to : ℕ → Option Datagram → Option Datagram
cut_to room None = None
cut_to room (Some d) = Some (record { link = d.link; octets = take room d.octets })

-- the entry of this number, counted from 0, and nothing where there are fewer
abbrev pub entry_at : List (Option Datagram) → ℕ → Option Datagram
entry_at entries k = option_and_then (λ entry. entry) (slice_get entries k)

-- how many entries are used after one more take
abbrev pub used_after : {A : Type 0} → List A → ℕ → ℕ
used_after entries used = if nat_lt used (length entries) then used + 1 else used

-- OPEN

-- what an open changes nothing of
pub record SameLists (w v : WireSight) : Type 0 where
  pub last_wait : v.last_wait ≡ w.last_wait
  pub taken : v.taken ≡ w.taken
  pub given : v.given ≡ w.given
  pub plan : v.plan ≡ w.plan
  pub takes : v.takes ≡ w.takes
  pub gives : v.gives ≡ w.gives
  pub used : v.used ≡ w.used
  pub give_faults : v.give_faults ≡ w.give_faults

-- an open with this address and these peers
pub record OpensOne (opening : Opening) (w v : WireSight) : Type 0 where
  pub told : IfSome v.opening (λ now. now ≡ Some opening)
  pub plan : IfSome w.plan (λ plan. plan.open_fails ≡ false)
  pub opens : v.opens ≡ next_count w.opens
  pub faults : v.take_faults ≡ w.take_faults
  pub same : SameLists w v

-- an open that failed: it leaves the opening as it was
pub record OpenFails (w v : WireSight) : Type 0 where
  pub opening : v.opening ≡ w.opening
  pub plan : IfSome w.plan (λ plan. plan.open_fails ≡ true)
  pub opens : v.opens ≡ next_count w.opens
  pub faults : HasRisen w.take_faults v.take_faults
  pub same : SameLists w v

-- TAKE

-- what a take changes nothing of
pub record SameGiving (w v : WireSight) : Type 0 where
  pub given : v.given ≡ w.given
  pub opening : v.opening ≡ w.opening
  pub plan : v.plan ≡ w.plan
  pub gives : v.gives ≡ w.gives
  pub give_faults : v.give_faults ≡ w.give_faults
  pub opens : v.opens ≡ w.opens

-- A take told its wait.
abbrev pub HasWaited : (wait : ℕ) → WireSight → Type 0
HasWaited wait v = IfSome v.last_wait (λ told. told ≡ wait)

-- A take into a buffer of this room that handed this over. By the plan, of the first 2^64 - 1 takes it
-- is one that isn't meant to fail, and it uses the next entry. Where a plan is told, what takes have
-- handed over is told while the count of takes is below 2^64 - 1.
pub record TakesOne (room : ℕ) (handed : Option Datagram) (w v : WireSight) : Type 0 where
  pub taken : Notes handed w.taken v.taken
  pub plan : IfSome w.plan (λ plan. w.takes < last_count → (is_planned plan.failing_takes (w.takes + 1) ≡ false) × (handed ≡ cut_to room (entry_at plan.entries w.used)) × (v.used ≡ used_after plan.entries w.used))
  pub tells : IfSome w.plan (λ plan. v.takes < last_count → IsSome v.taken)
  pub takes : v.takes ≡ next_count w.takes
  pub faults : v.take_faults ≡ w.take_faults
  pub same : SameGiving w v

-- A take that failed: it handed nothing over and used no entry.
pub record TakeFails (w v : WireSight) : Type 0 where
  pub taken : NotesNothing w.taken v.taken
  pub plan : IfSome w.plan (λ plan. w.takes < last_count → is_planned plan.failing_takes (w.takes + 1) ≡ true)
  pub tells : IfSome w.plan (λ plan. v.takes < last_count → IsSome v.taken)
  pub takes : v.takes ≡ next_count w.takes
  pub used : v.used ≡ w.used
  pub faults : HasRisen w.take_faults v.take_faults
  pub same : SameGiving w v

-- GIVE

-- what a give changes nothing of
pub record SameTaking (w v : WireSight) : Type 0 where
  pub taken : v.taken ≡ w.taken
  pub opening : v.opening ≡ w.opening
  pub plan : v.plan ≡ w.plan
  pub takes : v.takes ≡ w.takes
  pub used : v.used ≡ w.used
  pub take_faults : v.take_faults ≡ w.take_faults
  pub opens : v.opens ≡ w.opens
  pub last_wait : v.last_wait ≡ w.last_wait

-- A give that sent this datagram. By the plan, of the first 2^64 - 1 gives it is one that isn't meant
-- to fail.
pub record GivesOne (sent : Datagram) (w v : WireSight) : Type 0 where
  pub given : Notes sent w.given v.given
  pub plan : IfSome w.plan (λ plan. w.gives < last_count → is_planned plan.failing_gives (w.gives + 1) ≡ false)
  pub gives : v.gives ≡ next_count w.gives
  pub faults : v.give_faults ≡ w.give_faults
  pub same : SameTaking w v

-- a give that failed: it has sent nothing
pub record GiveFails (w v : WireSight) : Type 0 where
  pub given : v.given ≡ w.given
  pub plan : IfSome w.plan (λ plan. w.gives < last_count → is_planned plan.failing_gives (w.gives + 1) ≡ true)
  pub gives : v.gives ≡ next_count w.gives
  pub faults : HasRisen w.give_faults v.give_faults
  pub same : SameTaking w v

-- IN MEMORY

-- The entries that come, how many of them were used, and how many takes were answered. What these were
-- answered is told until their count stands still.
pub record Arrivals : Type 0 where
  pub entries : List (Option Datagram)
  pub used : ℕ
  pub answered : ℕ
  pub taken : Option (List (Option Datagram))

-- what gives have taken, and the room for it: the most octets in all, and the most datagrams
pub record Departures : Type 0 where
  pub room : ℕ
  pub given : List Datagram

pub record WireInMemory : Type 0 where
  -- the last open that answered Ok, where it is told
  pub opening : Option (Option Opening)
  pub open_fails : Bool
  -- the numbers of the takes and of the gives that fail
  pub failing_takes : List ℕ
  pub failing_gives : List ℕ
  -- what the takes find, and how many of these entries were used
  pub entries : List (Option Datagram)
  pub used : ℕ
  -- what takes have handed over, told until the count of takes stands still
  pub taken : Option (List (Option Datagram))
  -- what gives have taken; none where nothing is kept of them
  pub departures : Option Departures
  pub takes : ℕ
  pub gives : ℕ
  pub take_faults : ℕ
  pub give_faults : ℕ
  -- how many opens were called, and how long the last take was to wait, in ms
  pub opens : ℕ
  pub last_wait : Option ℕ

-- A wire in memory that isn't open, and on which no call was made: by what comes on it and what fails, and by what it keeps of gives.
abbrev pub fresh_wire : Plan → Option Departures → WireInMemory
fresh_wire plan departures = record {
  opening = Some None;
  open_fails = plan.open_fails;
  failing_takes = plan.failing_takes;
  failing_gives = plan.failing_gives;
  entries = plan.entries;
  used = 0;
  taken = Some [];
  departures = departures;
  takes = 0;
  gives = 0;
  take_faults = 0;
  give_faults = 0;
  opens = 0;
  last_wait = None;
}

-- how many octets these datagrams have
abbrev pub octets_in : List Datagram → ℕ
octets_in datagrams = sum_by (λ d. length d.octets) datagrams

-- there is room for one more datagram of so many octets
abbrev pub has_room : Departures → ℕ → Bool
has_room departures n = nat_le (octets_in departures.given + n) departures.room && nat_lt (length departures.given) departures.room

-- a give of so many octets lacks room; a wire that keeps nothing of gives needs none
abbrev pub lacks_room : Option Departures → ℕ → Bool
lacks_room None n = false
lacks_room (Some departures) n = not (has_room departures n)

-- what gives have taken, none where nothing is kept of them
abbrev pub kept_given : Option Departures → List Datagram
kept_given None = []
kept_given (Some departures) = departures.given

-- A wire that keeps nothing of gives fails by its lists alone, and tells its plan.
abbrev pub plan_of : Option Departures → WireInMemory → Option Plan
plan_of None w = Some (record { entries = w.entries; failing_takes = w.failing_takes; failing_gives = w.failing_gives; open_fails = w.open_fails })
plan_of (Some _) w = None

abbrev pub wire_in_memory : WireInMemory → WireSight
wire_in_memory w = record {
  taken = w.taken;
  given = option_map (λ departures. departures.given) w.departures;
  opening = w.opening;
  plan = plan_of w.departures w;
  takes = as_count w.takes;
  gives = as_count w.gives;
  used = w.used;
  take_faults = as_count w.take_faults;
  give_faults = as_count w.give_faults;
  opens = as_count w.opens;
  last_wait = w.last_wait;
}

-- the most peers whose opening a wire in memory tells: as many as there are links
abbrev pub most_told_peers : ℕ
most_told_peers = 256

-- what a wire in memory tells of an opening
abbrev pub told_opening : Opening → Option (Option Opening)
told_opening opening = if nat_le (length opening.peers) most_told_peers then Some (Some opening) else None

-- one more answer at the end, where a count of calls that became this is below its greatest value
abbrev pub noted_until : ℕ → Option Datagram → Option (List (Option Datagram)) → Option (List (Option Datagram))
noted_until calls answer taken = if nat_lt calls last_count then option_map (λ xs. xs ++ answer ∷ []) taken else None

-- arrivals after one more take was answered, into a buffer of this room
abbrev pub arrivals_after : ℕ → Arrivals → Arrivals
arrivals_after room a = record {
  entries = a.entries;
  used = used_after a.entries a.used;
  answered = next_count a.answered;
  taken = noted_until (next_count a.answered) (cut_to room (entry_at a.entries a.used)) a.taken;
}

-- a wire in memory after an open
abbrev pub opened_after : Result (Unit {0}) Failed → Opening → WireInMemory → WireInMemory
opened_after (Ok _) opening w = record w { opening = told_opening opening; opens = next_count w.opens }
opened_after (Err _) opening w = record w { take_faults = next_count w.take_faults; opens = next_count w.opens }

-- a wire in memory after a take with this wait, in ms, into a buffer of this room
abbrev pub taken_after : Result (Option (ℕ × ℕ)) Failed → (wait room : ℕ) → WireInMemory → WireInMemory
taken_after (Ok _) wait room w = record w {
  used = used_after w.entries w.used;
  taken = noted_until (next_count w.takes) (cut_to room (entry_at w.entries w.used)) w.taken;
  takes = next_count w.takes;
  last_wait = Some wait;
}
taken_after (Err _) wait room w = record w {
  taken = if nat_lt (next_count w.takes) last_count then w.taken else None;
  takes = next_count w.takes;
  take_faults = next_count w.take_faults;
  last_wait = Some wait;
}

-- departures with one more datagram
abbrev pub departed : Datagram → Departures → Departures
departed datagram d = record d { given = d.given ++ datagram ∷ [] }

-- a wire in memory after a give of this datagram
abbrev pub given_after : Result (Unit {0}) Failed → Datagram → WireInMemory → WireInMemory
given_after (Ok _) datagram w = record w { departures = option_map (departed datagram) w.departures; gives = next_count w.gives }
given_after (Err _) datagram w = record w { gives = next_count w.gives; give_faults = next_count w.give_faults }
