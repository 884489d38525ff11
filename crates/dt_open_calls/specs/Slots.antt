-- The places of open calls, and what is noted of the call in each.
use Rattle.std.specs.Prelude.{ℕ, ◌-◌, ◌/◌, ◌≡◌, ◌≤◌, ◌&&◌, ◌||◌, Bool, true, false, nat_eq, nat_lt, not, List, [], ◌∷◌, length, slice_index_or, Option, Some, None, if◌then◌else◌}
use Rattle.std.specs.Map.{lookup}
use Rattle.dt_units.specs.declared.endpoints.Flow.{Flow}
use Rattle.dt_world_model.specs.Host.{one_if}
use Rattle.dt_world_model.specs.Tables.{same_flow, total}
use Rattle.dt_table.specs.Places.{equal_flows, slot}
use Rattle.dt_service_model.specs.declared.calls.OpenCall.{OpenCall}
use Rattle.dt_service_model.specs.declared.happenings.Happening.{Happening}
use Rattle.dt_service_model.specs.Ends.{is_kept, judged_call, unsure_of}
use Rattle.dt_service_model.specs.Hearing.{with_fate}
use Rattle.dt_service_model.specs.Names.{to_u64}
use Rattle.dt_service_model.specs.Turns.{deadline_of}
use Rattle.dt_service_model.specs.Whole.{answered_at, ended}
use Rattle.dt_open_calls.specs.declared.spans.Span.{Span}

-- the call that a position names has its end, where it names one
abbrev pub ended_in : Option ℕ → List OpenCall → List OpenCall
ended_in None calls = calls
ended_in (Some place) calls = answered_at place calls

-- the first call goes
abbrev pub rest_of : List OpenCall → List OpenCall
rest_of [] = []
rest_of (call ∷ calls) = calls

abbrev pub first_of : List OpenCall → Option OpenCall
first_of [] = None
first_of (call ∷ calls) = Some call

-- A PLACE holds a call or is empty. What is done to the calls is done in their places
abbrev pub Slot : Type 0
Slot = Option OpenCall

abbrev pub kept_slot : OpenCall → Slot
kept_slot call = if is_kept call then Some call else None

abbrev pub judged_slot : (now : ℕ) → Slot → Slot
judged_slot now None = None
judged_slot now (Some call) = kept_slot (judged_call now call)

abbrev pub unsure_slot : (now : ℕ) → Slot → Option Happening
unsure_slot now None = None
unsure_slot now (Some call) = unsure_of now call

abbrev pub deadline_slot : Slot → Option ℕ
deadline_slot None = None
deadline_slot (Some call) = deadline_of call

abbrev pub slot_is : (OpenCall → Bool) → Slot → Bool
slot_is test None = false
slot_is test (Some call) = test call

abbrev pub waits_in : Slot → ℕ
waits_in None = 0
waits_in (Some call) = one_if call.waits

abbrev pub waiting_slot : Slot → Slot
waiting_slot None = None
waiting_slot (Some call) = if call.waits then Some call else None

-- so many octets of a flow have their fate, and so many more in the places that follow
abbrev pub fated_slot : (given_up : Bool) → Flow → (count : ℕ) → Slot → Slot
fated_slot given_up f count None = None
fated_slot given_up f count (Some call) = Some (if same_flow call.flow f then with_fate given_up count call else call)

abbrev pub count_past : Flow → (count : ℕ) → Slot → ℕ
count_past f count None = count
count_past f count (Some call) = if same_flow call.flow f then count - call.left else count

abbrev pub fated : (given_up : Bool) → Flow → (count : ℕ) → List Slot → List Slot
fated given_up f count [] = []
fated given_up f count (s ∷ slots) = fated_slot given_up f count s ∷ fated given_up f (count_past f count s) slots

abbrev pub has_octets_on : Flow → OpenCall → Bool
has_octets_on f call = same_flow call.flow f && nat_lt 0 call.left

abbrev pub ended_slot : Slot → Slot
ended_slot None = None
ended_slot (Some call) = Some (ended call)

-- WHERE the calls of a number or of a flow are: nowhere, or from a first place to a last
abbrev pub IsInSpan : Option Span → ℕ → Type 0
IsInSpan None i = ⊥
IsInSpan (Some s) i = (s.first ≤ i) × (i ≤ s.last)

-- WHEN something is due of a call. It is urgent where the next judgement changes it, whatever the moment is
abbrev pub is_urgent : OpenCall → Bool
is_urgent call = call.has_given_up || not (is_kept call)

pub record IsNoLater (m : ℕ) (call : OpenCall) : Type 0 where
  pub urgent : is_urgent call ≡ true → m ≡ 0
  pub waits : call.waits ≡ true → m ≤ call.deadline

-- nothing is due before this moment in a block of places; of one that isn't noted it may be at any
abbrev pub due_at : List ℕ → ℕ → ℕ
due_at dues block = slice_index_or dues block 0

abbrev pub block_of : ℕ → ℕ
block_of i = i / 64

-- THE CALL IN A PLACE is found
pub record IsFound (first : ℕ) (dues : List ℕ) (numbers : List (ℕ × Span)) (flows : List (Flow × Span)) (i : ℕ) (call : OpenCall) : Type 0 where
  pub behind : first ≤ i
  pub due : IsNoLater (due_at dues (block_of i)) call
  pub numbered : call.waits ≡ true → IsInSpan (lookup (nat_eq (to_u64 call.number)) numbers) i
  pub flowing : nat_lt 0 call.left ≡ true → IsInSpan (lookup (equal_flows call.flow) flows) i

-- what holds of each call and its place
abbrev pub Each : (ℕ → OpenCall → Type 0) → List Slot → Type 0
Each P slots = (i : ℕ) (call : OpenCall) → slot slots i ≡ Some call → P i call

-- the calls are counted, and each is found
pub record AreKept (waiting first : ℕ) (dues : List ℕ) (numbers : List (ℕ × Span)) (flows : List (Flow × Span)) (slots : List Slot) : Type 0 where
  pub counted : waiting ≡ total waits_in slots
  pub within : first ≤ length slots
  pub found : Each (IsFound first dues numbers flows) slots

abbrev pub AreDue : List ℕ → List Slot → Type 0
AreDue dues slots = Each (λ i call. IsNoLater (due_at dues (block_of i)) call) slots
