-- What sends took of a flow and what reads answered of it, in the words of the calls.
use Rattle.std.specs.Prelude.{ℕ, ◌≡◌, ◌⊎◌, Bool, true, false, List, [], ◌∷◌, ◌++◌, take}
use Rattle.dt_items.specs.declared.item.Item.{Item}
use Rattle.dt_items.specs.Unread.{marked}
use Rattle.dt_units.specs.declared.endpoints.Flow.{Flow}
use Rattle.dt_flow_model.specs.Ledger.{plain}
use Rattle.dt_world_model.specs.Tables.{same_flow}
use Rattle.dt_endpoint.specs.declared.answers.Sent.{Sent}
use Rattle.dt_endpoint.specs.declared.answers.Sent.TheVariants as sent
use Rattle.dt_endpoint.specs.declared.answers.Delivered.{Delivered}
use Rattle.dt_endpoint.specs.declared.answers.Delivered.TheVariants as piece
use Rattle.dt_network.specs.Steps.{Call, CallRead, CallSend, Calls, Pass, Step}

-- A SEND took its octets where it answered Done. One that found no memory took them or not: it isn't told
abbrev pub IsTaken : Sent → List Item → List Item → Type 0
IsTaken sent.Done items taken = taken ≡ items
IsTaken sent.NoMemory items taken = (taken ≡ items) ⊎ (taken ≡ [])
IsTaken other items taken = taken ≡ []

abbrev pub TakesIf : Bool → Sent → List Item → List Item → Type 0
TakesIf true answer items taken = IsTaken answer items taken
TakesIf false answer items taken = taken ≡ []

-- the octets of a flow that a call took, with the marks of their messages
abbrev pub Takes : Flow → Call → List Item → Type 0
Takes f (CallSend now flow octets begin end answer) taken = TakesIf (same_flow flow f) answer (marked octets begin end false) taken
Takes f other taken = taken ≡ []

-- A READ answers the octets at the head of the buffer, with the marks of the piece
abbrev pub items_read : Delivered → List ℕ → List Item
items_read (piece.Read len run begin end) buf = marked (take len buf) begin end run
items_read other buf = []

abbrev pub read_if : Bool → List Item → List Item
read_if true items = items
read_if false items = []

abbrev pub read_by : Flow → Call → List Item
read_by f (CallRead now flow room buf answer) = read_if (same_flow flow f) (items_read answer buf)
read_by f other = []

-- ALL STEPS: what the sends of a flow took, and what its reads answered, in the order of the calls, over all openings of its nodes
abbrev pub TakesIn : Flow → Step → List Item → Type 0
TakesIn f (Pass by) taken = taken ≡ []
TakesIn f (Calls n call after) taken = Takes f call taken

abbrev pub AreTaken : Flow → List Step → List Item → Type 0
AreTaken f [] items = items ≡ []
AreTaken f (s ∷ steps) items = (first : List Item) × (rest : List Item) × TakesIn f s first × AreTaken f steps rest × (items ≡ first ++ rest)

abbrev pub read_in_step : Flow → Step → List Item
read_in_step f (Pass by) = []
read_in_step f (Calls n call after) = read_by f call

abbrev pub all_read : Flow → List Step → List Item
all_read f [] = []
all_read f (s ∷ steps) = read_in_step f s ++ all_read f steps

-- WHAT IS READ IS WHAT WAS SENT, with some of it left out: each octet at most once, in order, with the marks of its message. An octet without a run mark stands directly after the one that was read before it; `joined` tells that nothing was left out since that one
pub data IsReadOf : (joined : Bool) → List Item → List Item → Type 0 where
  nothing : {joined : Bool} {taken : List Item} → IsReadOf joined [] taken
  reads : {joined : Bool} {item x : Item} {read taken : List Item} → (item.run ≡ false → joined ≡ true) → plain item ≡ x → IsReadOf true read taken → IsReadOf joined (item ∷ read) (x ∷ taken)
  leaves : {joined : Bool} {x : Item} {read taken : List Item} → IsReadOf false read taken → IsReadOf joined read (x ∷ taken)
