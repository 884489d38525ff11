-- What a node does, as it is seen from outside: what it tells and what it hands out.
use Rattle.std.specs.Prelude.{ℕ, Bool, true, false, List, [], ◌∷◌, flat_map, Some}
use Rattle.dt_edges.specs.Wires.{Datagram}
use Rattle.dt_reports.specs.Entries.{Entry}
use Rattle.dt_reports.specs.Told.{Told}
use Rattle.dt_reports.specs.declared.reports.Report.TheVariants as report
use Rattle.dt_world_model.specs.Script.{Script, Done, Tell, Ask, Hand}

-- what was told, and which frame left on which link; each at a moment
pub data Act : Type 0 where
  Tells : (moment : ℕ) → (told : Told) → Act
  Hands : (moment link : ℕ) → (octets : List ℕ) → Act

-- what a script over plain frames does at a moment
abbrev pub acts_of : {A : Type 0} → ℕ → Script (Unit {0}) A → List Act
acts_of now (Done a) = []
acts_of now (Tell told script) = Tells now told ∷ acts_of now script
acts_of now (Ask host octets script) = acts_of now (script tt)
acts_of now (Hand link parcel script) = Hands now link parcel.octets ∷ acts_of now script

abbrev pub answer_of : {A : Type 0} → Script (Unit {0}) A → A
answer_of (Done a) = a
answer_of (Tell told script) = answer_of script
answer_of (Ask host octets script) = answer_of (script tt)
answer_of (Hand link parcel script) = answer_of script

-- THE LINES AND THE FRAMES OF A NODE

-- a line of the log of this node
abbrev pub entry : (me moment : ℕ) → Told → Entry
entry me moment told = record { moment = moment; node = Some me; told = told }

abbrev pub lines_of_act : ℕ → Act → List Entry
lines_of_act me (Tells moment told) = entry me moment told ∷ []
lines_of_act me (Hands moment link octets) = []

abbrev pub frames_of_act : Act → List Datagram
frames_of_act (Tells moment told) = []
frames_of_act (Hands moment link octets) = record { link = link; octets = octets } ∷ []

abbrev pub node_lines : ℕ → List Act → List Entry
node_lines me acts = flat_map (lines_of_act me) acts

abbrev pub node_frames : List Act → List Datagram
node_frames acts = flat_map frames_of_act acts

-- ACTS AS THEY WERE DONE: each frame was given to the wire, and lost where the give failed

pub data Deed : Type 0 where
  Says : (moment : ℕ) → (told : Told) → Deed
  Gives : (moment link : ℕ) → (octets : List ℕ) → (lost : Bool) → Deed

abbrev pub act_of : Deed → Act
act_of (Says moment told) = Tells moment told
act_of (Gives moment link octets lost) = Hands moment link octets

abbrev pub unsent_if : (me moment link : ℕ) → Bool → List Entry
unsent_if me moment link true = entry me moment (report.Unsent link) ∷ []
unsent_if me moment link false = []

abbrev pub lines_of_deed : ℕ → Deed → List Entry
lines_of_deed me (Says moment told) = entry me moment told ∷ []
lines_of_deed me (Gives moment link octets lost) = unsent_if me moment link lost

-- The log: the node's lines, and an `unsent` line where a frame was lost.
abbrev pub log_lines : ℕ → List Deed → List Entry
log_lines me deeds = flat_map (lines_of_deed me) deeds

abbrev pub frame_unless : ℕ → List ℕ → Bool → List Datagram
frame_unless link octets true = []
frame_unless link octets false = record { link = link; octets = octets } ∷ []

abbrev pub sent_by : Deed → List Datagram
sent_by (Says moment told) = []
sent_by (Gives moment link octets lost) = frame_unless link octets lost

-- the frames that were given and not lost
abbrev pub sent_frames : List Deed → List Datagram
sent_frames deeds = flat_map sent_by deeds

abbrev pub fates_by : Deed → List Bool
fates_by (Says moment told) = []
fates_by (Gives moment link octets lost) = lost ∷ []

-- for each frame, whether it was lost
abbrev pub fates : List Deed → List Bool
fates deeds = flat_map fates_by deeds
