-- What a script over plain frames does, in order: what it tells, and which frames it hands out.
use Rattle.std.specs.Prelude.{ℕ, List, [], ◌∷◌, flat_map}
use Rattle.dt_layout.specs.Carried.{to_of}
use Rattle.dt_reports.specs.Told.{Told}
use Rattle.dt_world_model.specs.Relay.{Parcel}
use Rattle.dt_world_model.specs.Script.{Script, Done, Tell, Ask, Hand}
use Rattle.dt_endpoint.specs.Hearing.{kept}

pub data Act : Type 0 where
  Tells : (told : Told) → Act
  Hands : (link : ℕ) → (octets : List ℕ) → Act

abbrev pub acts_of : {A : Type 0} → Script (Unit {0}) A → List Act
acts_of (Done a) = []
acts_of (Tell told script) = Tells told ∷ acts_of script
acts_of (Ask host octets script) = acts_of (script tt)
acts_of (Hand link parcel script) = Hands link parcel.octets ∷ acts_of script

-- what it leads to
abbrev pub answer_of : {A : Type 0} → Script (Unit {0}) A → A
answer_of (Done a) = a
answer_of (Tell told script) = answer_of script
answer_of (Ask host octets script) = answer_of (script tt)
answer_of (Hand link parcel script) = answer_of script

-- a frame that left on a link, with the node that it goes to
pub record OutFrameValue : Type 0 where
  pub link : ℕ
  pub to : ℕ
  pub octets : List ℕ

abbrev pub out_frame : ℕ → List ℕ → OutFrameValue
out_frame link octets = record { link = link; to = to_of octets; octets = octets }

abbrev pub frames_of_act : Act → List OutFrameValue
frames_of_act (Tells told) = []
frames_of_act (Hands link octets) = out_frame link octets ∷ []

abbrev pub reports_of_act : Act → List Told
reports_of_act (Tells told) = kept told ∷ []
reports_of_act (Hands link octets) = []

abbrev pub frames_in : List Act → List OutFrameValue
frames_in acts = flat_map frames_of_act acts

abbrev pub reports_in : List Act → List Told
reports_in acts = flat_map reports_of_act acts

-- a frame as a packet on which nothing is written
abbrev pub plain : List ℕ → Parcel (Unit {0})
plain octets = record { octets = octets; tag = tt }
