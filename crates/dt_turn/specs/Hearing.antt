-- What a station answers to a packet, as far as it concerns a shelf. It is read off what is told in the event: nothing but an answer to a packet is told by these reports.
use Rattle.std.specs.Prelude.{◌≡◌, ℕ, List, Some, None}
use Rattle.dt_units.specs.Numbers.{number_after}
use Rattle.dt_reports.specs.Told.{Told}
use Rattle.dt_reports.specs.Matters as matter
use Rattle.dt_reports.specs.Matters.{Matter, matter_of}
use Rattle.dt_world_model.specs.Host.{Host}
use Rattle.dt_world_model.specs.Relay.{Parcel}
use Rattle.dt_world_model.specs.Script.{Script, Done, Tell, Ask, Hand}
use Rattle.dt_turn.specs.declared.packet_answers.PacketAnswer.{PacketAnswer}
use Rattle.dt_turn.specs.declared.packet_answers.PacketAnswer.TheVariants as heard
use Rattle.dt_turn.specs.declared.packet_answers.Listener.{Listener}

-- what is heard after a report: what was accepted, and what was replied to or dropped; all else leaves it as it was
abbrev pub hears_by : Matter → PacketAnswer → PacketAnswer
hears_by (matter.Accepted flow number count run) before = heard.Accepted flow (number_after number count)
hears_by (matter.Replied flow number) before = heard.Refused flow (Some number)
hears_by (matter.Dropped flow) before = heard.Refused flow None
hears_by (matter.Taken flow count) before = before
hears_by (matter.Refused flow fault) before = before
hears_by (matter.Transmitted flow number count) before = before
hears_by (matter.Retransmitted flow) before = before
hears_by (matter.GivenUp flow count) before = before
hears_by (matter.Acknowledged flow count window) before = before
hears_by (matter.ReadOut flow run begin end octets) before = before
hears_by (matter.NothingRead flow) before = before
hears_by (matter.Left link life) before = before
hears_by (matter.Begun life) before = before
hears_by matter.Neither before = before

abbrev pub hears : Told → PacketAnswer → PacketAnswer
hears told before = hears_by (matter_of told) before

-- what is heard in the end of a script over plain frames
abbrev pub heard_in : {A : Type 0} → Script (Unit {0}) A → PacketAnswer → PacketAnswer
heard_in (Done a) before = before
heard_in (Tell told script) before = heard_in script (hears told before)
heard_in (Ask host octets script) before = heard_in (script tt) before
heard_in (Hand link parcel script) before = heard_in script before

-- A LISTENER hands on what it is told, and keeps what it hears.
module _ {V : Type 0} where
  abbrev pub listens_tells : (V → Told → V → Type 0) → Listener V → Told → Listener V → Type 0
  listens_tells tells s told t = tells s.visitor.now told t.visitor.now × (t.heard ≡ hears told s.heard) × (t.visitor.ghost_name ≡ s.visitor.ghost_name)

  abbrev pub listens_tags : (V → Host → List ℕ → Unit {0} → V → Type 0) → Listener V → Host → List ℕ → Unit {0} → Listener V → Type 0
  listens_tags tags s host octets tag t = tags s.visitor.now host octets tag t.visitor.now × (t.heard ≡ s.heard) × (t.visitor.ghost_name ≡ s.visitor.ghost_name)

  abbrev pub listens_hands : (V → ℕ → Parcel (Unit {0}) → V → Type 0) → Listener V → ℕ → Parcel (Unit {0}) → Listener V → Type 0
  listens_hands hands s link parcel t = hands s.visitor.now link parcel t.visitor.now × (t.heard ≡ s.heard) × (t.visitor.ghost_name ≡ s.visitor.ghost_name)

  abbrev pub listens_fails : (V → V → Type 0) → Listener V → Listener V → Type 0
  listens_fails fails s t = fails s.visitor.now t.visitor.now × (t.visitor.ghost_name ≡ s.visitor.ghost_name)
