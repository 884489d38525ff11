-- A shelf: packets that came too early, each with its link, its flow, the number of its first octet and the moment at which it was put there. The one that was put there first stands in front.
use Rattle.std.specs.Prelude.{ℕ, ◌==◌, ◌&&◌, Bool, true, false, List, [], ◌∷◌, ◌++◌, All, length, nat_lt, nat_le, Option, Some, None, option_map, if◌then◌else◌}
use Rattle.dt_units.specs.declared.endpoints.Flow.{Flow}
use Rattle.dt_layout.specs.Carried.{IsGram, life_of, lowered}
use Rattle.dt_world_model.specs.Relay.{time_charge}
use Rattle.dt_world_model.specs.Tables.{same_flow}
use Rattle.dt_shelf.specs.declared.handed.Handed.{Handed}
use Rattle.dt_shelf.specs.declared.handed.Handed.TheVariants as handed
use Rattle.dt_shelf.specs.declared.taken.Taken.{Taken}
use Rattle.dt_shelf.specs.declared.taken.Taken.TheVariants.{Again, Stale}

pub record Held : Type 0 where
  pub link : ℕ
  pub flow : Flow
  pub number : ℕ
  pub frame : List ℕ
  pub since : ℕ

pub record Shelf : Type 0 where
  -- how many packets it holds at most
  pub room : ℕ
  pub held : List Held

abbrev pub empty_shelf : ℕ → Shelf
empty_shelf room = record { room = room; held = [] }

abbrev pub held_packet : (link : ℕ) → Flow → (number : ℕ) → (octets : List ℕ) → (since : ℕ) → Held
held_packet link flow number octets since = record { link = link; flow = flow; number = number; frame = octets; since = since }

-- A PACKET IS HELD: it goes after those that are there, where there is room for it.
abbrev pub hold : Held → Shelf → Bool × Shelf
hold h shelf = if nat_lt (length shelf.held) shelf.room then (true, record { room = shelf.room; held = shelf.held ++ h ∷ [] }) else (false, shelf)

-- A PACKET IS TAKEN: the first of its flow and number leaves the shelf. It pays with its life for its time there, as in a queue; one that can't is stale.
abbrev pub is_of : Flow → ℕ → Held → Bool
is_of flow number h = same_flow h.flow flow && (h.number == number)

-- the first of a flow and number, and the others in their order
abbrev pub pick : Flow → ℕ → List Held → Option Held × List Held
pick flow number [] = (None, [])
pick flow number (h ∷ hs) = if is_of flow number h then (Some h, hs) else ((pick flow number hs).0, h ∷ (pick flow number hs).1)

abbrev pub taken_at : ℕ → Held → Taken
taken_at now h = let charge = time_charge now h.since in if nat_le (life_of h.frame) charge then Stale else Again h.link (lowered charge h.frame)

abbrev pub take_held : Flow → ℕ → ℕ → Shelf → Option Taken × Shelf
take_held flow number now shelf =
    let r = pick flow number shelf.held in
    (option_map (taken_at now) r.0, record { room = shelf.room; held = r.1 })

-- What is held reads as a Deltagram.
abbrev pub HoldsGram : Held → Type 0
HoldsGram h = IsGram h.frame

-- what holds of a packet that is handed over again
abbrev pub IfAgain : Option Taken → (ℕ → List ℕ → Type 0) → Type 0
IfAgain None f = Unit {0}
IfAgain (Some (Again link octets)) f = f link octets
IfAgain (Some Stale) f = Unit {0}

-- what is taken, where its octets are the caller's already
abbrev pub handed_with : List ℕ → Option Handed → Option Taken
handed_with octets None = None
handed_with octets (Some (handed.Again link)) = Some (Again link octets)
handed_with octets (Some handed.Stale) = Some Stale
