-- How sent segments lie in one list of items: as parts of it, one after another from its front.
use Rattle.std.specs.Prelude.{ℕ, ◌+◌, ◌≡◌, nat_lt, if◌then◌else◌, List, [], ◌∷◌, length, take, drop, Option, Some, None}
use Rattle.dt_items.specs.declared.item.Item.{Item}
use Rattle.dt_flow_model.specs.SendRecord.{Segment}
use Rattle.dt_flow_model.specs.SendActs.{Act, give_up, release, renew, resend, send, meet}
use Rattle.dt_send.specs.declared.sent_segments.SentSegment.{SentSegment}

-- the segment of the first of the items
abbrev pub segment_of : SentSegment → List Item → Segment
segment_of s items = record { offset = s.offset; items = take s.length items; first = s.first; last = s.last }

abbrev pub segments_of : List SentSegment → List Item → List Segment
segments_of [] items = []
segments_of (s ∷ ss) items = segment_of s items ∷ segments_of ss (drop s.length items)

-- how many items they have
abbrev pub octets_in : List SentSegment → ℕ
octets_in [] = 0
octets_in (s ∷ ss) = s.length + octets_in ss

-- The place of the segment that an act sends again, counted from a place on, with the moment when it went out last. No act: there is no such place.
abbrev pub IsPlaceOf : ℕ → Option Act → Option (ℕ × ℕ) → Type 0
IsPlaceOf from None best = best ≡ None
IsPlaceOf from (Some (give_up g rest)) best = ⊥
IsPlaceOf from (Some release) best = ⊥
IsPlaceOf from (Some renew) best = ⊥
IsPlaceOf from (Some (resend before g after)) best = best ≡ Some (from + length before, g.last)
IsPlaceOf from (Some (send cut rest)) best = ⊥
IsPlaceOf from (Some meet) best = ⊥

-- of two such places the one of the earlier moment, and of two at one moment the first
abbrev pub earlier_place : ℕ × ℕ → Option (ℕ × ℕ) → Option (ℕ × ℕ)
earlier_place place None = Some place
earlier_place place (Some other) = if nat_lt other.1 place.1 then Some other else Some place
