-- A packet that goes straight on: it enters, and as the first that waits on its link it leaves at once.
use Rattle.std.specs.Prelude.{◌≡◌, ◌<◌, ℕ, length, Option, Some, None, nat_lt, nat_le, if◌then◌else◌}
use Rattle.dt_world_model.specs.declared.links.Entered.{Entered}
use Rattle.dt_world_model.specs.declared.links.Entered.TheVariants as entered
use Rattle.dt_world_model.specs.Relay.{Expired, Goes, Left, Out, Parcel, Relay, enter, leave, lower_parcel, may_leave_from, most_on_link, on_link, with_outs, with_waits}
use Rattle.dt_relay.specs.declared.passages.Passage.{Passage}
use Rattle.dt_relay.specs.declared.passages.Passage.TheVariants as passage

-- What becomes of a packet with so much life at the queue of its link. Its charge is one millisecond: it doesn't wait.
abbrev pub passage_on : {T : Type 0} → ℕ → ℕ → Out T → Passage
passage_on life now out =
    if nat_lt (length out.waits) most_on_link then
    (if nat_lt 0 (length out.waits) then passage.Waits out.link
    else if nat_lt now (may_leave_from out.pace out.last) then passage.Waits out.link
    else if nat_le life 1 then passage.Expired out.link else passage.Leaves out.link)
    else passage.Full out.link

-- and where no queue is its way
abbrev pub passage_by : {T : Type 0} → ℕ → ℕ → ℕ → Option (Out T) → Passage
passage_by to life now None = passage.NoRoute to
passage_by to life now (Some out) = passage_on life now out

-- what leaves has the life for its charge
abbrev pub HasLife : ℕ → Passage → Type 0
HasLife life (passage.Leaves link) = 1 < life
HasLife life (passage.Expired link) = Unit {0}
HasLife life (passage.Waits link) = Unit {0}
HasLife life (passage.NoRoute to) = Unit {0}
HasLife life (passage.Full link) = Unit {0}

-- the queue after it
abbrev pub passed_on : {T : Type 0} → Passage → ℕ → Out T → Out T
passed_on (passage.Leaves link) now out = with_waits out out.waits (Some now)
passed_on (passage.Expired link) now out = out
passed_on (passage.Waits link) now out = out
passed_on (passage.NoRoute to) now out = out
passed_on (passage.Full link) now out = out

-- To enter and then to leave comes to this, and nothing more may leave the link then.
pub record GoesStraight {T : Type 0} (parcel : Parcel T) (now link : ℕ) (left : Left T) (old new : Relay T) : Type 0 where
  pub enters : (enter parcel now old).0 ≡ entered.Queued link
  pub leaves : on_link link None (leave now) (enter parcel now old).1.outs ≡ (Some left, new.outs)
  pub ends : on_link link None (leave now) new.outs ≡ (None, new.outs)
  pub others : new ≡ with_outs old new.outs

-- The relay stays. The packet would be queued,
pub record WouldWait {T : Type 0} (parcel : Parcel T) (now link : ℕ) (old new : Relay T) : Type 0 where
  pub same : new ≡ old
  pub queued : (enter parcel now old).0 ≡ entered.Queued link

-- or be answered this, and nothing else.
pub record IsTurnedAway {T : Type 0} (parcel : Parcel T) (now : ℕ) (answer : Entered) (old new : Relay T) : Type 0 where
  pub same : new ≡ old
  pub answered : enter parcel now old ≡ (answer, new)

-- WHAT A PASSAGE MEANS, in the words of entering and leaving.
abbrev pub Passes : {T : Type 0} → Parcel T → ℕ → Passage → Relay T → Relay T → Type 0
Passes parcel now (passage.Leaves link) old new = GoesStraight parcel now link (Goes (lower_parcel 1 parcel)) old new
Passes parcel now (passage.Expired link) old new = GoesStraight parcel now link Expired old new
Passes parcel now (passage.Waits link) old new = WouldWait parcel now link old new
Passes parcel now (passage.NoRoute to) old new = IsTurnedAway parcel now (entered.NoRoute to) old new
Passes parcel now (passage.Full link) old new = IsTurnedAway parcel now (entered.Full link) old new
