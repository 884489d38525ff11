-- The acts of a send record: when each kind is due, its due moment, what it does, and when the record is to be woken.
use Rattle.std.specs.Prelude.{ℕ, ◌+◌, ◌<◌, ◌≤◌, ◌≡◌, max, Bool, true, false, ◌&&◌, if◌then◌else◌, nat_lt, nat_le, List, [], ◌∷◌, ◌++◌, length, Option, Some, None, All}
use Rattle.dt_items.specs.declared.item.Item.{Item}
use Rattle.dt_units.specs.declared.parameters.Params.{Params}
use Rattle.dt_units.specs.Moments.{earlier}
use Rattle.dt_units.specs.Times.{give_time, send_time, spacing_time}
use Rattle.dt_flow_model.specs.declared.acts.SendKind.{SendKind}
use Rattle.dt_flow_model.specs.declared.acts.SendKind.TheVariants.{GiveUp, Release, Resend, Send, Meet}
use Rattle.dt_flow_model.specs.declared.moments.SendMoments.{SendMoments}
use Rattle.dt_flow_model.specs.declared.acts.SendAct.{SendAct}
use Rattle.dt_flow_model.specs.declared.acts.SendAct.TheVariants.{GaveUp, Released, Renewed, Resent, Sent, Met}
use Rattle.dt_flow_model.specs.Numbering.{number_of, is_crossing}
use Rattle.dt_flow_model.specs.SendRecord.{Segment, SendRecord, new_record, end_of, next_of, cut_size, cut_of, rest_of, crossed_after, cut_told}

-- an act, with the octets that it is about
pub data Act : Type 0 where
  -- the leftmost segment is given up; the others stay
  give_up : (g : Segment) → (rest : List Segment) → Act
  -- the record goes
  release : Act
  -- the record begins anew; the octets that wait stay
  renew : Act
  -- a segment goes out again; these stand before it and after it
  resend : (before : List Segment) → (g : Segment) → (after : List Segment) → Act
  -- a cut goes out; the rest waits
  send : (cut : List Item) → (rest : List Item) → Act
  -- a rendezvous packet goes out
  meet : Act

abbrev pub act_if : Bool → Act → Option Act
act_if true act = Some act
act_if false act = None

abbrev pub or_else : Option Act → Option Act → Option Act
or_else None other = other
or_else (Some act) other = Some act

-- Give up: something is outstanding, and the leftmost segment first went out at least `give` ago.
abbrev pub giving_up : Params → ℕ → List Segment → Option Act
giving_up p now [] = None
giving_up p now (g ∷ rest) = act_if (nat_le (g.first + give_time p) now) (give_up g rest)

-- Release: nothing is outstanding, and the record was touched at least `send` ago. It is released where nothing waits, else renewed.
abbrev pub release_or_renew : List Item → Act
release_or_renew [] = release
release_or_renew (i ∷ is) = renew

abbrev pub releasing : Params → ℕ → SendRecord → List Segment → Option Act
releasing p now x [] = act_if (nat_le (x.touched + send_time p) now) (release_or_renew x.waiting)
releasing p now x (g ∷ gs) = None

-- Resend: a segment last went out at least `rto` ago, and first went out less than `r` ago. The one that went out longest ago goes, ties by the lesser offset.
abbrev pub is_late : Params → ℕ → Segment → Bool
is_late p now g = nat_le (g.last + p.rto) now && nat_lt now (g.first + p.r)

-- the better of a segment before the others and the best of the others
abbrev pub better : Segment → List Segment → Bool → Option Act → Option Act
better g gs true (Some (resend before h after)) = if nat_le g.last h.last then Some (resend [] g gs) else Some (resend (g ∷ before) h after)
better g gs true other = Some (resend [] g gs)
better g gs false (Some (resend before h after)) = Some (resend (g ∷ before) h after)
better g gs false other = None

abbrev pub resending : Params → ℕ → List Segment → Option Act
resending p now [] = None
resending p now (g ∷ gs) = better g gs (is_late p now g) (resending p now gs)

-- how many segments may be outstanding
abbrev pub most_segments : ℕ
most_segments = 64

-- Send: a cut of at least one octet can be made, fewer than 64 segments are outstanding and, where `next` is a multiple of the quantum and one was crossed before, that was at least `spacing` ago.
abbrev pub can_send : Params → SendRecord → Bool
can_send p x = nat_lt 0 (cut_size p x) && nat_lt (length x.outstanding) most_segments

abbrev pub spaced_from : Params → Option ℕ → ℕ
spaced_from p None = 0
spaced_from p (Some crossed) = crossed + spacing_time p

-- the moment from which on the cut may go out
abbrev pub may_send_from : Params → SendRecord → ℕ
may_send_from p x = if is_crossing p (next_of x) then spaced_from p x.crossed else 0

abbrev pub sending : Params → ℕ → SendRecord → Option Act
sending p now x = act_if (can_send p x && nat_le (may_send_from p x) now) (send (cut_of p x) (rest_of p x))

-- Meet: nothing is outstanding, something waits, the window is used up, and the record was touched at least `probe` ago.
abbrev pub could_meet : SendRecord → List Segment → List Item → Bool
could_meet x [] [] = false
could_meet x [] (i ∷ is) = nat_le x.edge (next_of x)
could_meet x (g ∷ gs) waiting = false

abbrev pub meeting : Params → ℕ → SendRecord → Option Act
meeting p now x = act_if (could_meet x x.outstanding x.waiting && nat_le (x.touched + p.probe) now) meet

-- the act at now is that of the first kind that is due
abbrev pub act_of : Params → ℕ → SendRecord → Option Act
act_of p now x = or_else (giving_up p now x.outstanding) (or_else (releasing p now x x.outstanding) (or_else (resending p now x.outstanding) (or_else (sending p now x) (meeting p now x))))

-- where a record stands, none of its acts is due
abbrev pub IsIdle : Params → ℕ → Option SendRecord → Type 0
IsIdle p now None = Unit {0}
IsIdle p now (Some x) = act_of p now x ≡ None

-- When an act is due at now, as the table of acts has it. Of the segments that may go out again any is due; `act_of` chooses.
abbrev pub IsDue : Params → ℕ → SendRecord → Act → Type 0
IsDue p now x (give_up g rest) = (x.outstanding ≡ g ∷ rest) × (g.first + give_time p ≤ now)
IsDue p now x release = (x.outstanding ≡ []) × (x.waiting ≡ []) × (x.touched + send_time p ≤ now)
IsDue p now x renew = (x.outstanding ≡ []) × (0 < length x.waiting) × (x.touched + send_time p ≤ now)
IsDue p now x (resend before g after) = (x.outstanding ≡ before ++ g ∷ after) × (g.last + p.rto ≤ now) × (now < g.first + p.r)
IsDue p now x (send cut rest) = (cut ≡ cut_of p x) × (rest ≡ rest_of p x) × (0 < length cut) × (length x.outstanding < most_segments) × (may_send_from p x ≤ now)
IsDue p now x meet = (x.outstanding ≡ []) × (0 < length x.waiting) × (x.edge ≤ next_of x) × (x.touched + p.probe ≤ now)

-- the kind of an act, and its due moment
abbrev pub kind_of : Act → SendKind
kind_of (give_up g rest) = GiveUp
kind_of release = Release
kind_of renew = Release
kind_of (resend before g after) = Resend
kind_of (send cut rest) = Send
kind_of meet = Meet

-- The segment that goes out again is, of those that may, the one whose last transmission was first, and the leftmost of these.
pub record GoesFirst (p : Params) (now : ℕ) (before : List Segment) (g : Segment) (after : List Segment) : Type 0 where
  pub before_it : All (λ h. is_late p now h ≡ true → g.last < h.last) before
  pub after_it : All (λ h. is_late p now h ≡ true → g.last ≤ h.last) after

-- the order of the kinds
abbrev pub rank_of : SendKind → ℕ
rank_of GiveUp = 0
rank_of Release = 1
rank_of Resend = 2
rank_of Send = 3
rank_of Meet = 4

abbrev pub due_moment : Params → SendRecord → Act → ℕ
due_moment p x (give_up g rest) = g.first + give_time p
due_moment p x release = x.touched + send_time p
due_moment p x renew = x.touched + send_time p
due_moment p x (resend before g after) = g.last + p.rto
due_moment p x (send cut rest) = may_send_from p x
due_moment p x meet = x.touched + p.probe

-- the first kind that is due at now, with its due moment
abbrev pub kind_and_moment : Params → SendRecord → Option Act → Option (SendKind × ℕ)
kind_and_moment p x None = None
kind_and_moment p x (Some act) = Some (kind_of act, due_moment p x act)

abbrev pub due_of : Params → ℕ → SendRecord → Option (SendKind × ℕ)
due_of p now x = kind_and_moment p x (act_of p now x)

-- the record after an act at now; none where it was released
abbrev pub record_after : Params → ℕ → SendRecord → Act → Option SendRecord
record_after p now x (give_up g rest) = Some (record x { left = end_of g; outstanding = rest })
record_after p now x release = None
record_after p now x renew = Some (new_record p now x.waiting)
record_after p now x (resend before g after) = Some (record x { touched = now; outstanding = before ++ (record g { last = now }) ∷ after })
record_after p now x (send cut rest) = Some (record x { touched = now; crossed = crossed_after p now x; outstanding = x.outstanding ++ (record { offset = next_of x; items = cut; first = now; last = now }) ∷ []; waiting = rest })
record_after p now x meet = Some (record x { touched = now })

-- what is reported of an act
abbrev pub told_of : Params → SendRecord → Act → SendAct
told_of p x (give_up g rest) = GaveUp (length g.items)
told_of p x release = Released
told_of p x renew = Renewed
told_of p x (resend before g after) = Resent (cut_told p x g.offset g.items)
told_of p x (send cut rest) = Sent (cut_told p x (next_of x) cut)
told_of p x meet = Met (number_of p x.left)

abbrev pub moment_if : Bool → ℕ → Option ℕ
moment_if true moment = Some moment
moment_if false moment = None

-- A moment is the first at which something is due: nothing is due before it, and something is due at it. Where there is none, nothing is ever due.
abbrev pub IsBefore : ℕ → Option ℕ → Type 0
IsBefore now None = Unit {0}
IsBefore now (Some moment) = now < moment

pub record IsFirst (A : Type 0) (due : ℕ → Option A) (wake : Option ℕ) : Type 0 where
  pub nothing_before : (now : ℕ) → IsBefore now wake → due now ≡ None
  pub something_at : (moment : ℕ) → wake ≡ Some moment → (act : A) × (due moment ≡ Some act)

-- THE MOMENTS OF THE KINDS, as they stand at now: from when on each is due if nothing else is done, and none where it is never due from now on.

-- the leftmost segment is given up
abbrev pub gives_up_from : Params → List Segment → Option ℕ
gives_up_from p [] = None
gives_up_from p (g ∷ gs) = Some (g.first + give_time p)

-- the record is released or renewed
abbrev pub releases_from : Params → SendRecord → List Segment → Option ℕ
releases_from p x [] = Some (x.touched + send_time p)
releases_from p x (g ∷ gs) = None

-- A segment may still go out again where the later of now and `rto` after it went out last is less than `r` after it first went out. The first of these moments of last transmissions counts, with `rto`.
abbrev pub resends_from : Params → ℕ → List Segment → Option ℕ
resends_from p now [] = None
resends_from p now (g ∷ gs) = earlier (moment_if (nat_lt (max now (g.last + p.rto)) (g.first + p.r)) (g.last + p.rto)) (resends_from p now gs)

abbrev pub send_moments : Params → ℕ → SendRecord → SendMoments
send_moments p now x =
    record {
      give_up = gives_up_from p x.outstanding;
      release = releases_from p x x.outstanding;
      resend = resends_from p now x.outstanding;
      send = moment_if (can_send p x) (may_send_from p x);
      meet = moment_if (could_meet x x.outstanding x.waiting) (x.touched + p.probe);
    }

-- the moment of one kind, and the least of all
abbrev pub send_moment : SendMoments → SendKind → Option ℕ
send_moment m GiveUp = m.give_up
send_moment m Release = m.release
send_moment m Resend = m.resend
send_moment m Send = m.send
send_moment m Meet = m.meet

abbrev pub least_moment : SendMoments → Option ℕ
least_moment m = earlier m.give_up (earlier m.release (earlier m.resend (earlier m.send m.meet)))

-- when the record is to be woken: the least moment at which an act of any kind is due
abbrev pub wake_of : Params → SendRecord → Option ℕ
wake_of p x = least_moment (send_moments p 0 x)

-- an act of this kind is due
abbrev pub IsKindDue : Params → SendRecord → SendKind → ℕ → Type 0
IsKindDue p x kind now = (act : Act) × (kind_of act ≡ kind) × IsDue p now x act

-- a moment isn't past at now: there is none, or it comes at now or later
abbrev pub IsAhead : ℕ → Option ℕ → Type 0
IsAhead now None = Unit {0}
IsAhead now (Some moment) = now ≤ moment

-- The resend of a segment was missed: it was to go out again at the moment, and may do so no more.
pub record IsMissed (p : Params) (now moment : ℕ) (g : Segment) : Type 0 where
  pub late : g.last + p.rto ≡ moment
  pub in_time : moment < g.first + p.r
  pub over : g.first + p.r ≤ now

pub record HoldsMissed (p : Params) (now moment : ℕ) (gs : List Segment) : Type 0 where
  pub before : List Segment
  pub missed : Segment
  pub after : List Segment
  pub split : gs ≡ before ++ missed ∷ after
  pub is : IsMissed p now moment missed

-- What the moment of a kind says, as it stands at now: where there is none the kind is never due from now on; else it isn't due from now on before the moment, and it is due at the later of the two.
pub record IsMomentOf (due : ℕ → Type 0) (now : ℕ) (moment : Option ℕ) : Type 0 where
  pub never : moment ≡ None → (later : ℕ) → now ≤ later → due later → ⊥
  pub not_before : (m : ℕ) → moment ≡ Some m → (later : ℕ) → now ≤ later → later < m → due later → ⊥
  pub from : (m : ℕ) → moment ≡ Some m → due (max now m)
