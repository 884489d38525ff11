-- The moment at which a record is to be woken is the first at which an act is due; and the kind that is chosen is the first that is due.
use Rattle.std.proofs.Common.{ℕ, ◌+◌, ◌<◌, ◌≤◌, ◌≡◌, Bool, true, false, List, [], ◌∷◌, ◌++◌, length, Option, Some, None, refl, ap, ◌∙◌, subst, inl, inr, arith}
use Rattle.std.specs.Prelude.{◌&&◌, nat_lt, nat_le, min, max}
use Rattle.std.proofs.lemmas.Bool.{cases_Bool, cases_lt}
use Rattle.std.proofs.lemmas.Bool.Decides.{nat_tests}
use Rattle.dt_flow_model.specs.ReceiveRecord.{IsOwed, IsRecvDue, ReceiveRecord, owing, recv_due_of, recv_moment_if, recv_wake_of}
use Rattle.dt_flow_model.specs.SendActs.{Act, IsBefore, IsDue, IsFirst, act_if, act_of, better, can_send, could_meet, give_up, gives_up_from, giving_up, is_late, kind_of, may_send_from, meet, meeting, moment_if, most_segments, or_else, rank_of, release, release_or_renew, releases_from, releasing, renew, resend, resending, resends_from, send, sending, wake_of}
use Rattle.dt_flow_model.specs.SendRecord.{Segment, SendRecord, cut_of, cut_size, next_of, rest_of}
use Rattle.dt_flow_model.specs.declared.acts.RecvKind.{RecvKind}
use Rattle.dt_items.specs.declared.item.Item.{Item}
use Rattle.dt_units.specs.Times.{give_time, receive_time, send_time}
use Rattle.dt_units.specs.declared.parameters.Params.{Params}
use Rattle.dt_units.specs.Moments.{earlier}
use Rattle.dt_flow_model.specs.declared.acts.RecvKind.TheVariants as V
use Rattle.dt_flow_model.proofs.Chosen.{DueOf, both, cut_count, le_true, resend_may, true_le, true_lt}

before_le : (m n : ℕ) → n < m → nat_le m n ≡ false
before_le m n h = grind (arith, nat_tests)

-- FIRST MOMENTS

before_parts : (n : ℕ) (f g : Option ℕ) → IsBefore n (earlier f g) → IsBefore n f × IsBefore n g
before_parts n None g h = (tt, h)
before_parts n (Some m) None h = (h, tt)
before_parts n (Some m) (Some k) h = (omega arith, omega arith)

or_none : (a b : Option Act) → a ≡ None → b ≡ None → or_else a b ≡ None
or_none None b h k = k
or_none (Some a) b h k = absurd cc

or_left : (a b : Option Act) (d : Act) → a ≡ Some d → or_else a b ≡ Some d
or_left None b d h = absurd cc
or_left (Some a) b d h = h

or_right : (a b : Option Act) (d : Act) → b ≡ Some d → (e : Act) × (or_else a b ≡ Some e)
or_right None b d h = (d, h)
or_right (Some a) b d h = (a, refl)

two_at : (k l : ℕ → Option Act) (f g : Option ℕ) → IsFirst Act k f → IsFirst Act l g → (m : ℕ) → earlier f g ≡ Some m → (d : Act) × (or_else (k m) (l m) ≡ Some d)
two_at k l None g hk hl m e = let a = hl.something_at m e in or_right (k m) (l m) a.0 a.1
two_at k l (Some f) None hk hl m e = let a = hk.something_at m e in (a.0, or_left (k m) (l m) a.0 a.1)
two_at k l (Some f) (Some g) hk hl m e =
    elim (cases_lt g f) [
      | inl lt ↦
          let same : min f g ≡ m = cc in
          let eq : Some g ≡ Some m = ap (λ (n : ℕ). Some n) (omega arith) in
          let a = hl.something_at m eq in
          or_right (k m) (l m) a.0 a.1
      | inr ge ↦
          let same : min f g ≡ m = cc in
          let eq : Some f ≡ Some m = ap (λ (n : ℕ). Some n) (omega arith) in
          let a = hk.something_at m eq in
          (a.0, or_left (k m) (l m) a.0 a.1)
    ]

two_first : (k l : ℕ → Option Act) (f g : Option ℕ) → IsFirst Act k f → IsFirst Act l g → IsFirst Act (λ n. or_else (k n) (l n)) (earlier f g)
two_first k l f g hk hl = record {
  nothing_before = λ n h. let parts = before_parts n f g h in or_none (k n) (l n) (hk.nothing_before n parts.0) (hl.nothing_before n parts.1);
  something_at = two_at k l f g hk hl;
}

-- due from a moment on, where a condition holds
if_before : (c : Bool) (m n : ℕ) (a : Act) → IsBefore n (moment_if c m) → act_if (c && nat_le m n) a ≡ None
if_before true m n a h = rw (before_le m n h)
if_before false m n a h = refl

if_at : (c : Bool) (m k : ℕ) (a : Act) → moment_if c m ≡ Some k → (d : Act) × (act_if (c && nat_le m k) a ≡ Some d)
if_at true m k a e = let same : m ≡ k = cc in (a, rw (true_le m k (omega arith)))
if_at false m k a e = absurd cc

if_first : (c : Bool) (m : ℕ) (a : Act) → IsFirst Act (λ n. act_if (c && nat_le m n) a) (moment_if c m)
if_first c m a = record { nothing_before = λ n h. if_before c m n a h; something_at = λ k e. if_at c m k a e }

none_first : IsFirst Act (λ n. None) None
none_first = record { nothing_before = λ n h. refl; something_at = λ k e. absurd cc }

give_up_first : (p : Params) (gs : List Segment) → IsFirst Act (λ n. giving_up p n gs) (gives_up_from p gs)
give_up_first p [] = none_first
give_up_first p (g ∷ gs) = if_first true (g.first + give_time p) (give_up g gs)

release_first : (p : Params) (x : SendRecord) (gs : List Segment) → IsFirst Act (λ n. releasing p n x gs) (releases_from p x gs)
release_first p x [] = if_first true (x.touched + send_time p) (release_or_renew x.waiting)
release_first p x (g ∷ gs) = none_first

meet_first : (p : Params) (x : SendRecord) → IsFirst Act (λ n. meeting p n x) (moment_if (could_meet x x.outstanding x.waiting) (x.touched + p.probe))
meet_first p x = if_first (could_meet x x.outstanding x.waiting) (x.touched + p.probe) meet

-- segments that go out again
better_none : (g : Segment) (gs : List Segment) (b : Bool) (o : Option Act) → b ≡ false → o ≡ None → better g gs b o ≡ None
better_none g gs true o h k = absurd cc
better_none g gs false None h k = refl
better_none g gs false (Some a) h k = absurd cc

better_here : (g : Segment) (gs : List Segment) (o : Option Act) → (d : Act) × (better g gs true o ≡ Some d)
better_here g gs None = (resend [] g gs, refl)
better_here g gs (Some (give_up a z)) = (resend [] g gs, refl)
better_here g gs (Some release) = (resend [] g gs, refl)
better_here g gs (Some renew) = (resend [] g gs, refl)
better_here g gs (Some (send a z)) = (resend [] g gs, refl)
better_here g gs (Some meet) = (resend [] g gs, refl)
better_here g gs (Some (resend before h after)) = elim (cases_Bool (nat_le g.last h.last)) [ inl y ↦ (resend [] g gs, rw y) | inr n ↦ (resend (g ∷ before) h after, rw n) ]

better_there : (p : Params) (now : ℕ) (g : Segment) (gs : List Segment) (b : Bool) (d : Act) → DueOf p now gs d → (e : Act) × (better g gs b (Some d) ≡ Some e)
better_there p now g gs true d h = better_here g gs (Some d)
better_there p now g gs false (resend before k after) h = (resend (g ∷ before) k after, refl)
better_there p now g gs false (give_up a z) h = elim h [ ]
better_there p now g gs false release h = elim h [ ]
better_there p now g gs false renew h = elim h [ ]
better_there p now g gs false (send a z) h = elim h [ ]
better_there p now g gs false meet h = elim h [ ]

better_some : (p : Params) (now : ℕ) (g : Segment) (gs : List Segment) (b : Bool) (d : Act) → resending p now gs ≡ Some d → (e : Act) × (better g gs b (resending p now gs) ≡ Some e)
better_some p now g gs b d h = let e = better_there p now g gs b d (resend_may p now gs d h) in (e.0, rw h e.1)

not_late : (late now until : ℕ) (b : Bool) → nat_lt late until ≡ b → IsBefore now (moment_if b late) → (nat_le late now && nat_lt now until) ≡ false
not_late late now until true e h = rw (before_le late now h)
not_late late now until false e h =
    elim (cases_Bool (nat_le late now)) [
      | inl y ↦ let le : late ≤ now = le_true late now y in let ge : until ≤ late = grind (arith, nat_tests) in let lt : nat_lt now until ≡ false = grind (arith, nat_tests) in rw y lt
      | inr n ↦ rw n
    ]

is_late_at : (late until : ℕ) → nat_lt late until ≡ true → (nat_le late late && nat_lt late until) ≡ true
is_late_at late until h = both (nat_le late late) (nat_lt late until) (true_le late late (omega arith)) h

-- whether a segment may go out again at all, from 0 on
abbrev may : Params → Segment → Bool
may p g = nat_lt (max 0 (g.last + p.rto)) (g.first + p.r)

from_zero : (n : ℕ) → n ≡ max 0 n
from_zero n = omega arith

may_be : (p : Params) (g : Segment) → nat_lt (g.last + p.rto) (g.first + p.r) ≡ may p g
may_be p g = ap (λ (n : ℕ). nat_lt n (g.first + p.r)) (from_zero (g.last + p.rto))

resend_before : (p : Params) (n : ℕ) (gs : List Segment) → IsBefore n (resends_from p 0 gs) → resending p n gs ≡ None
resend_before p n [] h = refl
resend_before p n (g ∷ gs) h =
    let parts = before_parts n (moment_if (may p g) (g.last + p.rto)) (resends_from p 0 gs) h in
    better_none g gs (is_late p n g) (resending p n gs) (not_late (g.last + p.rto) n (g.first + p.r) (may p g) (may_be p g) parts.0) (resend_before p n gs parts.1)

-- the first of two moments, where the second is of the other segments
resend_here : (p : Params) (g : Segment) (gs : List Segment) (m : ℕ) → nat_lt (g.last + p.rto) (g.first + p.r) ≡ true → g.last + p.rto ≡ m → (d : Act) × (resending p m (g ∷ gs) ≡ Some d)
resend_here p g gs m late same =
    let e = better_here g gs (resending p m gs) in
    let is : is_late p m g ≡ true = rw (← same) (is_late_at (g.last + p.rto) (g.first + p.r) late) in
    (e.0, rw is e.1)

resend_at : (p : Params) (gs : List Segment) (m : ℕ) → resends_from p 0 gs ≡ Some m → (d : Act) × (resending p m gs ≡ Some d)
resend_at p [] m e = absurd cc
resend_at p (g ∷ gs) m e = go (may p g) (may_be p g) (resends_from p 0 gs) (resend_at p gs) e
  where
    go : (b : Bool) → nat_lt (g.last + p.rto) (g.first + p.r) ≡ b → (f : Option ℕ) → ((m : ℕ) → f ≡ Some m → (d : Act) × (resending p m gs ≡ Some d)) → earlier (moment_if b (g.last + p.rto)) f ≡ Some m → (d : Act) × (resending p m (g ∷ gs) ≡ Some d)
    go false late f at e = let a = at m e in better_some p m g gs (is_late p m g) a.0 a.1
    go true late None at e = let same : g.last + p.rto ≡ m = cc in resend_here p g gs m late same
    go true late (Some f) at e =
        let same : min (g.last + p.rto) f ≡ m = cc in
        elim (cases_lt f (g.last + p.rto)) [
          | inl lt ↦ let eq : Some f ≡ Some m = ap (λ (n : ℕ). Some n) (omega arith) in let a = at m eq in better_some p m g gs (is_late p m g) a.0 a.1
          | inr ge ↦ resend_here p g gs m late (omega arith)
        ]

resend_first : (p : Params) (gs : List Segment) → IsFirst Act (λ n. resending p n gs) (resends_from p 0 gs)
resend_first p gs = record { nothing_before = λ n h. resend_before p n gs h; something_at = resend_at p gs }

pub wake_first : (p : Params) (x : SendRecord) → IsFirst Act (λ now. act_of p now x) (wake_of p x)
wake_first p x =
    two_first _ _ _ _ (give_up_first p x.outstanding)
    (two_first _ _ _ _ (release_first p x x.outstanding)
    (two_first _ _ _ _ (resend_first p x.outstanding)
    (two_first _ _ _ _ (if_first (can_send p x) (may_send_from p x) (send (cut_of p x) (rest_of p x))) (meet_first p x))))

-- THE RECEIVER

owing_before : (n : ℕ) (due : Option ℕ) → IsBefore n due → owing n due ≡ None
owing_before n None h = refl
owing_before n (Some d) h = rw (before_le d n h)

recv_before : (p : Params) (n : ℕ) (y : ReceiveRecord) → n < y.touched + receive_time p → IsBefore n y.due → recv_due_of p n (Some y) ≡ None
recv_before p n y lt h = rw (before_le (y.touched + receive_time p) n lt) (owing_before n y.due h)

recv_wake_before : (p : Params) (n : ℕ) (y : ReceiveRecord) (due : Option ℕ) → y.due ≡ due → IsBefore n (earlier (Some (y.touched + receive_time p)) due) → recv_due_of p n (Some y) ≡ None
recv_wake_before p n y None e h = recv_before p n y h (rw e tt)
recv_wake_before p n y (Some d) e h = recv_before p n y (omega arith) (rw e (omega arith))

owing_at : (m : ℕ) → (a : RecvKind × ℕ) × (owing m (Some m) ≡ Some a)
owing_at m = ((V.Ack, m), rw (true_le m m (omega arith)))

-- at a moment at which an acknowledgement is owed, something is due
recv_owing : (p : Params) (m : ℕ) (y : ReceiveRecord) → y.due ≡ Some m → (a : RecvKind × ℕ) × (recv_due_of p m (Some y) ≡ Some a)
recv_owing p m y e =
    elim (cases_Bool (nat_le (y.touched + receive_time p) m)) [
      | inl late ↦ ((V.Release, y.touched + receive_time p), rw late)
      | inr live ↦ let a = owing_at m in (a.0, rw (live, e) a.1)
    ]

recv_late : (p : Params) (m : ℕ) (y : ReceiveRecord) → y.touched + receive_time p ≤ m → (a : RecvKind × ℕ) × (recv_due_of p m (Some y) ≡ Some a)
recv_late p m y le = ((V.Release, y.touched + receive_time p), rw (true_le (y.touched + receive_time p) m le))

recv_wake_at : (p : Params) (m : ℕ) (y : ReceiveRecord) (due : Option ℕ) → y.due ≡ due → earlier (Some (y.touched + receive_time p)) due ≡ Some m → (a : RecvKind × ℕ) × (recv_due_of p m (Some y) ≡ Some a)
recv_wake_at p m y None e h = let same : y.touched + receive_time p ≡ m = cc in recv_late p m y (omega arith)
recv_wake_at p m y (Some d) e h =
    let same : min (y.touched + receive_time p) d ≡ m = cc in
    elim (cases_lt d (y.touched + receive_time p)) [
      | inl lt ↦ recv_owing p m y (e ∙ ap (λ (n : ℕ). Some n) (omega arith))
      | inr ge ↦ recv_late p m y (omega arith)
    ]

pub recv_wake_first : (p : Params) (standing : Option ReceiveRecord) → IsFirst (RecvKind × ℕ) (λ now. recv_due_of p now standing) (recv_wake_of p standing)
recv_wake_first p None = record { nothing_before = λ n h. refl; something_at = λ m e. absurd cc }
recv_wake_first p (Some y) = record { nothing_before = λ n h. recv_wake_before p n y y.due refl h; something_at = λ m e. recv_wake_at p m y y.due refl e }

-- what is chosen of the receiver is due, and Release comes first
abbrev recv_pair : RecvKind → ℕ → RecvKind × ℕ
recv_pair kind m = (kind, m)

kind_in : (kind other : RecvKind) (m n : ℕ) → Some (recv_pair kind m) ≡ Some (recv_pair other n) → kind ≡ other
kind_in kind other m n e = let pair : recv_pair kind m ≡ recv_pair other n = cc in ap (λ (q : RecvKind × ℕ). q.0) pair

pub recv_chosen_due : (p : Params) (now : ℕ) (standing : Option ReceiveRecord) (kind : RecvKind) (m : ℕ) → recv_due_of p now standing ≡ Some (kind, m) → IsRecvDue p standing kind now
recv_chosen_due p now None kind m e = absurd cc
recv_chosen_due p now (Some y) kind m e =
    elim (cases_Bool (nat_le (y.touched + receive_time p) now)) [
      | inl late ↦ let f : Some (V.Release, y.touched + receive_time p) ≡ Some (kind, m) = rw late at e in let same : V.Release ≡ kind = kind_in V.Release kind (y.touched + receive_time p) m f in subst (λ (k : RecvKind). IsRecvDue p (Some y) k now) same (le_true _ _ late)
      | inr live ↦ let f : owing now y.due ≡ Some (kind, m) = rw live at e in owed y.due refl f
    ]
  where
    if_owed : (d : ℕ) (b : Bool) → nat_le d now ≡ b → y.due ≡ Some d → recv_moment_if b V.Ack d ≡ Some (kind, m) → IsRecvDue p (Some y) kind now
    if_owed d true le is f = let same : V.Ack ≡ kind = kind_in V.Ack kind d m f in subst (λ (k : RecvKind). IsRecvDue p (Some y) k now) same (rw is (le_true _ _ le))
    if_owed d false le is f = absurd cc

    owed : (due : Option ℕ) → y.due ≡ due → owing now due ≡ Some (kind, m) → IsRecvDue p (Some y) kind now
    owed None is f = absurd cc
    owed (Some d) is f = if_owed d (nat_le d now) refl is f

-- a kind that is due isn't passed over
pub recv_release_due : (p : Params) (now : ℕ) (standing : Option ReceiveRecord) → IsRecvDue p standing V.Release now → (m : ℕ) × (recv_due_of p now standing ≡ Some (V.Release, m))
recv_release_due p now None h = elim h [ ]
recv_release_due p now (Some y) h = (y.touched + receive_time p, rw (true_le (y.touched + receive_time p) now h) refl)

pub recv_some_due : (p : Params) (now : ℕ) (standing : Option ReceiveRecord) (kind : RecvKind) → IsRecvDue p standing kind now → (a : RecvKind × ℕ) × (recv_due_of p now standing ≡ Some a)
recv_some_due p now None kind h = elim h [ ]
recv_some_due p now (Some y) V.Release h = recv_late p now y h
recv_some_due p now (Some y) V.Ack h = owed y.due refl h
  where
    owed : (due : Option ℕ) → y.due ≡ due → IsOwed now due → (a : RecvKind × ℕ) × (recv_due_of p now (Some y) ≡ Some a)
    owed None is h = elim h [ ]
    owed (Some d) is h =
        elim (cases_Bool (nat_le (y.touched + receive_time p) now)) [
          | inl late ↦ ((V.Release, y.touched + receive_time p), rw late)
          | inr live ↦ ((V.Ack, d), rw (live, is, true_le d now h))
        ]

-- THE FIRST KIND

-- what is chosen, and how late its kind comes
abbrev Chosen : Option Act → ℕ → Type 0
Chosen o rank = (d : Act) × (o ≡ Some d) × (rank_of (kind_of d) ≤ rank)

choose_first : (a b : Option Act) (rank : ℕ) → Chosen a rank → Chosen (or_else a b) rank
choose_first a b rank h = (h.0, or_left a b h.0 h.1, h.2)

choose_next : (a b : Option Act) (rank : ℕ) → ((d : Act) → a ≡ Some d → rank_of (kind_of d) ≤ rank) → Chosen b rank → Chosen (or_else a b) rank
choose_next None b rank early h = h
choose_next (Some a) b rank early h = (a, refl, early a refl)

if_rank : (b : Bool) (a d : Act) (rank : ℕ) → rank_of (kind_of a) ≤ rank → act_if b a ≡ Some d → rank_of (kind_of d) ≤ rank
if_rank true a d rank le e = let same : a ≡ d = cc in rw (← same) le
if_rank false a d rank le e = absurd cc

give_up_rank : (p : Params) (now : ℕ) (gs : List Segment) (d : Act) (rank : ℕ) → giving_up p now gs ≡ Some d → rank_of (kind_of d) ≤ rank
give_up_rank p now [] d rank e = absurd cc
give_up_rank p now (g ∷ gs) d rank e = if_rank _ (give_up g gs) d rank (omega arith) e

release_rank_of : (waiting : List Item) → rank_of (kind_of (release_or_renew waiting)) ≡ 1
release_rank_of [] = refl
release_rank_of (i ∷ is) = refl

release_rank : (p : Params) (now : ℕ) (x : SendRecord) (gs : List Segment) (d : Act) (rank : ℕ) → 1 ≤ rank → releasing p now x gs ≡ Some d → rank_of (kind_of d) ≤ rank
release_rank p now x [] d rank le e = if_rank _ (release_or_renew x.waiting) d rank (omega (arith, release_rank_of x.waiting)) e
release_rank p now x (g ∷ gs) d rank le e = absurd cc

resend_rank_of : (p : Params) (now : ℕ) (gs : List Segment) (d : Act) (rank : ℕ) → 2 ≤ rank → DueOf p now gs d → rank_of (kind_of d) ≤ rank
resend_rank_of p now gs (resend before g after) rank le h = le
resend_rank_of p now gs (give_up a z) rank le h = elim h [ ]
resend_rank_of p now gs release rank le h = elim h [ ]
resend_rank_of p now gs renew rank le h = elim h [ ]
resend_rank_of p now gs (send a z) rank le h = elim h [ ]
resend_rank_of p now gs meet rank le h = elim h [ ]

-- the kinds before the third, and before the fourth
module _ (p : Params) (now : ℕ) (x : SendRecord) where
  from_second : (rank : ℕ) → 1 ≤ rank → Chosen (or_else (releasing p now x x.outstanding) (or_else (resending p now x.outstanding) (or_else (sending p now x) (meeting p now x)))) rank → Chosen (act_of p now x) rank
  from_second rank le h = choose_next (giving_up p now x.outstanding) _ rank (λ d e. give_up_rank p now x.outstanding d rank e) h

  from_third : (rank : ℕ) → 2 ≤ rank → Chosen (or_else (resending p now x.outstanding) (or_else (sending p now x) (meeting p now x))) rank → Chosen (act_of p now x) rank
  from_third rank le h = from_second rank (omega arith) (choose_next (releasing p now x x.outstanding) _ rank (λ d e. release_rank p now x x.outstanding d rank (omega arith) e) h)

  from_fourth : (rank : ℕ) → 3 ≤ rank → Chosen (or_else (sending p now x) (meeting p now x)) rank → Chosen (act_of p now x) rank
  from_fourth rank le h = from_third rank (omega arith) (choose_next (resending p now x.outstanding) _ rank (λ d e. resend_rank_of p now x.outstanding d rank (omega arith) (resend_may p now x.outstanding d e)) h)

-- a kind that is due makes its act
give_up_due : (p : Params) (now : ℕ) (x : SendRecord) (g : Segment) (rest : List Segment) → x.outstanding ≡ g ∷ rest → g.first + give_time p ≤ now → Chosen (giving_up p now x.outstanding) 0
give_up_due p now x g rest is le = (give_up g rest, rw (is, true_le (g.first + give_time p) now le), omega arith)

release_due : (p : Params) (now : ℕ) (x : SendRecord) → x.outstanding ≡ [] → x.touched + send_time p ≤ now → Chosen (releasing p now x x.outstanding) 1
release_due p now x is le = (release_or_renew x.waiting, rw (is, true_le (x.touched + send_time p) now le), omega (arith, release_rank_of x.waiting))

resend_due : (p : Params) (now : ℕ) (before : List Segment) (g : Segment) (after : List Segment) → g.last + p.rto ≤ now → now < g.first + p.r → (d : Act) × (resending p now (before ++ g ∷ after) ≡ Some d)
resend_due p now [] g after le lt =
    let e = better_here g after (resending p now after) in
    let is : is_late p now g ≡ true = both (nat_le (g.last + p.rto) now) (nat_lt now (g.first + p.r)) (true_le (g.last + p.rto) now le) (true_lt now (g.first + p.r) lt) in
    (e.0, rw is e.1)
resend_due p now (h ∷ before) g after le lt =
    let a = resend_due p now before g after le lt in
    better_some p now h (before ++ g ∷ after) (is_late p now h) a.0 a.1

could_due : (x : SendRecord) (out : List Segment) (waiting : List Item) → out ≡ [] → 0 < length waiting → x.edge ≤ next_of x → could_meet x out waiting ≡ true
could_due x (g ∷ gs) waiting none some le = absurd cc
could_due x [] [] none some le = absurd (omega arith)
could_due x [] (i ∷ is) none some le = true_le x.edge (next_of x) le

pub due_is_chosen : (p : Params) (now : ℕ) (x : SendRecord) (d : Act) → IsDue p now x d → Chosen (act_of p now x) (rank_of (kind_of d))
due_is_chosen p now x (give_up g rest) h = choose_first (giving_up p now x.outstanding) _ 0 (give_up_due p now x g rest h.0 h.1)
due_is_chosen p now x release h = from_second p now x 1 (omega arith) (choose_first (releasing p now x x.outstanding) _ 1 (release_due p now x h.0 h.2))
due_is_chosen p now x renew h = from_second p now x 1 (omega arith) (choose_first (releasing p now x x.outstanding) _ 1 (release_due p now x h.0 h.2))
due_is_chosen p now x (resend before g after) h =
    let a = resend_due p now before g after h.1 h.2 in
    let is : resending p now x.outstanding ≡ Some a.0 = rw (h.0) a.1 in
    from_third p now x 2 (omega arith) (choose_first (resending p now x.outstanding) _ 2 (a.0, is, resend_rank_of p now x.outstanding a.0 2 (omega arith) (resend_may p now x.outstanding a.0 is)))
due_is_chosen p now x (send cut rest) h =
    let some : 0 < cut_size p x = omega (arith, h.2, ap (λ (is : List Item). length is) h.0, cut_count p x) in
    let can : can_send p x ≡ true = both (nat_lt 0 (cut_size p x)) (nat_lt (length x.outstanding) most_segments) (true_lt 0 (cut_size p x) some) (true_lt (length x.outstanding) most_segments h.3) in
    let may : (can_send p x && nat_le (may_send_from p x) now) ≡ true = both _ _ can (true_le (may_send_from p x) now h.4) in
    from_fourth p now x 3 (omega arith) (choose_first (sending p now x) (meeting p now x) 3 (send (cut_of p x) (rest_of p x), rw may, omega arith))
due_is_chosen p now x meet h =
    let could : could_meet x x.outstanding x.waiting ≡ true = could_due x x.outstanding x.waiting h.0 h.1 h.2 in
    let due : (could_meet x x.outstanding x.waiting && nat_le (x.touched + p.probe) now) ≡ true = both _ _ could (true_le (x.touched + p.probe) now h.3) in
    from_fourth p now x 4 (omega arith) (choose_next (sending p now x) (meeting p now x) 4 (λ d e. if_rank (can_send p x && nat_le (may_send_from p x) now) (send (cut_of p x) (rest_of p x)) d 4 (omega arith) e) (meet, rw due, omega arith))
