-- The moment of each kind of act is that from which on it is due, and what is chosen is due at its kind's moment.
use Rattle.std.proofs.Common.{ℕ, ◌+◌, ◌<◌, ◌≤◌, ◌≡◌, ◌⊎◌, Bool, true, false, List, [], ◌∷◌, ◌++◌, length, Option, Some, None, refl, ap, sym, ◌∙◌, subst, inl, inr, arith}
use Rattle.std.specs.Prelude.{◌&&◌, if◌then◌else◌, nat_lt, nat_le, min, max}
use Rattle.std.specs.List.{All}
use Rattle.std.proofs.lemmas.Bool.{cases_lt}
use Rattle.std.proofs.lemmas.List.Elements.{All-append, All-cons, All-head, All-tail, All-weaker}
use Rattle.dt_flow_model.specs.SendActs.{Act, GoesFirst, HoldsMissed, IsAhead, IsDue, IsKindDue, IsMomentOf, act_if, act_of, can_send, could_meet, due_moment, give_up, gives_up_from, giving_up, is_late, kind_of, may_send_from, meet, meeting, moment_if, most_segments, release, release_or_renew, releases_from, releasing, renew, resend, resending, resends_from, send, send_moment, send_moments, sending}
use Rattle.dt_flow_model.specs.ReceiveRecord.{IsOwed, IsRecvDue, ReceiveRecord, owing, recv_due_of, recv_moment, recv_moment_if, recv_moments}
use Rattle.dt_flow_model.specs.declared.acts.RecvKind.{RecvKind}
use Rattle.dt_flow_model.specs.declared.acts.RecvKind.TheVariants as K
use Rattle.dt_flow_model.specs.SendRecord.{Segment, SendRecord, cut_of, cut_size, next_of, rest_of}
use Rattle.dt_flow_model.specs.declared.acts.SendKind.{SendKind}
use Rattle.dt_flow_model.specs.declared.acts.SendKind.TheVariants.{GiveUp, Meet, Release, Resend, Send}
use Rattle.dt_items.specs.declared.item.Item.{Item}
use Rattle.dt_units.specs.Times.{give_time, receive_time, send_time}
use Rattle.dt_units.specs.declared.parameters.Params.{Params}
use Rattle.dt_units.specs.Moments.{earlier}
use Rattle.std.proofs.lemmas.Bool.{and_parts}
use Rattle.dt_flow_laws.proofs.Resends.{resend_is_first}
use Rattle.dt_flow_model.proofs.Chosen.{act_is_due, both, cut_count, either, le_true, lt_true, release_may, true_le, true_lt}

-- what is due, by its kind
give_inv : (p : Params) (t : ℕ) (x : SendRecord) (act : Act) → kind_of act ≡ GiveUp → IsDue p t x act → (g : Segment) × (rest : List Segment) × (x.outstanding ≡ g ∷ rest) × (g.first + give_time p ≤ t)
give_inv p t x (give_up g rest) k d = (g, rest, d.0, d.1)
give_inv p t x release k d = absurd cc
give_inv p t x renew k d = absurd cc
give_inv p t x (resend before g after) k d = absurd cc
give_inv p t x (send cut rest) k d = absurd cc
give_inv p t x meet k d = absurd cc

release_inv : (p : Params) (t : ℕ) (x : SendRecord) (act : Act) → kind_of act ≡ Release → IsDue p t x act → (x.outstanding ≡ []) × (x.touched + send_time p ≤ t)
release_inv p t x (give_up g rest) k d = absurd cc
release_inv p t x release k d = (d.0, d.2)
release_inv p t x renew k d = (d.0, d.2)
release_inv p t x (resend before g after) k d = absurd cc
release_inv p t x (send cut rest) k d = absurd cc
release_inv p t x meet k d = absurd cc

-- a segment of the list may go again
abbrev LateIn : Params → ℕ → List Segment → Type 0
LateIn p t [] = ⊥
LateIn p t (g ∷ gs) = (g.last + p.rto ≤ t) × (t < g.first + p.r) ⊎ LateIn p t gs

late_in : (p : Params) (t : ℕ) (before : List Segment) (g : Segment) (after : List Segment) → g.last + p.rto ≤ t → t < g.first + p.r → LateIn p t (before ++ g ∷ after)
late_in p t [] g after le lt = inl (le, lt)
late_in p t (b ∷ before) g after le lt = inr (late_in p t before g after le lt)

late_out : (p : Params) (t : ℕ) (gs : List Segment) → LateIn p t gs → (before : List Segment) × (g : Segment) × (after : List Segment) × (gs ≡ before ++ g ∷ after) × (g.last + p.rto ≤ t) × (t < g.first + p.r)
late_out p t [] h = elim h [ ]
late_out p t (g ∷ gs) (inl h) = ([], g, gs, refl, h.0, h.1)
late_out p t (g ∷ gs) (inr h) = let k = late_out p t gs h in (g ∷ k.0, k.1, k.2, ap (λ (xs : List Segment). g ∷ xs) k.3, k.4, k.5)

resend_inv : (p : Params) (t : ℕ) (x : SendRecord) (act : Act) → kind_of act ≡ Resend → IsDue p t x act → LateIn p t x.outstanding
resend_inv p t x (give_up g rest) k d = absurd cc
resend_inv p t x release k d = absurd cc
resend_inv p t x renew k d = absurd cc
resend_inv p t x (resend before g after) k d = subst (λ (gs : List Segment). LateIn p t gs) (sym d.0) (late_in p t before g after d.1 d.2)
resend_inv p t x (send cut rest) k d = absurd cc
resend_inv p t x meet k d = absurd cc

send_inv : (p : Params) (t : ℕ) (x : SendRecord) (act : Act) → kind_of act ≡ Send → IsDue p t x act → (can_send p x ≡ true) × (may_send_from p x ≤ t)
send_inv p t x (give_up g rest) k d = absurd cc
send_inv p t x release k d = absurd cc
send_inv p t x renew k d = absurd cc
send_inv p t x (resend before g after) k d = absurd cc
send_inv p t x (send cut rest) k d =
    let some : 0 < cut_size p x = omega (arith, d.2, ap (λ (is : List Item). length is) d.0, cut_count p x) in
    (both (nat_lt 0 (cut_size p x)) (nat_lt (length x.outstanding) most_segments) (true_lt 0 (cut_size p x) some) (true_lt (length x.outstanding) most_segments d.3), d.4)
send_inv p t x meet k d = absurd cc

meet_inv : (p : Params) (t : ℕ) (x : SendRecord) (act : Act) → kind_of act ≡ Meet → IsDue p t x act → (could_meet x x.outstanding x.waiting ≡ true) × (x.touched + p.probe ≤ t)
meet_inv p t x (give_up g rest) k d = absurd cc
meet_inv p t x release k d = absurd cc
meet_inv p t x renew k d = absurd cc
meet_inv p t x (resend before g after) k d = absurd cc
meet_inv p t x (send cut rest) k d = absurd cc
meet_inv p t x meet k d = (could x.outstanding x.waiting d.0 d.1 d.2, d.3)
  where
    could : (out : List Segment) (waiting : List Item) → out ≡ [] → 0 < length waiting → x.edge ≤ next_of x → could_meet x out waiting ≡ true
    could (g ∷ gs) waiting none some le = absurd cc
    could [] [] none some le = absurd (omega arith)
    could [] (i ∷ is) none some le = true_le x.edge (next_of x) le

-- from a moment on, where a condition holds
if_moment : (p : Params) (now : ℕ) (x : SendRecord) (kind : SendKind) (b : Bool) (m : ℕ) → ((t : ℕ) → IsKindDue p x kind t → (b ≡ true) × (m ≤ t)) → (b ≡ true → (t : ℕ) → m ≤ t → IsKindDue p x kind t) → IsMomentOf (IsKindDue p x kind) now (moment_if b m)
if_moment p now x kind true m inv due = record {
  never = λ e later le d. absurd cc;
  not_before = λ k e later le lt d. let same : m ≡ k = cc in omega (arith, (inv later d).1);
  from = λ k e. let same : m ≡ k = cc in due refl (max now k) (omega arith);
}
if_moment p now x kind false m inv due = record {
  never = λ e later le d. let f = (inv later d).0 in absurd cc;
  not_before = λ k e later le lt d. absurd cc;
  from = λ k e. absurd cc;
}

give_moment : (p : Params) (now : ℕ) (x : SendRecord) (out : List Segment) → x.outstanding ≡ out → IsMomentOf (IsKindDue p x GiveUp) now (gives_up_from p out)
give_moment p now x [] is = record {
  never = λ e later le d. let k = give_inv p later x d.0 d.1 d.2 in absurd (let f : [] ≡ k.0 ∷ k.1 = sym is ∙ k.2 in cc);
  not_before = λ m e later le lt d. absurd cc;
  from = λ m e. absurd cc;
}
give_moment p now x (g ∷ gs) is = record {
  never = λ e later le d. absurd cc;
  not_before = λ m e later le lt d.
      let k = give_inv p later x d.0 d.1 d.2 in
      let f : g ∷ gs ≡ k.0 ∷ k.1 = sym is ∙ k.2 in
      let same : g ≡ k.0 = cc in
      let first : g.first ≡ k.0.first = ap (λ (h : Segment). h.first) same in
      let at : g.first + give_time p ≡ m = cc in
      omega (arith, k.3, first, at);
  from = λ m e. let at : g.first + give_time p ≡ m = cc in (give_up g gs, refl, (is, omega (arith, at)));
}

release_kind : (waiting : List Item) → kind_of (release_or_renew waiting) ≡ Release
release_kind [] = refl
release_kind (i ∷ is) = refl

release_moment : (p : Params) (now : ℕ) (x : SendRecord) (out : List Segment) → x.outstanding ≡ out → IsMomentOf (IsKindDue p x Release) now (releases_from p x out)
release_moment p now x [] is = record {
  never = λ e later le d. absurd cc;
  not_before = λ m e later le lt d. let at : x.touched + send_time p ≡ m = cc in omega (arith, at, (release_inv p later x d.0 d.1 d.2).1);
  from = λ m e. let at : x.touched + send_time p ≡ m = cc in (release_or_renew x.waiting, release_kind x.waiting, release_may p (max now m) x x.waiting refl is (omega (arith, at)));
}
release_moment p now x (g ∷ gs) is = record {
  never = λ e later le d. absurd (let f : g ∷ gs ≡ [] = sym is ∙ (release_inv p later x d.0 d.1 d.2).0 in cc);
  not_before = λ m e later le lt d. absurd cc;
  from = λ m e. absurd cc;
}

-- segments that go again
parts_none : (a b : Option ℕ) → earlier a b ≡ None → (a ≡ None) × (b ≡ None)
parts_none None b e = (refl, e)
parts_none (Some m) None e = absurd cc
parts_none (Some m) (Some n) e = absurd cc

-- none, or at least
abbrev NotBelow : ℕ → Option ℕ → Type 0
NotBelow m None = Unit {0}
NotBelow m (Some n) = m ≤ n

parts_some : (a b : Option ℕ) (m : ℕ) → earlier a b ≡ Some m → NotBelow m a × NotBelow m b
parts_some None None m e = absurd cc
parts_some None (Some n) m e = let same : n ≡ m = cc in (tt, omega arith)
parts_some (Some n) None m e = let same : n ≡ m = cc in (omega arith, tt)
parts_some (Some n) (Some k) m e = let same : min n k ≡ m = cc in (omega arith, omega arith)

which : (a b : Option ℕ) (m : ℕ) → earlier a b ≡ Some m → (a ≡ Some m) ⊎ (b ≡ Some m)
which None b m e = inr e
which (Some n) None m e = inl e
which (Some n) (Some k) m e =
    let same : min n k ≡ m = cc in
    elim (cases_lt k n) [ inl lt ↦ inr (ap (λ (i : ℕ). Some i) (omega arith)) | inr ge ↦ inl (ap (λ (i : ℕ). Some i) (omega arith)) ]

module _ (p : Params) (now : ℕ) where
  abbrev may : Segment → Bool
  may g = nat_lt (max now (g.last + p.rto)) (g.first + p.r)

  may_is : (g : Segment) (t : ℕ) → now ≤ t → g.last + p.rto ≤ t → t < g.first + p.r → may g ≡ true
  may_is g t le late early = true_lt (max now (g.last + p.rto)) (g.first + p.r) (omega arith)

  own_none : (g : Segment) (b : Bool) → may g ≡ b → moment_if b (g.last + p.rto) ≡ None → b ≡ false
  own_none g true e k = absurd cc
  own_none g false e k = refl

  own_some : (g : Segment) (b : Bool) (m : ℕ) → moment_if b (g.last + p.rto) ≡ Some m → (b ≡ true) × (g.last + p.rto ≡ m)
  own_some g true m e = (refl, cc)
  own_some g false m e = absurd cc

  m_never : (gs : List Segment) → resends_from p now gs ≡ None → (t : ℕ) → now ≤ t → LateIn p t gs → ⊥
  m_never [] e t le h = h
  m_never (g ∷ gs) e t le (inl h) =
      let k = (parts_none (moment_if (may g) (g.last + p.rto)) (resends_from p now gs) e).0 in
      let off = own_none g (may g) refl k in
      let on = may_is g t le h.0 h.1 in
      let f : true ≡ false = sym on ∙ off in cc
  m_never (g ∷ gs) e t le (inr h) = m_never gs (parts_none (moment_if (may g) (g.last + p.rto)) (resends_from p now gs) e).1 t le h

  -- a late segment isn't before the moment
  own_below : (g : Segment) (m : ℕ) (b : Bool) → b ≡ true → NotBelow m (moment_if b (g.last + p.rto)) → m ≤ g.last + p.rto
  own_below g m true on h = h
  own_below g m false on h = absurd cc

  m_step : (g : Segment) (gs : List Segment) (t : ℕ) → now ≤ t → ((k : ℕ) → NotBelow k (resends_from p now gs) → t < k → LateIn p t gs → ⊥) → (o : Option ℕ) → resends_from p now (g ∷ gs) ≡ o → (m : ℕ) → NotBelow m o → t < m → LateIn p t (g ∷ gs) → ⊥
  m_step g gs t le again None is m e lt h = m_never (g ∷ gs) is t le h
  m_step g gs t le again (Some k) is m e lt (inl h) =
      let parts = parts_some (moment_if (may g) (g.last + p.rto)) (resends_from p now gs) k is in
      omega (arith, own_below g k (may g) (may_is g t le h.0 h.1) parts.0, h.0)
  m_step g gs t le again (Some k) is m e lt (inr h) = again k (parts_some (moment_if (may g) (g.last + p.rto)) (resends_from p now gs) k is).1 (omega arith) h

  m_before : (gs : List Segment) (m : ℕ) → NotBelow m (resends_from p now gs) → (t : ℕ) → now ≤ t → t < m → LateIn p t gs → ⊥
  m_before [] m e t le lt h = h
  m_before (g ∷ gs) m e t le lt h = m_step g gs t le (λ k n l h'. m_before gs k n t le l h') (resends_from p now (g ∷ gs)) refl m e lt h

  m_from : (gs : List Segment) (m : ℕ) → resends_from p now gs ≡ Some m → LateIn p (max now m) gs
  m_from [] m e = absurd cc
  m_from (g ∷ gs) m e =
      elim (which (moment_if (may g) (g.last + p.rto)) (resends_from p now gs) m e) [
        | inl own ↦ let k = own_some g (may g) m own in let lt = lt_true (max now (g.last + p.rto)) (g.first + p.r) k.0 in inl (omega (arith, k.1), omega (arith, k.1, lt))
        | inr rest ↦ inr (m_from gs m rest)
      ]

resend_of : (p : Params) (now : ℕ) (x : SendRecord) → IsMomentOf (IsKindDue p x Resend) now (resends_from p now x.outstanding)
resend_of p now x = record {
  never = λ e later le d. m_never p now x.outstanding e later le (resend_inv p later x d.0 d.1 d.2);
  not_before = λ m e later le lt d. m_before p now x.outstanding m (rw e (omega arith)) later le lt (resend_inv p later x d.0 d.1 d.2);
  from = λ m e. let k = late_out p (max now m) x.outstanding (m_from p now x.outstanding m e) in (resend k.0 k.1 k.2, refl, (k.3, k.4, k.5));
}

send_of : (p : Params) (now : ℕ) (x : SendRecord) → IsMomentOf (IsKindDue p x Send) now (moment_if (can_send p x) (may_send_from p x))
send_of p now x = if_moment p now x Send (can_send p x) (may_send_from p x) (λ t d. send_inv p t x d.0 d.1 d.2)
    (λ on t le.
    let parts : (nat_lt 0 (cut_size p x) ≡ true) × (nat_lt (length x.outstanding) most_segments ≡ true) = and_parts _ _ on in
    (send (cut_of p x) (rest_of p x), refl, (refl, refl, omega (arith, lt_true _ _ parts.0, cut_count p x), lt_true _ _ parts.1, le)))

meet_of : (p : Params) (now : ℕ) (x : SendRecord) → IsMomentOf (IsKindDue p x Meet) now (moment_if (could_meet x x.outstanding x.waiting) (x.touched + p.probe))
meet_of p now x = if_moment p now x Meet (could_meet x x.outstanding x.waiting) (x.touched + p.probe) (λ t d. meet_inv p t x d.0 d.1 d.2) (λ on t le. let k = parts x.outstanding x.waiting refl refl on in (meet, refl, (k.0, k.1, k.2, le)))
  where
    parts : (out : List Segment) (waiting : List Item) → x.outstanding ≡ out → x.waiting ≡ waiting → could_meet x out waiting ≡ true → (x.outstanding ≡ []) × (0 < length x.waiting) × (x.edge ≤ next_of x)
    parts [] [] is is' h = absurd cc
    parts [] (i ∷ w) is is' h = (is, rw is' (omega arith), le_true _ _ h)
    parts (g ∷ gs) w is is' h = absurd cc

-- EACH KIND'S MOMENT
pub moment_is : (p : Params) (now : ℕ) (x : SendRecord) (kind : SendKind) → IsMomentOf (IsKindDue p x kind) now (send_moment (send_moments p now x) kind)
moment_is p now x GiveUp = give_moment p now x x.outstanding refl
moment_is p now x Release = release_moment p now x x.outstanding refl
moment_is p now x Resend = resend_of p now x
moment_is p now x Send = send_of p now x
moment_is p now x Meet = meet_of p now x

-- WHAT IS CHOSEN IS DUE AT ITS KIND'S MOMENT

module _ (p : Params) (now : ℕ) where
  -- the moment is at most that of a segment which may go, and at least that of the one which goes first
  m_most : (before : List Segment) (g : Segment) (after : List Segment) (m : ℕ) → may p now g ≡ true → resends_from p now (before ++ g ∷ after) ≡ Some m → m ≤ g.last + p.rto
  m_most [] g after m on e = own_below p now g m (may p now g) on (parts_some (moment_if (may p now g) (g.last + p.rto)) (resends_from p now after) m e).0
  m_most (b ∷ before) g after m on e = rest (resends_from p now (before ++ g ∷ after)) refl (parts_some (moment_if (may p now b) (b.last + p.rto)) (resends_from p now (before ++ g ∷ after)) m e).1 (λ k is. m_most before g after k on is)
    where
      rest : (o : Option ℕ) → resends_from p now (before ++ g ∷ after) ≡ o → NotBelow m o → ((k : ℕ) → resends_from p now (before ++ g ∷ after) ≡ Some k → k ≤ g.last + p.rto) → m ≤ g.last + p.rto
      rest None is le again = absurd (some_moment before g after on is)
        where
          some_moment : (before : List Segment) (g : Segment) (after : List Segment) → may p now g ≡ true → resends_from p now (before ++ g ∷ after) ≡ None → ⊥
          some_moment [] g after on e = let k = own_none p now g (may p now g) refl (parts_none (moment_if (may p now g) (g.last + p.rto)) (resends_from p now after) e).0 in let f : true ≡ false = sym on ∙ k in cc
          some_moment (b ∷ before) g after on e = some_moment before g after on (parts_none (moment_if (may p now b) (b.last + p.rto)) (resends_from p now (before ++ g ∷ after)) e).1
      rest (Some k) is le again = omega (arith, again k is)

  m_least : (gs : List Segment) (last : ℕ) → All (λ h. is_late p now h ≡ true → last ≤ h.last) gs → (m : ℕ) → resends_from p now gs ≡ Some m → m ≤ now → last + p.rto ≤ m
  m_least [] last all m e le = absurd cc
  m_least (g ∷ gs) last all m e le =
      elim (which (moment_if (may p now g) (g.last + p.rto)) (resends_from p now gs) m e) [
        | inl own ↦
            let k = own_some p now g (may p now g) m own in
            let lt = lt_true (max now (g.last + p.rto)) (g.first + p.r) k.0 in
            let late : is_late p now g ≡ true = both (nat_le (g.last + p.rto) now) (nat_lt now (g.first + p.r)) (true_le (g.last + p.rto) now (omega (arith, k.1))) (true_lt now (g.first + p.r) (omega (arith, lt))) in
            omega (arith, k.1, All-head (λ h. is_late p now h ≡ true → last ≤ h.last) g gs all late)
        | inr rest ↦ m_least gs last (All-tail (λ h. is_late p now h ≡ true → last ≤ h.last) g gs all) m rest le
      ]

  all_first : (before : List Segment) (g : Segment) (after : List Segment) → GoesFirst p now before g after → All (λ h. is_late p now h ≡ true → g.last ≤ h.last) (before ++ g ∷ after)
  all_first before g after h =
      All-append (λ k. is_late p now k ≡ true → g.last ≤ k.last) before (g ∷ after)
      (All-weaker (λ k. is_late p now k ≡ true → g.last < k.last) (λ k. is_late p now k ≡ true → g.last ≤ k.last) (λ k f late. omega (arith, f late)) before h.before_it)
      (All-cons (λ k. is_late p now k ≡ true → g.last ≤ k.last) g after (λ late. omega arith) h.after_it)

  resent_moment : (gs before after : List Segment) (g : Segment) → gs ≡ before ++ g ∷ after → g.last + p.rto ≤ now → now < g.first + p.r → GoesFirst p now before g after → (o : Option ℕ) → resends_from p now gs ≡ o → o ≡ Some (g.last + p.rto)
  resent_moment gs before after g split le lt first None is = absurd (m_never p now gs is now (omega arith) (subst (λ (k : List Segment). LateIn p now k) (sym split) (late_in p now before g after le lt)))
  resent_moment gs before after g split le lt first (Some m) is =
      let at : resends_from p now (before ++ g ∷ after) ≡ Some m = ap (resends_from p now) (sym split) ∙ is in
      let most = m_most before g after m (may_is p now g now (omega arith) le lt) at in
      let least = m_least (before ++ g ∷ after) g.last (all_first before g after first) m at (omega (arith, most)) in
      ap (λ (n : ℕ). Some n) (omega (arith, most, least))

moment_on : (b : Bool) (m : ℕ) → b ≡ true → moment_if b m ≡ Some m
moment_on true m e = refl
moment_on false m e = absurd cc

gives_at : (p : Params) (out : List Segment) (g : Segment) (rest : List Segment) → out ≡ g ∷ rest → gives_up_from p out ≡ Some (g.first + give_time p)
gives_at p out g rest e = ap (gives_up_from p) e

releases_at : (p : Params) (x : SendRecord) → x.outstanding ≡ [] → releases_from p x x.outstanding ≡ Some (x.touched + send_time p)
releases_at p x e = ap (releases_from p x) e

chosen_resend : (p : Params) (now : ℕ) (x : SendRecord) (before : List Segment) (g : Segment) (after : List Segment) → act_of p now x ≡ Some (resend before g after) → resending p now x.outstanding ≡ Some (resend before g after)
chosen_resend p now x before g after e = elim (either (giving_up p now x.outstanding) _ (resend before g after) e) [
  | inl a ↦ absurd (let k = gives_kind x.outstanding a in cc)
  | inr b ↦ elim (either (releasing p now x x.outstanding) _ (resend before g after) b) [
    | inl a ↦ absurd (let k = frees_kind x.outstanding a in cc)
    | inr c ↦ elim (either (resending p now x.outstanding) _ (resend before g after) c) [
      | inl a ↦ a
      | inr d ↦ elim (either (sending p now x) (meeting p now x) (resend before g after) d) [
        | inl a ↦ absurd (let k = if_kind (can_send p x && nat_le (may_send_from p x) now) (send (cut_of p x) (rest_of p x)) a in cc)
        | inr a ↦ absurd (let k = if_kind (could_meet x x.outstanding x.waiting && nat_le (x.touched + p.probe) now) meet a in cc)
      ]
    ]
  ]
]
  where
    if_kind : (b : Bool) (act : Act) → act_if b act ≡ Some (resend before g after) → kind_of act ≡ Resend
    if_kind true act e = let same : act ≡ resend before g after = cc in ap kind_of same
    if_kind false act e = absurd cc

    gives_kind : (out : List Segment) → giving_up p now out ≡ Some (resend before g after) → GiveUp ≡ Resend
    gives_kind [] e = absurd cc
    gives_kind (h ∷ hs) e = if_kind (nat_le (h.first + give_time p) now) (give_up h hs) e

    frees_kind : (out : List Segment) → releasing p now x out ≡ Some (resend before g after) → Release ≡ Resend
    frees_kind [] e = sym (release_kind x.waiting) ∙ if_kind (nat_le (x.touched + send_time p) now) (release_or_renew x.waiting) e
    frees_kind (h ∷ hs) e = absurd cc

due_moment_is : (p : Params) (now : ℕ) (x : SendRecord) (act : Act) → act_of p now x ≡ Some act → IsDue p now x act → send_moment (send_moments p now x) (kind_of act) ≡ Some (due_moment p x act)
due_moment_is p now x (give_up g rest) e d = gives_at p x.outstanding g rest d.0
due_moment_is p now x release e d = releases_at p x d.0
due_moment_is p now x renew e d = releases_at p x d.0
due_moment_is p now x (resend before g after) e d = resent_moment p now x.outstanding before after g d.0 d.1 d.2 (resend_is_first p now x.outstanding before after g (chosen_resend p now x before g after e)) (resends_from p now x.outstanding) refl
due_moment_is p now x (send cut rest) e d = moment_on (can_send p x) (may_send_from p x) (send_inv p now x (send cut rest) refl d).0
due_moment_is p now x meet e d = moment_on (could_meet x x.outstanding x.waiting) (x.touched + p.probe) (meet_inv p now x meet refl d).0

pub chosen_moment : (p : Params) (now : ℕ) (x : SendRecord) (act : Act) → act_of p now x ≡ Some act → send_moment (send_moments p now x) (kind_of act) ≡ Some (due_moment p x act)
chosen_moment p now x act e = due_moment_is p now x act e (act_is_due p now x act e)

-- A MOMENT STANDS UNTIL IT COMES, and one that has passed is due still, or is that of a missed resend

ahead_parts : (n : ℕ) (a b : Option ℕ) → IsAhead n (earlier a b) → IsAhead n a × IsAhead n b
ahead_parts n None b h = (tt, h)
ahead_parts n (Some m) None h = (h, tt)
ahead_parts n (Some m) (Some k) h = (omega arith, omega arith)

module _ (p : Params) (now later : ℕ) (le : now ≤ later) where
  own_stands : (g : Segment) (b c : Bool) → may p now g ≡ b → may p later g ≡ c → IsAhead later (moment_if b (g.last + p.rto)) → moment_if c (g.last + p.rto) ≡ moment_if b (g.last + p.rto)
  own_stands g true true e e' h = refl
  own_stands g true false e e' h =
      let lt = lt_true (max now (g.last + p.rto)) (g.first + p.r) e in
      let on : may p later g ≡ true = true_lt (max later (g.last + p.rto)) (g.first + p.r) (omega arith) in
      let f : true ≡ false = sym on ∙ e' in absurd cc
  own_stands g false true e e' h =
      let lt = lt_true (max later (g.last + p.rto)) (g.first + p.r) e' in
      let on : may p now g ≡ true = true_lt (max now (g.last + p.rto)) (g.first + p.r) (omega arith) in
      let f : true ≡ false = sym on ∙ e in absurd cc
  own_stands g false false e e' h = refl

  resend_stands : (gs : List Segment) → IsAhead later (resends_from p now gs) → resends_from p later gs ≡ resends_from p now gs
  resend_stands [] h = refl
  resend_stands (g ∷ gs) h =
      let parts = ahead_parts later (moment_if (may p now g) (g.last + p.rto)) (resends_from p now gs) h in
      let own = own_stands g (may p now g) (may p later g) refl refl parts.0 in
      ap (λ (o : Option ℕ). earlier o (resends_from p later gs)) own ∙ ap (λ (o : Option ℕ). earlier (moment_if (may p now g) (g.last + p.rto)) o) (resend_stands gs parts.1)

  -- what may go later may go now
  not_below_earlier : (m : ℕ) (a b : Option ℕ) → NotBelow m a → NotBelow m b → NotBelow m (earlier a b)
  not_below_earlier m None b h k = k
  not_below_earlier m (Some n) None h k = h
  not_below_earlier m (Some n) (Some i) h k = omega arith

  not_below_parts : (m : ℕ) (a b : Option ℕ) → NotBelow m (earlier a b) → NotBelow m a × NotBelow m b
  not_below_parts m None b h = (tt, h)
  not_below_parts m (Some n) None h = (h, tt)
  not_below_parts m (Some n) (Some i) h = (omega arith, omega arith)

  own_below_later : (m : ℕ) (g : Segment) (b c : Bool) → may p now g ≡ b → may p later g ≡ c → NotBelow m (moment_if b (g.last + p.rto)) → NotBelow m (moment_if c (g.last + p.rto))
  own_below_later m g true true e e' h = h
  own_below_later m g true false e e' h = tt
  own_below_later m g false true e e' h =
      let lt = lt_true (max later (g.last + p.rto)) (g.first + p.r) e' in
      let on : may p now g ≡ true = true_lt (max now (g.last + p.rto)) (g.first + p.r) (omega arith) in
      let f : true ≡ false = sym on ∙ e in absurd cc
  own_below_later m g false false e e' h = tt

  below_later : (m : ℕ) (gs : List Segment) → NotBelow m (resends_from p now gs) → NotBelow m (resends_from p later gs)
  below_later m [] h = tt
  below_later m (g ∷ gs) h =
      let parts = not_below_parts m (moment_if (may p now g) (g.last + p.rto)) (resends_from p now gs) h in
      not_below_earlier m (moment_if (may p later g) (g.last + p.rto)) (resends_from p later gs) (own_below_later m g (may p now g) (may p later g) refl refl parts.0) (below_later m gs parts.1)

  -- the segment whose moment it is
  moment_holder : (m : ℕ) (gs : List Segment) → resends_from p now gs ≡ Some m → (before : List Segment) × (g : Segment) × (after : List Segment) × (gs ≡ before ++ g ∷ after) × (g.last + p.rto ≡ m) × (may p now g ≡ true)
  moment_holder m [] e = absurd cc
  moment_holder m (g ∷ gs) e =
      elim (which (moment_if (may p now g) (g.last + p.rto)) (resends_from p now gs) m e) [
        | inl own ↦ let k = own_some p now g (may p now g) m own in ([], g, gs, refl, k.1, k.0)
        | inr rest ↦ let k = moment_holder m gs rest in (g ∷ k.0, k.1, k.2, ap (λ (xs : List Segment). g ∷ xs) k.3, k.4, k.5)
      ]

  holder_stands : (m : ℕ) (before : List Segment) (g : Segment) (after : List Segment) → g.last + p.rto ≡ m → may p later g ≡ true → NotBelow m (resends_from p later (before ++ g ∷ after)) → resends_from p later (before ++ g ∷ after) ≡ Some m
  holder_stands m before g after at on least = go (resends_from p later (before ++ g ∷ after)) refl least
    where
      some_moment : (b : List Segment) → resends_from p later (b ++ g ∷ after) ≡ None → ⊥
      some_moment [] e = let k = own_none p later g (may p later g) refl (parts_none (moment_if (may p later g) (g.last + p.rto)) (resends_from p later after) e).0 in let f : true ≡ false = sym on ∙ k in cc
      some_moment (b ∷ bs) e = some_moment bs (parts_none (moment_if (may p later b) (b.last + p.rto)) (resends_from p later (bs ++ g ∷ after)) e).1

      go : (o : Option ℕ) → resends_from p later (before ++ g ∷ after) ≡ o → NotBelow m o → o ≡ Some m
      go None is le' = absurd (some_moment before is)
      go (Some k) is le' = ap (λ (n : ℕ). Some n) (omega (arith, m_most p later before g after k on is))

  resend_passed : (m : ℕ) (gs : List Segment) → resends_from p now gs ≡ Some m → (resends_from p later gs ≡ Some m) ⊎ HoldsMissed p later m gs
  resend_passed m gs e =
      let h = moment_holder m gs e in
      elim (cases_lt (max later (h.1.last + p.rto)) (h.1.first + p.r)) [
        | inl lt ↦
            let least : NotBelow m (resends_from p later (h.0 ++ h.1 ∷ h.2)) = rw (h.3) at (below_later m gs (rw e (omega arith))) in
            inl (rw (h.3) (holder_stands m h.0 h.1 h.2 h.4 (true_lt (max later (h.1.last + p.rto)) (h.1.first + p.r) lt) least))
        | inr ge ↦
            let lt = lt_true (max now (h.1.last + p.rto)) (h.1.first + p.r) h.5 in
            inr (record { before = h.0; missed = h.1; after = h.2; split = h.3; is = record { late = h.4; in_time = omega (arith, h.4); over = omega arith } })
      ]

pub moment_stands : (p : Params) (now later : ℕ) (x : SendRecord) (kind : SendKind) → now ≤ later → IsAhead later (send_moment (send_moments p now x) kind) → send_moment (send_moments p later x) kind ≡ send_moment (send_moments p now x) kind
moment_stands p now later x GiveUp le h = refl
moment_stands p now later x Release le h = refl
moment_stands p now later x Resend le h = resend_stands p now later le x.outstanding h
moment_stands p now later x Send le h = refl
moment_stands p now later x Meet le h = refl

pub moment_passed : (p : Params) (now later : ℕ) (x : SendRecord) (kind : SendKind) (m : ℕ) → now ≤ later → send_moment (send_moments p now x) kind ≡ Some m → (send_moment (send_moments p later x) kind ≡ Some m) ⊎ HoldsMissed p later m x.outstanding
moment_passed p now later x GiveUp m le e = inl e
moment_passed p now later x Release m le e = inl e
moment_passed p now later x Resend m le e = resend_passed p now later le m x.outstanding e
moment_passed p now later x Send m le e = inl e
moment_passed p now later x Meet m le e = inl e

-- THE RECEIVER

abbrev kind_moment : RecvKind → ℕ → RecvKind × ℕ
kind_moment kind m = (kind, m)

owing_moment : (now : ℕ) (y : ReceiveRecord) (due : Option ℕ) (kind : RecvKind) (m : ℕ) → owing now due ≡ Some (kind, m) → y.due ≡ due → (kind ≡ K.Ack) × (y.due ≡ Some m)
owing_moment now y None kind m e is = absurd cc
owing_moment now y (Some d) kind m e is = go (nat_le d now) e
  where
    go : (b : Bool) → recv_moment_if b K.Ack d ≡ Some (kind, m) → (kind ≡ K.Ack) × (y.due ≡ Some m)
    go true e = let pair : kind_moment K.Ack d ≡ kind_moment kind m = cc in (sym (ap (λ (q : RecvKind × ℕ). q.0) pair), is ∙ ap (λ (q : RecvKind × ℕ). Some q.1) pair)
    go false e = absurd cc

pub recv_chosen_moment : (p : Params) (now : ℕ) (standing : Option ReceiveRecord) (kind : RecvKind) (m : ℕ) → recv_due_of p now standing ≡ Some (kind, m) → recv_moment (recv_moments p standing) kind ≡ Some m
recv_chosen_moment p now None kind m e = absurd cc
recv_chosen_moment p now (Some y) kind m e = go (nat_le (y.touched + receive_time p) now) e
  where
    go : (b : Bool) → (if b then Some (K.Release, y.touched + receive_time p) else owing now y.due) ≡ Some (kind, m) → recv_moment (recv_moments p (Some y)) kind ≡ Some m
    go true e = let pair : kind_moment K.Release (y.touched + receive_time p) ≡ kind_moment kind m = cc in subst (λ (i : RecvKind). recv_moment (recv_moments p (Some y)) i ≡ Some m) (ap (λ (q : RecvKind × ℕ). q.0) pair) (ap (λ (q : RecvKind × ℕ). Some q.1) pair)
    go false e = let k = owing_moment now y y.due kind m e refl in subst (λ (i : RecvKind). recv_moment (recv_moments p (Some y)) i ≡ Some m) (sym k.0) k.1

-- each kind's moment is that from which on it is due
recv_never : (p : Params) (standing : Option ReceiveRecord) (kind : RecvKind) (t : ℕ) → recv_moment (recv_moments p standing) kind ≡ None → IsRecvDue p standing kind t → ⊥
recv_never p None kind t e d = d
recv_never p (Some y) K.Release t e d = absurd cc
recv_never p (Some y) K.Ack t e d = never y.due e d
  where
    never : (due : Option ℕ) → due ≡ None → IsOwed t due → ⊥
    never None e d = d
    never (Some n) e d = absurd cc

recv_before : (p : Params) (standing : Option ReceiveRecord) (kind : RecvKind) (m t : ℕ) → recv_moment (recv_moments p standing) kind ≡ Some m → t < m → IsRecvDue p standing kind t → ⊥
recv_before p None kind m t e lt d = d
recv_before p (Some y) K.Release m t e lt d = let same : y.touched + receive_time p ≡ m = cc in omega arith
recv_before p (Some y) K.Ack m t e lt d = before y.due e d
  where
    before : (due : Option ℕ) → due ≡ Some m → IsOwed t due → ⊥
    before None e d = d
    before (Some n) e d = let same : n ≡ m = cc in omega arith

recv_from : (p : Params) (standing : Option ReceiveRecord) (kind : RecvKind) (m t : ℕ) → recv_moment (recv_moments p standing) kind ≡ Some m → m ≤ t → IsRecvDue p standing kind t
recv_from p None K.Release m t e le = absurd cc
recv_from p None K.Ack m t e le = absurd cc
recv_from p (Some y) K.Release m t e le = let same : y.touched + receive_time p ≡ m = cc in omega arith
recv_from p (Some y) K.Ack m t e le = from y.due e
  where
    from : (due : Option ℕ) → due ≡ Some m → IsOwed t due
    from None e = absurd cc
    from (Some n) e = let same : n ≡ m = cc in omega arith

pub recv_moment_is : (p : Params) (now : ℕ) (standing : Option ReceiveRecord) (kind : RecvKind) → IsMomentOf (IsRecvDue p standing kind) now (recv_moment (recv_moments p standing) kind)
recv_moment_is p now standing kind = record {
  never = λ e later le d. recv_never p standing kind later e d;
  not_before = λ m e later le lt d. recv_before p standing kind m later e lt d;
  from = λ m e. recv_from p standing kind m (max now m) e (omega arith);
}
