-- What is due is the first kind whose moment has come; and what is chosen, by its kind.
use Rattle.std.proofs.Common.{ℕ, ◌+◌, ◌≤◌, ◌<◌, ◌≡◌, Bool, true, false, List, [], ◌∷◌, Option, Some, None, refl, sym, ap, ◌∙◌, inl, inr, arith}
use Rattle.std.specs.Prelude.{nat_le, nat_lt, max, min, ◌&&◌, if◌then◌else◌}
use Rattle.std.specs.Option.{option_map_or, option_or}
use Rattle.std.proofs.lemmas.Bool.{cases_Bool, cases_lt, and_parts}
use Rattle.std.proofs.lemmas.Bool.Decides.{nat_tests}
use Rattle.dt_units.specs.Times.{give_time, send_time}
use Rattle.dt_units.specs.declared.parameters.Params.{Params}
use Rattle.dt_units.specs.Moments.{earlier}
use Rattle.dt_items.specs.declared.item.Item.{Item}
use Rattle.dt_flow_model.specs.declared.acts.SendKind.{SendKind}
use Rattle.dt_flow_model.specs.declared.acts.SendKind.TheVariants.{GiveUp, Release, Resend, Send, Meet}
use Rattle.dt_flow_model.specs.SendRecord.{Segment, SendRecord, cut_of, rest_of}
use Rattle.dt_flow_model.specs.SendActs.{Act, act_if, better, can_send, could_meet, due_moment, due_of, give_up, gives_up_from, giving_up, is_late, kind_and_moment, kind_of, may_send_from, meet, meeting, moment_if, or_else, release, release_or_renew, releases_from, releasing, renew, resend, resending, resends_from, send, send_moments, sending}
use Rattle.dt_flow_model.proofs.Chosen.{le_true, lt_true, DueOf, resend_may, true_le, true_lt, both}
use Rattle.dt_send.specs.Senders.{due_if, first_due}

-- a moment that hasn't come
abbrev NotYet : ℕ → Option ℕ → Type 0
NotYet now None = Unit {0}
NotYet now (Some moment) = now < moment

le_false : (m n : ℕ) → n < m → nat_le m n ≡ false
le_false m n h = grind (arith, nat_tests)

false_le : (m n : ℕ) → nat_le m n ≡ false → n < m
false_le m n h = grind (arith, nat_tests)

false_lt : (m n : ℕ) → nat_lt m n ≡ false → n ≤ m
false_lt m n h = grind (arith, nat_tests)

come : (now moment : ℕ) (kind : SendKind) → moment ≤ now → due_if now kind (Some moment) ≡ Some (kind, moment)
come now moment kind h = rw (true_le moment now h) refl

not_come : (now : ℕ) (kind : SendKind) (m : Option ℕ) → NotYet now m → due_if now kind m ≡ None
not_come now kind None h = refl
not_come now kind (Some moment) h = rw (le_false moment now h) refl

none_come : (now : ℕ) (kind : SendKind) (m : Option ℕ) → due_if now kind m ≡ None → NotYet now m
none_come now kind None e = tt
none_come now kind (Some moment) e =
    elim (cases_Bool (nat_le moment now)) [
      | inl y ↦ absurd (let f : Some (kind, moment) ≡ None = rw y at e in cc)
      | inr n ↦ false_le moment now n
    ]

some_come : (now t : ℕ) (kind : SendKind) (m : Option ℕ) → Some (kind, t) ≡ due_if now kind m → (m ≡ Some t) × (t ≤ now)
some_come now t kind None e = absurd cc
some_come now t kind (Some moment) e =
    elim (cases_Bool (nat_le moment now)) [
      | inl y ↦ let f : Some (kind, t) ≡ Some (kind, moment) = rw y at e in let same : t ≡ moment = ap (λ (o : Option (SendKind × ℕ)). option_map_or (λ (w : SendKind × ℕ). w.1) o 0) f in (ap (λ (k : ℕ). Some k) (sym same), omega (arith, le_true moment now y))
      | inr n ↦ absurd (let f : Some (kind, t) ≡ None = rw n at e in cc)
    ]

earlier_not_yet : (now : ℕ) (m n : Option ℕ) → NotYet now m → NotYet now n → NotYet now (earlier m n)
earlier_not_yet now None n h k = k
earlier_not_yet now (Some a) None h k = h
earlier_not_yet now (Some a) (Some b) h k = omega arith

earlier_come : (now t : ℕ) (m : Option ℕ) → t ≤ now → NotYet now m → earlier (Some t) m ≡ Some t
earlier_come now t None h k = refl
earlier_come now t (Some a) h k = let e : min t a ≡ t = omega arith in ap (λ (k : ℕ). Some k) e

come_earlier : (now t : ℕ) (m : Option ℕ) → t ≤ now → NotYet now m → earlier m (Some t) ≡ Some t
come_earlier now t None h k = refl
come_earlier now t (Some a) h k = let e : min a t ≡ t = omega arith in ap (λ (k : ℕ). Some k) e

-- the moment of one segment
abbrev own_moment : Params → ℕ → Segment → Option ℕ
own_moment p now g = moment_if (nat_lt (max now (g.last + p.rto)) (g.first + p.r)) (g.last + p.rto)

own_late : (p : Params) (now : ℕ) (g : Segment) → is_late p now g ≡ true → (own_moment p now g ≡ Some (g.last + p.rto)) × (g.last + p.rto ≤ now)
own_late p now g h =
    let parts = and_parts (nat_le (g.last + p.rto) now) (nat_lt now (g.first + p.r)) h in
    let le = le_true (g.last + p.rto) now parts.0 in
    let lt = lt_true now (g.first + p.r) parts.1 in
    (rw (true_lt (max now (g.last + p.rto)) (g.first + p.r) (omega arith)) refl, le)

own_not_late : (p : Params) (now : ℕ) (g : Segment) → is_late p now g ≡ false → NotYet now (own_moment p now g)
own_not_late p now g h =
    elim (cases_Bool (nat_lt (max now (g.last + p.rto)) (g.first + p.r))) [
      | inr n ↦ rw n tt
      | inl y ↦
          rw y
          (elim (cases_lt now (g.last + p.rto)) [
            | inl lt ↦ lt
            | inr ge ↦
                let lt = lt_true (max now (g.last + p.rto)) (g.first + p.r) y in
                let f : is_late p now g ≡ true = both (nat_le (g.last + p.rto) now) (nat_lt now (g.first + p.r)) (true_le (g.last + p.rto) now (omega arith)) (true_lt now (g.first + p.r) (omega arith)) in
                absurd cc
          ])
    ]

-- an act that sends a segment again
abbrev IsResend : Act → Type 0
IsResend (give_up g rest) = ⊥
IsResend release = ⊥
IsResend renew = ⊥
IsResend (resend before g after) = Unit {0}
IsResend (send cut rest) = ⊥
IsResend meet = ⊥

only_resend : (p : Params) (now : ℕ) (gs : List Segment) (d : Act) → DueOf p now gs d → IsResend d
only_resend p now gs (give_up g rest) h = h
only_resend p now gs release h = h
only_resend p now gs renew h = h
only_resend p now gs (resend before g after) h = tt
only_resend p now gs (send cut rest) h = h
only_resend p now gs meet h = h

module _ (p : Params) (now : ℕ) (x : SendRecord) where
  -- one segment before the others
  resend_step : (g : Segment) (gs : List Segment) (o : Option Act) (m : Option ℕ) → ((d : Act) → o ≡ Some d → IsResend d) → kind_and_moment p x o ≡ due_if now Resend m → (late : Bool) → is_late p now g ≡ late → kind_and_moment p x (better g gs late o) ≡ due_if now Resend (earlier (own_moment p now g) m)
  resend_step g gs None m only ih true l =
      let own = own_late p now g l in
      let none = none_come now Resend m (sym ih) in
      rw (own.0, earlier_come now (g.last + p.rto) m own.1 none, come now (g.last + p.rto) Resend own.1) refl
  resend_step g gs None m only ih false l = sym (not_come now Resend (earlier (own_moment p now g) m) (earlier_not_yet now (own_moment p now g) m (own_not_late p now g l) (none_come now Resend m (sym ih))))
  resend_step g gs (Some (resend before h after)) m only ih true l =
      let own = own_late p now g l in
      let some = some_come now (h.last + p.rto) Resend m ih in
      elim (cases_Bool (nat_le g.last h.last)) [
        | inl y ↦
            let le = le_true g.last h.last y in
            let e : min (g.last + p.rto) (h.last + p.rto) ≡ g.last + p.rto = omega arith in
            rw (y, own.0, some.0, e, come now (g.last + p.rto) Resend own.1) refl
        | inr n ↦
            let lt = false_le g.last h.last n in
            let e : min (g.last + p.rto) (h.last + p.rto) ≡ h.last + p.rto = omega arith in
            rw (n, own.0, some.0, e, come now (h.last + p.rto) Resend some.1) refl
      ]
  resend_step g gs (Some (resend before h after)) m only ih false l =
      let some = some_come now (h.last + p.rto) Resend m ih in
      rw (some.0, come_earlier now (h.last + p.rto) (own_moment p now g) some.1 (own_not_late p now g l), come now (h.last + p.rto) Resend some.1) refl
  resend_step g gs (Some (give_up a z)) m only ih late l = elim (only (give_up a z) refl) [ ]
  resend_step g gs (Some release) m only ih late l = elim (only release refl) [ ]
  resend_step g gs (Some renew) m only ih late l = elim (only renew refl) [ ]
  resend_step g gs (Some (send a z)) m only ih late l = elim (only (send a z) refl) [ ]
  resend_step g gs (Some meet) m only ih late l = elim (only meet refl) [ ]

  resend_due : (gs : List Segment) → kind_and_moment p x (resending p now gs) ≡ due_if now Resend (resends_from p now gs)
  resend_due [] = refl
  resend_due (g ∷ gs) = resend_step g gs (resending p now gs) (resends_from p now gs) (λ d e. only_resend p now gs d (resend_may p now gs d e)) (resend_due gs) (is_late p now g) refl

  if_due : (b : Bool) (act : Act) → kind_and_moment p x (act_if b act) ≡ (if b then Some (kind_of act, due_moment p x act) else None)
  if_due true act = refl
  if_due false act = refl

  give_due : (gs : List Segment) → kind_and_moment p x (giving_up p now gs) ≡ due_if now GiveUp (gives_up_from p gs)
  give_due [] = refl
  give_due (g ∷ gs) = if_due (nat_le (g.first + give_time p) now) (give_up g gs)

  release_act : (waiting : List Item) → (kind_of (release_or_renew waiting) ≡ Release) × (due_moment p x (release_or_renew waiting) ≡ x.touched + send_time p)
  release_act [] = (refl, refl)
  release_act (i ∷ is) = (refl, refl)

  release_due : (gs : List Segment) → kind_and_moment p x (releasing p now x gs) ≡ due_if now Release (releases_from p x gs)
  release_due [] = let a = release_act x.waiting in if_due (nat_le (x.touched + send_time p) now) (release_or_renew x.waiting) ∙ rw (a.0, a.1) refl
  release_due (g ∷ gs) = refl

  both_due : (b c : Bool) (act : Act) → kind_and_moment p x (act_if (b && c) act) ≡ (if b then (if c then Some (kind_of act, due_moment p x act) else None) else None)
  both_due true c act = if_due c act
  both_due false c act = refl

  moment_due : (b : Bool) (kind : SendKind) (m : ℕ) → (if b then (if nat_le m now then Some (kind, m) else None) else None) ≡ due_if now kind (moment_if b m)
  moment_due true kind m = refl
  moment_due false kind m = refl

  send_due : kind_and_moment p x (sending p now x) ≡ due_if now Send (moment_if (can_send p x) (may_send_from p x))
  send_due = both_due (can_send p x) (nat_le (may_send_from p x) now) (send (cut_of p x) (rest_of p x)) ∙ moment_due (can_send p x) Send (may_send_from p x)

  meet_due : kind_and_moment p x (meeting p now x) ≡ due_if now Meet (moment_if (could_meet x x.outstanding x.waiting) (x.touched + p.probe))
  meet_due = both_due (could_meet x x.outstanding x.waiting) (nat_le (x.touched + p.probe) now) meet ∙ moment_due (could_meet x x.outstanding x.waiting) Meet (x.touched + p.probe)

  or_due : (a b : Option Act) → kind_and_moment p x (or_else a b) ≡ option_or (kind_and_moment p x a) (kind_and_moment p x b)
  or_due None b = refl
  or_due (Some a) b = refl

  first_of_two : (a b : Option Act) (m : Option (SendKind × ℕ)) (n : Option (SendKind × ℕ)) → kind_and_moment p x a ≡ m → kind_and_moment p x b ≡ n → kind_and_moment p x (or_else a b) ≡ option_or m n
  first_of_two a b m n e f = or_due a b ∙ rw (e, f) refl

  -- what is due is the first kind whose moment has come
  pub due_is : due_of p now x ≡ first_due now (send_moments p now x)
  due_is =
      first_of_two (giving_up p now x.outstanding) _ _ _ (give_due x.outstanding)
      (first_of_two (releasing p now x x.outstanding) _ _ _ (release_due x.outstanding)
      (first_of_two (resending p now x.outstanding) _ _ _ (resend_due x.outstanding)
      (first_of_two (sending p now x) (meeting p now x) _ _ send_due meet_due)))
