-- What each record offers, by the moments of its kinds; and the offer that comes first.
use Rattle.std.proofs.Common.{ℕ, ◌≡◌, ◌+◌, ◌<◌, ◌≤◌, ◌⊎◌, Bool, true, false, List, Option, Some, None, refl, sym, ap, subst, ◌∙◌, inl, inr, arith}
use Rattle.std.specs.Prelude.{IfSome, ◌==◌, if◌then◌else◌, nat_le, slice_get}
use Rattle.std.specs.Option.{option_or}
use Rattle.std.proofs.lemmas.Bool.{cases_Bool, cases_eq, cases_lt}
use Rattle.std.proofs.lemmas.Bool.Decides.{nat_tests}
use Rattle.dt_units.specs.declared.parameters.Params.{Params}
use Rattle.dt_units.specs.declared.endpoints.Flow.{Flow}
use Rattle.dt_units.specs.Times.{receive_time}
use Rattle.dt_flow_model.specs.declared.acts.SendKind.{SendKind}
use Rattle.dt_flow_model.specs.declared.acts.SendKind.TheVariants as S
use Rattle.dt_flow_model.specs.declared.acts.RecvKind.{RecvKind}
use Rattle.dt_flow_model.specs.declared.acts.RecvKind.TheVariants as R
use Rattle.dt_flow_model.specs.declared.moments.SendMoments.{SendMoments}
use Rattle.dt_flow_model.specs.SendActs.{due_of, send_moment, send_moments}
use Rattle.dt_flow_model.specs.ReceiveRecord.{ReceiveRecord, owing, recv_due_of, recv_moment, recv_moment_if, recv_moments}
use Rattle.dt_send.specs.Senders.{SenderValue, due_if, first_due}
use Rattle.dt_send.proofs.DueLemmas.{due_is}
use Rattle.dt_recv.specs.Receivers.{ReceiverValue}
use Rattle.dt_world_model.specs.Host.{recv_class, send_class}
use Rattle.dt_host.specs.declared.dues.DueAct.{DueAct}
use Rattle.dt_host.specs.declared.dues.DueKind.{DueKind}
use Rattle.dt_host.specs.declared.dues.DueKind.TheVariants as due
use Rattle.dt_host.specs.Dues.{class_of, goes_first, or_recv, or_send, soonest_recv, soonest_send}
use Rattle.dt_host.specs.Hosts.{AreReceiveEntries, AreSendEntries}
use Rattle.dt_host.specs.Soonest.{IsQuiet, IsSoonest, receiver_moment, sender_moment}
use Rattle.dt_table.proofs.Somes.{none_some, same_some}
use Rattle.dt_host.proofs.Picks.{Beaten, Stays, receiver_own, recv_end, recv_step, send_end, send_step, sender_own, walks_beaten, walks_none, walks_on, walks_to}
use Rattle.dt_host.specs.Hosts.{IsReceiveEntry, IsSendEntry}
use Rattle.dt_table.proofs.Entries.{entry_at}

-- THE ORDER
less_class : (a b : DueAct) → class_of a.kind < class_of b.kind → goes_first a b ≡ true
less_class a b h = grind (arith, nat_tests)

same_class : (a b : DueAct) → class_of a.kind ≡ class_of b.kind → a.moment < b.moment → goes_first a b ≡ true
same_class a b e h = grind (arith, nat_tests)

greater_class : (a b : DueAct) → class_of b.kind < class_of a.kind → goes_first a b ≡ false
greater_class a b h = grind (arith, nat_tests)

no_earlier : (a b : DueAct) → class_of a.kind ≡ class_of b.kind → b.moment ≤ a.moment → goes_first a b ≡ false
no_earlier a b e h = grind (arith, nat_tests)

-- the kind of a class
sender_kind : ℕ → SendKind
sender_kind n = if n == 0 then S.GiveUp else (if n == 1 then S.Release else (if n == 4 then S.Resend else (if n == 5 then S.Send else S.Meet)))

sender_kind_is : (k : SendKind) → sender_kind (send_class k) ≡ k
unfolding sender_kind
sender_kind_is S.GiveUp = refl
sender_kind_is S.Release = refl
sender_kind_is S.Resend = refl
sender_kind_is S.Send = refl
sender_kind_is S.Meet = refl

same_sender_kind : (k l : SendKind) → send_class k ≡ send_class l → k ≡ l
same_sender_kind k l e = sym (sender_kind_is k) ∙ ap sender_kind e ∙ sender_kind_is l

receiver_kind : ℕ → RecvKind
receiver_kind n = if n == 2 then R.Release else R.Ack

receiver_kind_is : (k : RecvKind) → receiver_kind (recv_class k) ≡ k
unfolding receiver_kind
receiver_kind_is R.Release = refl
receiver_kind_is R.Ack = refl

same_receiver_kind : (k l : RecvKind) → recv_class k ≡ recv_class l → k ≡ l
same_receiver_kind k l e = sym (receiver_kind_is k) ∙ ap receiver_kind e ∙ receiver_kind_is l

apart_classes : (k : SendKind) (l : RecvKind) → send_class k ≡ recv_class l → ⊥
apart_classes S.GiveUp R.Release e = omega arith
apart_classes S.GiveUp R.Ack e = omega arith
apart_classes S.Release R.Release e = omega arith
apart_classes S.Release R.Ack e = omega arith
apart_classes S.Resend R.Release e = omega arith
apart_classes S.Resend R.Ack e = omega arith
apart_classes S.Send R.Release e = omega arith
apart_classes S.Send R.Ack e = omega arith
apart_classes S.Meet R.Release e = omega arith
apart_classes S.Meet R.Ack e = omega arith

-- ONE KIND'S DUE
no_due : (now : ℕ) (kind : SendKind) (o : Option ℕ) → ((m : ℕ) → o ≡ Some m → now < m) → due_if now kind o ≡ None
no_due now kind None h = refl
no_due now kind (Some m) h =
    let late = h m refl in
    let off : nat_le m now ≡ false = grind (arith, nat_tests) in
    ap (λ (b : Bool). if b then Some (kind, m) else None) off

is_due : (now : ℕ) (kind : SendKind) (o : Option ℕ) (m : ℕ) → o ≡ Some m → m ≤ now → due_if now kind o ≡ Some (kind, m)
is_due now kind o m e h =
    let on : nat_le m now ≡ true = grind (arith, nat_tests) in
    ap (due_if now kind) e ∙ ap (λ (b : Bool). if b then Some (kind, m) else None) on

due_inv : (now : ℕ) (kind k : SendKind) (o : Option ℕ) (m : ℕ) → due_if now kind o ≡ Some (k, m) → (kind ≡ k) × (o ≡ Some m) × (m ≤ now)
due_inv now kind k None m e = absurd (none_some (let r : SendKind × ℕ = (k, m) in r) e)
due_inv now kind k (Some n) m e =
    elim (cases_Bool (nat_le n now)) [
      | inl y ↦
          let at = same_some (kind, n) (k, m) (sym (ap (λ (b : Bool). if b then Some (kind, n) else None) y) ∙ e) in
          let same = ap (λ (r : SendKind × ℕ). r.1) at in
          let le : n ≤ now = grind (arith, nat_tests) in
          (ap (λ (r : SendKind × ℕ). r.0) at, ap (λ (i : ℕ). Some i) same, omega arith)
      | inr off ↦ absurd (none_some (let r : SendKind × ℕ = (k, m) in r) (sym (ap (λ (b : Bool). if b then Some (kind, n) else None) off) ∙ e))
    ]

or_inv : {X : Type 0} (a b : Option X) (x : X) → option_or a b ≡ Some x → (a ≡ Some x) ⊎ (b ≡ Some x)
or_inv None b x e = inr e
or_inv (Some y) b x e = inl e

module _ (now : ℕ) (m : SendMoments) where
  IsIts : SendKind → ℕ → Type 0
  IsIts k mo = (send_moment m k ≡ Some mo) × (mo ≤ now)

  by_kind : (kind k : SendKind) (mo : ℕ) → due_if now kind (send_moment m kind) ≡ Some (k, mo) → (send_moment m k ≡ Some mo) × (mo ≤ now)
  by_kind kind k mo e =
      let d = due_inv now kind k (send_moment m kind) mo e in
      (ap (send_moment m) (sym d.0) ∙ d.1, d.2)

  pub first_inv : (k : SendKind) (mo : ℕ) → first_due now m ≡ Some (k, mo) → (send_moment m k ≡ Some mo) × (mo ≤ now)
  first_inv k mo e =
      let r : SendKind × ℕ = (k, mo) in
      elim (or_inv (due_if now S.GiveUp m.give_up) (option_or (due_if now S.Release m.release) (option_or (due_if now S.Resend m.resend) (option_or (due_if now S.Send m.send) (due_if now S.Meet m.meet)))) r e) [
        | inl a ↦ by_kind S.GiveUp k mo a
        | inr e1 ↦ elim (or_inv (due_if now S.Release m.release) (option_or (due_if now S.Resend m.resend) (option_or (due_if now S.Send m.send) (due_if now S.Meet m.meet))) r e1) [
          | inl b ↦ by_kind S.Release k mo b
          | inr e2 ↦ elim (or_inv (due_if now S.Resend m.resend) (option_or (due_if now S.Send m.send) (due_if now S.Meet m.meet)) r e2) [
            | inl c ↦ by_kind S.Resend k mo c
            | inr e3 ↦ elim (or_inv (due_if now S.Send m.send) (due_if now S.Meet m.meet) r e3) [
              | inl d ↦ by_kind S.Send k mo d
              | inr f ↦ by_kind S.Meet k mo f
            ]
          ]
        ]
      ]

  pub first_is : (k : SendKind) (mo : ℕ) → send_moment m k ≡ Some mo → mo ≤ now → ((l : SendKind) → send_class l < send_class k → (i : ℕ) → send_moment m l ≡ Some i → now < i) → first_due now m ≡ Some (k, mo)
  first_is S.GiveUp mo e le low = ap (λ (o : Option (SendKind × ℕ)). option_or o (option_or (due_if now S.Release m.release) (option_or (due_if now S.Resend m.resend) (option_or (due_if now S.Send m.send) (due_if now S.Meet m.meet))))) (is_due now S.GiveUp m.give_up mo e le)
  first_is S.Release mo e le low =
      let a = no_due now S.GiveUp m.give_up (low S.GiveUp (omega arith)) in
      let b = is_due now S.Release m.release mo e le in
      rw (a, b) refl
  first_is S.Resend mo e le low =
      let a = no_due now S.GiveUp m.give_up (low S.GiveUp (omega arith)) in
      let b = no_due now S.Release m.release (low S.Release (omega arith)) in
      let c = is_due now S.Resend m.resend mo e le in
      rw (a, b, c) refl
  first_is S.Send mo e le low =
      let a = no_due now S.GiveUp m.give_up (low S.GiveUp (omega arith)) in
      let b = no_due now S.Release m.release (low S.Release (omega arith)) in
      let c = no_due now S.Resend m.resend (low S.Resend (omega arith)) in
      let d = is_due now S.Send m.send mo e le in
      rw (a, b, c, d) refl
  first_is S.Meet mo e le low =
      let a = no_due now S.GiveUp m.give_up (low S.GiveUp (omega arith)) in
      let b = no_due now S.Release m.release (low S.Release (omega arith)) in
      let c = no_due now S.Resend m.resend (low S.Resend (omega arith)) in
      let d = no_due now S.Send m.send (low S.Send (omega arith)) in
      let f = is_due now S.Meet m.meet mo e le in
      rw (a, b, c, d, f) refl

-- A RECEIVER'S
module _ (p : Params) (now : ℕ) where
  recv_inv : (standing : Option ReceiveRecord) (k : RecvKind) (mo : ℕ) → recv_due_of p now standing ≡ Some (k, mo) → (recv_moment (recv_moments p standing) k ≡ Some mo) × (mo ≤ now)
  recv_inv None k mo e = absurd (none_some (let r : RecvKind × ℕ = (k, mo) in r) e)
  recv_inv (Some y) k mo e =
      elim (cases_Bool (nat_le (y.touched + receive_time p) now)) [
        | inl on ↦
            let at = same_some (R.Release, y.touched + receive_time p) (k, mo) (sym (ap (λ (b : Bool). if b then Some (R.Release, y.touched + receive_time p) else owing now y.due) on) ∙ e) in
            let kind = ap (λ (r : RecvKind × ℕ). r.0) at in
            let moment = ap (λ (r : RecvKind × ℕ). r.1) at in
            let le : y.touched + receive_time p ≤ now = grind (arith, nat_tests) in
            (ap (recv_moment (recv_moments p (Some y))) (sym kind) ∙ ap (λ (i : ℕ). Some i) moment, omega arith)
        | inr off ↦ owed y.due refl (sym (ap (λ (b : Bool). if b then Some (R.Release, y.touched + receive_time p) else owing now y.due) off) ∙ e)
      ]
    where
      owed : (o : Option ℕ) → y.due ≡ o → owing now y.due ≡ Some (k, mo) → (recv_moment (recv_moments p (Some y)) k ≡ Some mo) × (mo ≤ now)
      owed None is h = absurd (none_some (let r : RecvKind × ℕ = (k, mo) in r) (sym (ap (owing now) is) ∙ h))
      owed (Some d) is h =
          elim (cases_Bool (nat_le d now)) [
            | inl on ↦
                let at = same_some (R.Ack, d) (k, mo) (sym (ap (λ (b : Bool). recv_moment_if b R.Ack d) on) ∙ sym (ap (owing now) is) ∙ h) in
                let kind = ap (λ (r : RecvKind × ℕ). r.0) at in
                let moment = ap (λ (r : RecvKind × ℕ). r.1) at in
                let le : d ≤ now = grind (arith, nat_tests) in
                (ap (recv_moment (recv_moments p (Some y))) (sym kind) ∙ is ∙ ap (λ (i : ℕ). Some i) moment, omega arith)
            | inr off ↦ absurd (none_some (let r : RecvKind × ℕ = (k, mo) in r) (sym (ap (λ (b : Bool). recv_moment_if b R.Ack d) off) ∙ sym (ap (owing now) is) ∙ h))
          ]

  recv_is : (standing : Option ReceiveRecord) (k : RecvKind) (mo : ℕ) → recv_moment (recv_moments p standing) k ≡ Some mo → mo ≤ now → ((l : RecvKind) → recv_class l < recv_class k → (i : ℕ) → recv_moment (recv_moments p standing) l ≡ Some i → now < i) → recv_due_of p now standing ≡ Some (k, mo)
  recv_is None R.Release mo e le low = absurd (none_some mo e)
  recv_is None R.Ack mo e le low = absurd (none_some mo e)
  recv_is (Some y) R.Release mo e le low =
      let is = same_some (y.touched + receive_time p) mo e in
      let on : nat_le (y.touched + receive_time p) now ≡ true = grind (arith, nat_tests) in
      ap (λ (b : Bool). if b then Some (R.Release, y.touched + receive_time p) else owing now y.due) on ∙ ap (λ (i : ℕ). Some (R.Release, i)) is
  recv_is (Some y) R.Ack mo e le low =
      let late = low R.Release (omega arith) (y.touched + receive_time p) refl in
      let off : nat_le (y.touched + receive_time p) now ≡ false = grind (arith, nat_tests) in
      let on : nat_le mo now ≡ true = grind (arith, nat_tests) in
      ap (λ (b : Bool). if b then Some (R.Release, y.touched + receive_time p) else owing now y.due) off
      ∙ ap (owing now) e
      ∙ ap (λ (b : Bool). recv_moment_if b R.Ack mo) on

-- THE FIRST OF ALL
module _ (p : Params) (now : ℕ) (ss : List (Flow × SenderValue)) (all_s : AreSendEntries p ss) (rs : List (Flow × ReceiverValue)) (all_r : AreReceiveEntries p rs) where
  abbrev send_act : Flow → SendKind → ℕ → DueAct
  send_act f k mo = record { kind = due.Send k; moment = mo; flow = f }

  abbrev recv_act : Flow → RecvKind → ℕ → DueAct
  recv_act f k mo = record { kind = due.Recv k; moment = mo; flow = f }

  abbrev QuietS : SendKind → Type 0
  QuietS k = IsQuiet (sender_moment p now k) now ss

  abbrev QuietR : RecvKind → Type 0
  QuietR k = IsQuiet (receiver_moment p k) now rs

  send_due : (i : ℕ) (e : Flow × SenderValue) → slice_get ss i ≡ Some e → due_of e.1.rules now e.1.state ≡ first_due now (send_moments p now e.1.state)
  send_due i e at = let entry = entry_at (IsSendEntry p) ss i e.0 e.1 all_s at in ap (λ (q : Params). due_of q now e.1.state) entry.rules ∙ due_is p now e.1.state

  recv_due : (i : ℕ) (e : Flow × ReceiverValue) → slice_get rs i ≡ Some e → recv_due_of e.1.rules now e.1.state.standing ≡ recv_due_of p now e.1.state.standing
  recv_due i e at = let entry = entry_at (IsReceiveEntry p) rs i e.0 e.1 all_r at in ap (λ (q : Params). recv_due_of q now e.1.state.standing) entry.rules

  -- what holds of each act that an entry may offer holds of the one that it offers
  send_all : (P : Option DueAct → Type 0) → P None → (i : ℕ) (e : Flow × SenderValue) → slice_get ss i ≡ Some e → ((k : SendKind) (mo : ℕ) → sender_moment p now k e.1 ≡ Some mo → mo ≤ now → P (Some (send_act e.0 k mo))) → P (sender_own now e)
  send_all P none i e at each = by (due_of e.1.rules now e.1.state) refl
    where
      by : (o : Option (SendKind × ℕ)) → due_of e.1.rules now e.1.state ≡ o → P (or_send e.0 (due_of e.1.rules now e.1.state) None)
      by None is = subst (λ (o : Option (SendKind × ℕ)). P (or_send e.0 o None)) (sym is) none
      by (Some (k, mo)) is =
          let f = first_inv now (send_moments p now e.1.state) k mo (sym (send_due i e at) ∙ is) in
          subst (λ (o : Option (SendKind × ℕ)). P (or_send e.0 o None)) (sym is) (each k mo f.0 f.1)

  recv_all : (P : Option DueAct → Type 0) → P None → (i : ℕ) (e : Flow × ReceiverValue) → slice_get rs i ≡ Some e → ((k : RecvKind) (mo : ℕ) → receiver_moment p k e.1 ≡ Some mo → mo ≤ now → P (Some (recv_act e.0 k mo))) → P (receiver_own now e)
  recv_all P none i e at each = by (recv_due_of e.1.rules now e.1.state.standing) refl
    where
      by : (o : Option (RecvKind × ℕ)) → recv_due_of e.1.rules now e.1.state.standing ≡ o → P (or_recv e.0 (recv_due_of e.1.rules now e.1.state.standing) None)
      by None is = subst (λ (o : Option (RecvKind × ℕ)). P (or_recv e.0 o None)) (sym is) none
      by (Some (k, mo)) is =
          let f = recv_inv p now e.1.state.standing k mo (sym (recv_due i e at) ∙ is) in
          subst (λ (o : Option (RecvKind × ℕ)). P (or_recv e.0 o None)) (sym is) (each k mo f.0 f.1)

  late : (m : ℕ) → now < m → m ≤ now → ⊥
  late m h k = omega arith

  -- A SENDER'S ACT COMES FIRST
  module _ (kind : SendKind) (low_s : (k : SendKind) → send_class k < send_class kind → QuietS k) (low_r : (k : RecvKind) → recv_class k < send_class kind → QuietR k) (d : DueAct) (is : IsSoonest (sender_moment p now kind) now ss (due.Send kind) d) where
    own_class : class_of d.kind ≡ send_class kind
    own_class = ap class_of is.is

    send_before : (i : ℕ) (e : Flow × SenderValue) → i < is.index → slice_get ss i ≡ Some e → Beaten d (sender_own now e)
    send_before i e less at = send_all (Beaten d) tt i e at (λ k mo own le.
        elim (cases_lt (send_class k) (send_class kind)) [
          | inl lower ↦ absurd (late mo (low_s k lower i e mo at own) le)
          | inr higher ↦
              elim (cases_eq (send_class k) (send_class kind)) [
                | inl same ↦ same_class d (send_act e.0 k mo) (own_class ∙ sym same) (is.before i e mo less at (ap (λ (l : SendKind). sender_moment p now l e.1) (sym (same_sender_kind k kind same)) ∙ own))
                | inr apart ↦ let c = own_class in less_class d (send_act e.0 k mo) (omega arith)
              ]
        ])

    send_rest : (i : ℕ) (e : Flow × SenderValue) → slice_get ss i ≡ Some e → Stays d (sender_own now e)
    send_rest i e at = send_all (Stays d) tt i e at (λ k mo own le.
        elim (cases_lt (send_class k) (send_class kind)) [
          | inl lower ↦ absurd (late mo (low_s k lower i e mo at own) le)
          | inr higher ↦
              elim (cases_eq (send_class k) (send_class kind)) [
                | inl same ↦ no_earlier (send_act e.0 k mo) d (same ∙ sym own_class) (is.least i e mo at (ap (λ (l : SendKind). sender_moment p now l e.1) (sym (same_sender_kind k kind same)) ∙ own))
                | inr apart ↦ let c = own_class in greater_class (send_act e.0 k mo) d (omega arith)
              ]
        ])

    recv_rest : (i : ℕ) (e : Flow × ReceiverValue) → slice_get rs i ≡ Some e → Stays d (receiver_own now e)
    recv_rest i e at = recv_all (Stays d) tt i e at (λ k mo own le.
        elim (cases_lt (recv_class k) (send_class kind)) [
          | inl lower ↦ absurd (late mo (low_r k lower i e mo at own) le)
          | inr higher ↦ let c = own_class in let apart : send_class kind ≡ recv_class k → ⊥ = apart_classes kind k in greater_class (recv_act e.0 k mo) d (omega arith)
        ])

    own_is : sender_own now (d.flow, is.owner) ≡ Some d
    own_is =
        ap (λ (o : Option (SendKind × ℕ)). or_send d.flow o None)
        (send_due is.index (d.flow, is.owner) is.entry ∙ first_is now (send_moments p now is.owner.state) kind d.moment is.here is.come (λ l lower i own. low_s l lower is.index (d.flow, is.owner) i is.entry own))
        ∙ ap (λ (k : DueKind). Some (let a : DueAct = record { kind = k; moment = d.moment; flow = d.flow } in a)) (sym is.is)

    pub sender_first : soonest_recv now (soonest_send now None ss) rs ≡ Some d
    sender_first =
        ap (λ (o : Option DueAct). soonest_recv now o rs) (walks_to (sender_own now) (soonest_send now) (send_end now) (send_step now) d ss is.index None (d.flow, is.owner) tt is.entry own_is send_before send_rest)
        ∙ walks_on (receiver_own now) (soonest_recv now) (recv_end now) (recv_step now) d rs recv_rest

  -- A RECEIVER'S ACT COMES FIRST
  module _ (kind : RecvKind) (low_s : (k : SendKind) → send_class k < recv_class kind → QuietS k) (low_r : (k : RecvKind) → recv_class k < recv_class kind → QuietR k) (d : DueAct) (is : IsSoonest (receiver_moment p kind) now rs (due.Recv kind) d) where
    its_class : class_of d.kind ≡ recv_class kind
    its_class = ap class_of is.is

    all_beaten : (i : ℕ) (e : Flow × SenderValue) → slice_get ss i ≡ Some e → Beaten d (sender_own now e)
    all_beaten i e at = send_all (Beaten d) tt i e at (λ k mo own le.
        elim (cases_lt (send_class k) (recv_class kind)) [
          | inl lower ↦ absurd (late mo (low_s k lower i e mo at own) le)
          | inr higher ↦ let c = its_class in let apart : send_class k ≡ recv_class kind → ⊥ = apart_classes k kind in less_class d (send_act e.0 k mo) (omega arith)
        ])

    recv_before : (i : ℕ) (e : Flow × ReceiverValue) → i < is.index → slice_get rs i ≡ Some e → Beaten d (receiver_own now e)
    recv_before i e less at = recv_all (Beaten d) tt i e at (λ k mo own le.
        elim (cases_lt (recv_class k) (recv_class kind)) [
          | inl lower ↦ absurd (late mo (low_r k lower i e mo at own) le)
          | inr higher ↦
              elim (cases_eq (recv_class k) (recv_class kind)) [
                | inl same ↦ same_class d (recv_act e.0 k mo) (its_class ∙ sym same) (is.before i e mo less at (ap (λ (l : RecvKind). receiver_moment p l e.1) (sym (same_receiver_kind k kind same)) ∙ own))
                | inr apart ↦ let c = its_class in less_class d (recv_act e.0 k mo) (omega arith)
              ]
        ])

    recv_others : (i : ℕ) (e : Flow × ReceiverValue) → slice_get rs i ≡ Some e → Stays d (receiver_own now e)
    recv_others i e at = recv_all (Stays d) tt i e at (λ k mo own le.
        elim (cases_lt (recv_class k) (recv_class kind)) [
          | inl lower ↦ absurd (late mo (low_r k lower i e mo at own) le)
          | inr higher ↦
              elim (cases_eq (recv_class k) (recv_class kind)) [
                | inl same ↦ no_earlier (recv_act e.0 k mo) d (same ∙ sym its_class) (is.least i e mo at (ap (λ (l : RecvKind). receiver_moment p l e.1) (sym (same_receiver_kind k kind same)) ∙ own))
                | inr apart ↦ let c = its_class in greater_class (recv_act e.0 k mo) d (omega arith)
              ]
        ])

    offer_is : receiver_own now (d.flow, is.owner) ≡ Some d
    offer_is =
        ap (λ (o : Option (RecvKind × ℕ)). or_recv d.flow o None)
        (recv_due is.index (d.flow, is.owner) is.entry ∙ recv_is p now is.owner.state.standing kind d.moment is.here is.come (λ l lower i own. low_r l lower is.index (d.flow, is.owner) i is.entry own))
        ∙ ap (λ (k : DueKind). Some (let a : DueAct = record { kind = k; moment = d.moment; flow = d.flow } in a)) (sym is.is)

    pub receiver_first : soonest_recv now (soonest_send now None ss) rs ≡ Some d
    receiver_first =
        let beaten = walks_beaten (sender_own now) (soonest_send now) (send_end now) (send_step now) d ss None tt all_beaten in
        walks_to (receiver_own now) (soonest_recv now) (recv_end now) (recv_step now) d rs is.index (soonest_send now None ss) (d.flow, is.owner) beaten is.entry offer_is recv_before recv_others

  -- NOTHING IS DUE
  module _ (quiet_s : (k : SendKind) → QuietS k) (quiet_r : (k : RecvKind) → QuietR k) where
    no_sender : (i : ℕ) (e : Flow × SenderValue) → slice_get ss i ≡ Some e → sender_own now e ≡ None
    no_sender i e at = send_all (λ (o : Option DueAct). o ≡ None) refl i e at (λ k mo own le. absurd (late mo (quiet_s k i e mo at own) le))

    no_receiver : (i : ℕ) (e : Flow × ReceiverValue) → slice_get rs i ≡ Some e → receiver_own now e ≡ None
    no_receiver i e at = recv_all (λ (o : Option DueAct). o ≡ None) refl i e at (λ k mo own le. absurd (late mo (quiet_r k i e mo at own) le))

    pub none_first : soonest_recv now (soonest_send now None ss) rs ≡ None
    none_first =
        walks_none (receiver_own now) (soonest_recv now) (recv_end now) (recv_step now) rs (soonest_send now None ss) no_receiver
        ∙ walks_none (sender_own now) (soonest_send now) (send_end now) (send_step now) ss None no_sender

-- THE LAST KIND: either it comes first, or nothing is due
module _ (p : Params) (now : ℕ) (ss : List (Flow × SenderValue)) (all_s : AreSendEntries p ss) (rs : List (Flow × ReceiverValue)) (all_r : AreReceiveEntries p rs) where
  pub either_way : ((k : SendKind) → send_class k < 6 → IsQuiet (sender_moment p now k) now ss) → ((k : RecvKind) → recv_class k < 6 → IsQuiet (receiver_moment p k) now rs) → (o : Option DueAct) → (o ≡ None → IsQuiet (sender_moment p now S.Meet) now ss) → IfSome o (λ d. IsSoonest (sender_moment p now S.Meet) now ss (due.Send S.Meet) d) → o ≡ soonest_recv now (soonest_send now None ss) rs
  either_way low_s low_r (Some d) quiet found = sym (sender_first p now ss all_s rs all_r S.Meet low_s low_r d found)
  either_way low_s low_r None quiet found = sym (none_first p now ss all_s rs all_r every_s every_r)
    where
      every_s : (k : SendKind) → IsQuiet (sender_moment p now k) now ss
      every_s S.GiveUp = low_s S.GiveUp (omega arith)
      every_s S.Release = low_s S.Release (omega arith)
      every_s S.Resend = low_s S.Resend (omega arith)
      every_s S.Send = low_s S.Send (omega arith)
      every_s S.Meet = quiet refl

      every_r : (k : RecvKind) → IsQuiet (receiver_moment p k) now rs
      every_r R.Release = low_r R.Release (omega arith)
      every_r R.Ack = low_r R.Ack (omega arith)

-- what is quiet so far, kind by kind
pub lower_send : (P : SendKind → Type 0) (c : ℕ) → (0 < c → P S.GiveUp) → (1 < c → P S.Release) → (4 < c → P S.Resend) → (5 < c → P S.Send) → (6 < c → P S.Meet) → (k : SendKind) → send_class k < c → P k
lower_send P c a b d e f S.GiveUp h = a h
lower_send P c a b d e f S.Release h = b h
lower_send P c a b d e f S.Resend h = d h
lower_send P c a b d e f S.Send h = e h
lower_send P c a b d e f S.Meet h = f h

pub lower_recv : (P : RecvKind → Type 0) (c : ℕ) → (2 < c → P R.Release) → (3 < c → P R.Ack) → (k : RecvKind) → recv_class k < c → P k
lower_recv P c a b R.Release h = a h
lower_recv P c a b R.Ack h = b h
