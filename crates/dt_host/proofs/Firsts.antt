-- The first moment that is noted is that of the act that comes first.
use Rattle.std.proofs.Common.{ℕ, zero, suc, ◌≡◌, ◌<◌, ◌≤◌, List, [], ◌∷◌, Option, Some, None, refl, sym, ap, subst, ◌∙◌, arith}
use Rattle.std.specs.Prelude.{slice_get}
use Rattle.std.specs.Option.{option_and_then}
use Rattle.dt_units.specs.declared.parameters.Params.{Params}
use Rattle.dt_units.specs.declared.endpoints.Flow.{Flow}
use Rattle.dt_flow_model.specs.declared.acts.SendKind.{SendKind}
use Rattle.dt_flow_model.specs.declared.acts.SendKind.TheVariants.{GiveUp, Release, Resend, Send, Meet}
use Rattle.dt_flow_model.specs.declared.acts.RecvKind.{RecvKind}
use Rattle.dt_flow_model.specs.declared.moments.SendMoments.{SendMoments}
use Rattle.dt_flow_model.specs.declared.moments.RecvMoments.{RecvMoments}
use Rattle.dt_flow_model.specs.SendActs.{send_moment}
use Rattle.dt_flow_model.specs.ReceiveRecord.{recv_moment}
use Rattle.dt_send.specs.Senders.{SenderValue}
use Rattle.dt_recv.specs.Receivers.{ReceiverValue}
use Rattle.dt_host.specs.declared.dues.DueKind.{DueKind}
use Rattle.dt_table.specs.Firsts.{HasNone, IsFirstIn, moment_in}
use Rattle.dt_host.specs.Notes.{SendNote}
use Rattle.dt_table.specs.Tables.{records_by}
use Rattle.dt_table.specs.Tables.{AreNoted}
use Rattle.dt_host.specs.Notes.{IsRecvNoted, IsSendNoted}
use Rattle.dt_host.specs.Soonest.{IsQuiet, IsSoonest, receiver_moment, sender_moment}
use Rattle.dt_table.proofs.Somes.{none_some, same_some}
use Rattle.dt_host.proofs.Resends.{resend_later}

module _ {A B N : Type 0} (seen : A → B) (P : B → N → Type 0) where
  pub note_there : (es : List (Flow × A)) (ns : List N) → AreNoted P (records_by seen es) ns → (i : ℕ) (e : Flow × A) → slice_get es i ≡ Some e → (n : N) × (slice_get ns i ≡ Some n) × P (seen e.1) n
  note_there [] ns all i e h = absurd (none_some e h)
  note_there (d ∷ es) [] all i e h = absurd all
  note_there (d ∷ es) (n ∷ ns) all zero e h = (n, refl, subst (λ (x : Flow × A). P (seen x.1) n) (same_some d e h) all.0)
  note_there (d ∷ es) (n ∷ ns) all (suc i) e h = note_there es ns all.1 i e h

  pub entry_there : (es : List (Flow × A)) (ns : List N) → AreNoted P (records_by seen es) ns → (i : ℕ) (n : N) → slice_get ns i ≡ Some n → (e : Flow × A) × (slice_get es i ≡ Some e) × P (seen e.1) n
  entry_there [] [] all i n h = absurd (none_some n h)
  entry_there [] (m ∷ ns) all i n h = absurd all
  entry_there (d ∷ es) [] all i n h = absurd all
  entry_there (d ∷ es) (m ∷ ns) all zero n h = (d, refl, subst (λ (x : N). P (seen d.1) x) (same_some m n h) all.0)
  entry_there (d ∷ es) (m ∷ ns) all (suc i) n h = entry_there es ns all.1 i n h

  module _ (noted : N → Option ℕ) (exact : A → Option ℕ) (later : (a : A) (n : N) → P (seen a) n → (m : ℕ) → exact a ≡ Some m → (v : ℕ) × (noted n ≡ Some v) × (v ≤ m))
      (now : ℕ) (es : List (Flow × A)) (ns : List N) (all : AreNoted P (records_by seen es) ns) where
    -- a moment of an entry isn't before the one that is noted
    stands : (i : ℕ) (e : Flow × A) (m : ℕ) → slice_get es i ≡ Some e → exact e.1 ≡ Some m → (v : ℕ) × (moment_in noted ns i ≡ Some v) × (v ≤ m)
    stands i e m there is =
        let n = note_there es ns all i e there in
        let v = later e.1 n.0 n.2 m is in
        (v.0, ap (option_and_then noted) n.1 ∙ v.1, v.2)

    pub quiet_none : HasNone noted ns → IsQuiet exact now es
    quiet_none none = λ i e m there is. let v = stands i e m there is in absurd (none i v.0 v.1)

    module _ (m index : ℕ) (first : IsFirstIn noted ns m index) where
      pub quiet_first : now < m → IsQuiet exact now es
      quiet_first less = λ i e k there is.
          let v = stands i e k there is in
          let a = first.least i v.0 v.1 in
          let b = v.2 in
          omega arith

      pub soonest_of : (kind : DueKind) (f : Flow) (a : A) → m ≤ now → slice_get es index ≡ Some (f, a) → exact a ≡ Some m → IsSoonest exact now es kind (record { kind = kind; moment = m; flow = f })
      soonest_of kind f a come there is = record {
        is = refl;
        index = index;
        owner = a;
        entry = there;
        here = is;
        come = come;
        least = λ i e k at own. let v = stands i e k at own in let x = first.least i v.0 v.1 in let y = v.2 in omega arith;
        before = λ i e k less at own. let v = stands i e k at own in let x = first.before i v.0 less v.1 in let y = v.2 in omega arith;
      }

      first_note : (o : Option N) → slice_get ns index ≡ o → (n : N) × (slice_get ns index ≡ Some n) × (noted n ≡ Some m)
      first_note None e = absurd (none_some m (sym (ap (option_and_then noted) e) ∙ first.there))
      first_note (Some n) e = (n, e, sym (ap (option_and_then noted) e) ∙ first.there)

      -- the entry of the first
      pub first_entry : (e : Flow × A) × (slice_get es index ≡ Some e) × (n : N) × P (seen e.1) n × (noted n ≡ Some m)
      first_entry =
          let n = first_note (slice_get ns index) refl in
          let e = entry_there es ns all index n.0 n.1 in
          (e.0, e.1, n.0, e.2, n.2)

-- SENDERS
pub send_later : (p : Params) (now : ℕ) (kind : SendKind) (s : SenderValue) (n : SendNote) → IsSendNoted p now s.state n → (m : ℕ) → sender_moment p now kind s ≡ Some m → (v : ℕ) × (send_moment n.moments kind ≡ Some v) × (v ≤ m)
send_later p now GiveUp s n is m e = (m, ap (λ (k : SendMoments). k.give_up) is.moments ∙ e, omega arith)
send_later p now Release s n is m e = (m, ap (λ (k : SendMoments). k.release) is.moments ∙ e, omega arith)
send_later p now Resend s n is m e = let v = resend_later p is.since now is.past s.state.outstanding m e in (v.0, ap (λ (k : SendMoments). k.resend) is.moments ∙ v.1, v.2)
send_later p now Send s n is m e = (m, ap (λ (k : SendMoments). k.send) is.moments ∙ e, omega arith)
send_later p now Meet s n is m e = (m, ap (λ (k : SendMoments). k.meet) is.moments ∙ e, omega arith)

-- all but that of a resend is exact
pub send_exact : (p : Params) (now : ℕ) (kind : SendKind) (s : SenderValue) (n : SendNote) → (kind ≡ Resend → ⊥) → IsSendNoted p now s.state n → (m : ℕ) → send_moment n.moments kind ≡ Some m → sender_moment p now kind s ≡ Some m
send_exact p now GiveUp s n other is m e = sym (ap (λ (k : SendMoments). k.give_up) is.moments) ∙ e
send_exact p now Release s n other is m e = sym (ap (λ (k : SendMoments). k.release) is.moments) ∙ e
send_exact p now Resend s n other is m e = absurd (other refl)
send_exact p now Send s n other is m e = sym (ap (λ (k : SendMoments). k.send) is.moments) ∙ e
send_exact p now Meet s n other is m e = sym (ap (λ (k : SendMoments). k.meet) is.moments) ∙ e

pub recv_exact : (p : Params) (kind : RecvKind) (r : ReceiverValue) (n : RecvMoments) → IsRecvNoted p r.state n → recv_moment n kind ≡ receiver_moment p kind r
recv_exact p kind r n is = ap (λ (k : RecvMoments). recv_moment k kind) is
